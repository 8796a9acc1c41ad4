-- A run that ended before a job of its task was given is truthful, and its neighbours are not.
use Rattle.std.proofs.Common.{◌≡◌, ◌∙◌, ◌⊎◌, ◌≤◌, ℕ, List, [], ◌∷◌, Option, Some, None, refl, sym, ap, subst, inl, inr, Contains, length, arith, true}
use Rattle.s3_model.specs.declared.answers.Listed.{Listed}
use Rattle.s3_model.specs.declared.tasks.Kind.TheVariants as kind
use Rattle.s3_model.specs.declared.tasks.Task.{Task}
use Rattle.job_terms.specs.Buffers.{buffers_out}
use Rattle.job_terms.specs.Dispatches.{Dispatch, Dispatched, dispatches}
use Rattle.run_promise.specs.Runs.{HasEndedBy, Run}
use Rattle.run_promise.specs.Traces.{Step}
use Rattle.run_promise.specs.Truthful.{FitsShown, HoldsOver, HasOutcomes, IsExternal, IsOldAfter}
use Rattle.world_laws.proofs.Frame.{others_stay}
use Rattle.world_laws.proofs.InParts.{aborts_are_final}
use Rattle.promise_examples.specs.EarlyEnd.{EarlyEndIsMet, EarlyEndsAreRefused, EachEarlyEndIsRefused, Tells, jobless, untried, without_outcome}
use Rattle.promise_examples.specs.GivenAgain.{put_job}
use Rattle.promise_examples.specs.Reading.{Reads}
use Rattle.promise_examples.specs.Refused.{task, whole_run}
use Rattle.promise_examples.specs.Runs.{Example}
use Rattle.promise_examples.proofs.Concrete.{at, front_of, has, none_is_some, slot}
use Rattle.promise_examples.proofs.IdleRun.{no_jobs, nothing_carried}
use Rattle.promise_examples.proofs.Shown.{made, of_shown}
use Rattle.world_laws.specs.Promises.{IsByRequests}
use Rattle.shared_lemmas.proofs.Clashes.{false_true}
use Rattle.world_laws.proofs.NoCalls.{told_by_none}

module _ (page_of : List ℕ → Listed) where
  -- ---- the run that ended early

  -- nobody of the run asks for the object
  unchanged : (run : Run) (part : List Step) → run.dispatched ≡ [] → FitsShown (Reads page_of) (without_outcome 70 jobless) run → HasEndedBy run part → (bucket key : List ℕ)
      → IsExternal run.trace bucket key ⊎ IsOldAfter run part bucket key
  unchanged run part same of_shown whole bucket key = elim (others_stay (Reads page_of) jobless.setting.limits run.start run.trace run.dispatched run.journal of_shown.fitting.runs of_shown.fitting.fits bucket key part whole.0 whole.1) [
    | inl asked ↦ absurd (has [] asked.0 (subst (λ (all : List Dispatched). Contains all asked.0) same asked.1))
    | inr stays ↦ stays
  ]

  upload_copy : kind.Upload ≡ kind.Copy → ⊥
  upload_copy e = cc

  holds : HoldsOver (Reads page_of) (without_outcome 70 jobless) []
  holds run part same of_shown whole = (
    λ n t how at_task at_how. absurd (none_is_some how at_how),
    λ bucket key none. unchanged run part same of_shown whole bucket key,
    λ bucket key. inr (inr (unchanged run part same of_shown whole bucket key)),
    λ n t front later step lane sent at_task is_copy split is_event is_delete. absurd (slot (λ k (planned : Task). planned.kind ≡ kind.Copy → ⊥) (task ∷ []) (upload_copy, tt) n t at_task is_copy),
    aborts_are_final jobless.setting.limits run.start run.trace of_shown.fitting.runs,
  )

  met : Tells page_of (without_outcome 70 jobless)
  met = record {
    dispatched = [];
    coming = [];
    schedule = no_jobs page_of jobless.setting refl;
    carried = nothing_carried page_of jobless.setting refl;
    buffers = λ front back e. front_of (λ all. buffers_out all ≤ 1) [] (omega arith) front back e;
    outcomes = inr (refl, refl, (λ c known. absurd (has [] c known)), λ path. refl);
    causes = λ n t how at_task at_how. absurd (none_is_some how at_how);
    calls = [];
    files = told_by_none (Reads page_of) (without_outcome 70 jobless) [] [] (record {
      quiet = refl;
      untouched = refl;
      none_left = refl;
      none_untimed = refl;
      tasks = slot (λ k (planned : Task). IsByRequests planned) (task ∷ []) (record { bucket = _; key = _; is_dest = refl; decided = tt; keeps = λ removal. refl }, tt);
      keeps = slot (λ k (planned : Task). planned.moves ≡ true → ⊥) (task ∷ []) (false_true, tt);
      sends = λ c n known of_task. absurd (has [] c known);
    });
    others = λ path. inr (inr refl);
    holds = holds;
  }

  -- ---- its neighbours

  none_of_task : ◌≡◌ {A = Option ℕ} (Some 0) None → ⊥
  none_of_task e = cc

  -- a Put that was given is a job of a task
  given : (e : Example) (d : Dispatch) → length e.setting.tasks ≡ 1 → dispatches e.journal e.logs ≡ d ∷ [] → d.job ≡ put_job → ¬ (Tells page_of (without_outcome 70 e))
  given e d one are is_put told = of_shown (d ∷ []) (λ all. HasOutcomes (without_outcome 70 e) all → ⊥) each told.dispatched (told.carried.shown ∙ are) told.outcomes
    where
      each : (asked : _) (body : List ℕ) (limit size : ℕ) → HasOutcomes (without_outcome 70 e) (made d asked body limit size ∷ []) → ⊥
      each asked body limit size (inl as_many) = omega arith
      each asked body limit size (inr early) = none_of_task (sym (ap (λ job. job.task) is_put) ∙ early.2 (made d asked body limit size) (at (made d asked body limit size ∷ []) 0 (made d asked body limit size) refl))

  other_status : (status : ℕ) → ¬ (status ≡ 70) → ¬ (Tells page_of (without_outcome status jobless))
  other_status status other told = of_outcomes told.outcomes
    where
      of_outcomes : HasOutcomes (without_outcome status jobless) told.dispatched → ⊥
      of_outcomes (inl as_many) = omega arith
      of_outcomes (inr early) = other early.0

  refused : EarlyEndsAreRefused page_of
  refused = record { stored = given whole_run _ refl refl refl; not_tried = given untried _ refl refl refl; other_status = other_status }

pub early_end_is_met : EarlyEndIsMet
early_end_is_met page_of = met page_of

pub each_early_end_is_refused : EachEarlyEndIsRefused
each_early_end_is_refused page_of = refused page_of
