-- The run that gave up untried, and the trace in which nothing happens.
use Rattle.std.proofs.Common.{◌≡◌, ◌⊎◌, ℕ, true, false, List, [], ◌∷◌, refl, subst, inl, inr, None}
use Rattle.std.specs.FinMap.{empty}
use Rattle.std.proofs.lemmas.List.Sorted.{IsPermutation-refl}
use Rattle.s3_model.specs.declared.answers.Listed.{Listed}
use Rattle.s3_model.specs.declared.outcomes.Cause.{Cause}
use Rattle.s3_model.specs.declared.outcomes.Outcome.TheVariants as outcome
use Rattle.s3_model.specs.declared.places.Place.TheVariants as place
use Rattle.s3_model.specs.declared.tasks.Task.{Task}
use Rattle.s3_model.specs.Talks.{Began}
use Rattle.s3_service.specs.ServiceState.{State, HasBucket}
use Rattle.run_promise.specs.Carried.{IsCarried}
use Rattle.job_terms.specs.Dispatches.{Dispatched}
use Rattle.run_promise.specs.Fits.{Fits}
use Rattle.run_promise.specs.Schedule.{Setting, IsSchedule}
use Rattle.run_promise.specs.Traces.{External}
use Rattle.run_promise.specs.Truthful.{IsDest, IsFinished, WasTaken}
use Rattle.world_laws.specs.Promises.{run_of}
use Rattle.promise_examples.specs.Idleness.{idle_run, IdlenessIsRefused}
use Rattle.promise_examples.specs.Reading.{Reads, signed_body}
use Rattle.promise_examples.specs.Refused.{setting, task}
use Rattle.promise_examples.specs.Services.{one_bucket}
use Rattle.promise_examples.proofs.Carrying as carrying
use Rattle.promise_examples.proofs.Concrete.{each, has}
use Rattle.promise_examples.proofs.Fitting as fitting
use Rattle.promise_examples.proofs.Honest.{has_bucket, honest, one_bucket_is_faithful}
use Rattle.promise_examples.proofs.Scheduling as scheduling

abbrev start : State
start = one_bucket (98 ∷ [])

abbrev pub Plans : List Dispatched → Type 0
Plans planning = planning ≡ []

false_is_true : false ≡ true → ⊥
false_is_true e = cc

object_bucket : (b k c l : List ℕ) → place.Object b k ≡ place.Object c l → b ≡ c
object_bucket b k c l e = cc

buckets : (b k : List ℕ) → IsDest setting.tasks b k → HasBucket start b
buckets b k dest =
    subst (λ (x : List ℕ). HasBucket start x)
    (each (λ (t : Task). t.dest ≡ place.Object b k → (98 ∷ []) ≡ b) (task ∷ []) (object_bucket (98 ∷ []) (117 ∷ []) b k, tt) dest.0 dest.1 dest.2)
    (has_bucket (record { objects = empty; uploads = empty; ended = empty; tokens = empty }) (98 ∷ []) empty)

-- in a setting of which the plan is carried out
module _ (page_of : List ℕ → Listed) (s : Setting) (carried_out : s.dryrun ≡ false) where
  pub no_jobs : IsSchedule (Reads page_of) s Plans [] []
  no_jobs = scheduling.scheduled (Reads page_of) s Plans [] [] (record {
    is_coming = IsPermutation-refl [];
    in_order = tt;
    asks = tt;
    plans = refl;
    numbered = tt;
    one_by_one = tt;
    carried_out = carried_out;
    twice = tt;
    seconds = tt;
    stops = λ failed c is_failed of_task no_abort known same late. absurd (has [] c known);
    no_abort = tt;
    completes = λ n id end ended created. absurd (has [] created.0 created.1);
    moves_last = tt;
  })

  pub nothing_carried : IsCarried (Reads page_of) signed_body [] 80 s [] (λ lane. []) (λ lane. []) [] []
  nothing_carried = carrying.carried page_of s [] [] (λ lane. []) (λ lane. []) [] (record {
    shown = refl;
    comes = tt;
    inside = tt;
    unused = λ lane beyond. (refl, refl);
    known = tt;
    lanes = λ lane used. record { in_turn = tt; gained = refl; noted = ((λ h. has [] Began h), inl refl) };
    marks = tt;
    again = tt;
    given_again = tt;
    at_most = tt;
    ends = tt;
  })

module _ (page_of : List ℕ → Listed) where
  nothing_fits : Fits (Reads page_of) None [] [] []
  nothing_fits = fitting.fits (Reads page_of) [] [] [] refl (λ lane. refl) tt tt tt tt tt

  pub idleness : (why : Cause) → (IsFinished false (WasTaken (idle_run why) start 0) (outcome.Failed why) ⊎ (false ≡ true) ⊎ (false ≡ true)) → ⊥
  idleness why (inl none) = none
  idleness why (inr (inl e)) = false_is_true e
  idleness why (inr (inr e)) = false_is_true e

pub idleness_is_refused : IdlenessIsRefused
idleness_is_refused page_of why owed =
    idleness page_of why
    (owed (run_of (idle_run why) [] start []) [] (no_jobs page_of setting refl) (nothing_carried page_of setting refl)
    (record { of_journal = refl; of_page = refl; fitting = record { runs = tt; honest = honest start [] (one_bucket_is_faithful (98 ∷ []), tt) tt (IsDest setting.tasks); fits = nothing_fits page_of } }) tt
    (λ c place attempt reason bytes known slot shows. has [] c known) (λ write happened. has [] (External write) happened) buckets refl 0 (outcome.Failed why) refl)
