-- The file of a moved upload is removed only once its Put has come.
use Rattle.std.proofs.Common.{◌≡◌, ◌⊎◌, ◌<◌, ℕ, true, false, List, [], ◌∷◌, Some, refl, ap, subst, inl, inr, arith}
use Rattle.s3_model.specs.declared.answers.Listed.{Listed}
use Rattle.s3_model.specs.declared.answers.Reply.TheVariants as reply
use Rattle.s3_model.specs.declared.outcomes.JobId.{JobId}
use Rattle.s3_model.specs.declared.requests.Ask.{Ask}
use Rattle.s3_model.specs.declared.requests.Op.TheVariants as op
use Rattle.s3_model.specs.declared.tasks.Task.{Task}
use Rattle.s3_model.specs.declared.tries.Mark.TheVariants as mark
use Rattle.job_terms.specs.Dispatches.{Attempt, Dispatch, Dispatched}
use Rattle.run_promise.specs.FileCalls.{HasFailedBefore, IsDecidedBefore, TaskCall}
use Rattle.run_promise.specs.Schedule.{IsBefore, IsFailed}
use Rattle.shared_lemmas.proofs.Clashes.{some_is}
use Rattle.promise_examples.specs.GivenAgain.{put_job}
use Rattle.promise_examples.specs.Reading.{Reads}
use Rattle.promise_examples.specs.Refused.{path, stored_at}
use Rattle.promise_examples.proofs.Concrete.{at, each}
use Rattle.promise_examples.proofs.ManyCalls as many
use Rattle.promise_examples.proofs.Scheduling as scheduling
use Rattle.promise_examples.proofs.Scheduling.{other_op}
use Rattle.promise_examples.proofs.Shown.{made, of_shown}
use Rattle.promise_examples.proofs.SmallPut as small
use Rattle.rare_runs.specs.MovedUpload.{AreJobs, EarlyRemovalIsRefused, KeepWith, MovedUploadIsMet, excused, moved, removes_at, setting}

abbrev well : Attempt
well = record { mark = mark.Success; talk = stored_at 5 }

abbrev jobs : List Dispatched
jobs = small.put_with (well ∷ []) ∷ []

abbrev calls : List TaskCall
calls = removes_at 2 ∷ []

abbrev put_given : Dispatch
put_given = record { job = put_job; lane = 0; given_at = 0; came_at = Some 1; earlier = 0; is_second = false; attempts = well ∷ [] }

module _ (page_of : List ℕ → Listed) where
  no_failure : (failed : Dispatched) → IsFailed (Reads page_of) setting jobs failed → ⊥
  no_failure failed is_failed = scheduling.failures (Reads page_of) setting (λ c. ⊥) jobs (inr (inl (refl, λ shown b shows. tt)), tt) failed is_failed

  undisturbed : (IsBefore setting.cancelled_at 2 ⊎ HasFailedBefore (Reads page_of) setting jobs 0 2) → ⊥
  undisturbed (inl cancelled) = cancelled
  undisturbed (inr failed) = no_failure failed.0 failed.1

  decided : (task : Task) → Some moved ≡ Some task → IsDecidedBefore (Reads page_of) setting jobs 0 task 2
  decided task is = subst (λ (t : Task). IsDecidedBefore (Reads page_of) setting jobs 0 t 2) (some_is moved task is)
      (small.put_with (well ∷ []), at jobs 0 _ refl, refl, omega arith, (reply.Stored, (refl, [], (refl, refl))))

  kept : many.AreKept (Reads page_of) setting excused jobs jobs calls
  kept = record {
    named = ((moved, refl, (refl, refl)), tt);
    in_order = (tt, tt);
    carried_out = refl;
    order = (tt, tt);
    stops = ((λ stopped. absurd (undisturbed stopped)), tt);
    made = (tt, tt);
    made_first = ((λ n number same. absurd (other_op op.Put op.Get refl (ap (λ (job : JobId). job.op) same))), tt);
    writes = ((λ task is. tt), tt);
    renames = ((λ task is. tt), tt);
    stamps = (tt, tt);
    stamps_last = (tt, tt);
    warned = (tt, tt);
    untimed_only = λ p known. absurd (each (λ (q : List ℕ). ⊥) [] tt p known);
    drops = (tt, tt);
    left_only = λ p known. absurd (each (λ (q : List ℕ). ⊥) [] tt p known);
    moves_last = ((λ task is upload. decided task is), tt);
    deletes_last = ((λ n task of is_delete is_task loads. absurd (other_op op.Put op.Delete refl is_delete)), tt);
  }

  -- the Put comes as the second event
  early : (place : ℕ) → place < 2 → (dispatched coming : List Dispatched) → AreJobs page_of dispatched → KeepWith page_of place dispatched coming → ⊥
  early place soon dispatched coming told = of_shown (put_given ∷ []) (λ (ds : List Dispatched). KeepWith page_of place ds coming → ⊥) by dispatched told
    where
      by : (a : Ask) (body : List ℕ) (limit size : ℕ) → KeepWith page_of place (made put_given a body limit size ∷ []) coming → ⊥
      by a body limit size keep =
          let d = keep.moves_last (removes_at place) moved path true (at (removes_at place ∷ []) 0 _ refl) refl refl refl in
          each (λ (c : Dispatched). IsBefore c.dispatch.came_at place → ⊥) (made put_given a body limit size ∷ []) ((λ before. omega arith), tt) d.0 d.1 d.3

pub moved_upload_is_met : MovedUploadIsMet
moved_upload_is_met page_of = record { jobs = jobs; are_jobs = refl; keep = many.all_keep (Reads page_of) setting excused jobs jobs calls (kept page_of) }

pub early_removal_is_refused : EarlyRemovalIsRefused
early_removal_is_refused page_of dispatched coming told =
    (λ keep. early page_of 1 (omega arith) dispatched coming told keep, λ keep. early page_of 0 (omega arith) dispatched coming told keep)
