-- Outcomes that the wires of a run do not bear out.
use Rattle.std.specs.Prelude.{◌≡◌, ℕ, List, [], ◌∷◌, codes}
use Rattle.s3_model.specs.declared.answers.Listed.{Listed}
use Rattle.s3_model.specs.declared.outcomes.Cause.{Cause}
use Rattle.s3_model.specs.declared.outcomes.Cause.TheVariants as cause
use Rattle.s3_model.specs.declared.outcomes.Outcome.{Outcome}
use Rattle.s3_model.specs.declared.outcomes.Outcome.TheVariants as outcome
use Rattle.s3_model.specs.declared.requests.Op.TheVariants as op
use Rattle.s3_model.specs.declared.tasks.Task.{Task}
use Rattle.s3_model.specs.declared.tries.Mark.TheVariants as mark
use Rattle.s3_model.specs.Talks.{Moment, Pause, Began}
use Rattle.run_promise.specs.Carried.{IsCarried}
use Rattle.job_terms.specs.Attempts.{in_first}
use Rattle.job_terms.specs.Dispatches.{Dispatched}
use Rattle.run_promise.specs.Outcomes.{HasOutcome}
use Rattle.run_promise.specs.Schedule.{IsSchedule}
use Rattle.promise_examples.specs.Everything.{upload}
use Rattle.promise_examples.specs.FailedUpload.{failed_run}
use Rattle.promise_examples.specs.Reading.{Reads, HasNoStatus, NeverFailed, signed_body}
use Rattle.promise_examples.specs.Refused.{a_talk, run, once, lost_at, denied_at, task, whole_run}
use Rattle.promise_examples.specs.Runs.{Example}

-- the Put was lost and then denied, or lost at both attempts
abbrev pub lost_then_denied : Example
lost_then_denied = run (once (mark.Uncertain ∷ mark.Refusal ∷ [])) (in_first (lost_at 5 ∷ denied_at 6 ∷ []))
    (in_first (Moment 5 ∷ Began ∷ Pause 1 ∷ Moment 6 ∷ Began ∷ []))

abbrev pub lost_twice : Example
lost_twice = run (once (mark.Uncertain ∷ mark.Uncertain ∷ [])) (in_first (lost_at 5 ∷ lost_at 6 ∷ []))
    (in_first (Moment 5 ∷ Began ∷ Pause 1 ∷ Moment 6 ∷ Began ∷ []))

-- the Put was denied
abbrev pub denied_once : Example
denied_once = run (once (mark.Refusal ∷ [])) (in_first (denied_at 5 ∷ [])) (in_first a_talk)

module _ (page_of : List ℕ → Listed) where
  -- however the jobs of the run are read, its first task does not have that outcome
  abbrev pub IsLie : Example → Task → Outcome → Type 0
  IsLie e of_task how = (dispatched coming : List Dispatched)
      → IsSchedule (Reads page_of) e.setting (λ planning. planning ≡ []) dispatched coming
      → IsCarried (Reads page_of) signed_body [] 80 e.setting e.journal e.logs e.notes dispatched coming
      → HasOutcome (Reads page_of) HasNoStatus NeverFailed e.setting dispatched coming 0 of_task how → ⊥

  pub record LiesAreRefused : Type 0 where
    -- what was stored did not fail, is not unknown, and was not skipped
    pub stored_failed : (why : Cause) → IsLie whole_run task (outcome.Failed why)
    pub stored_unknown : (why : Cause) → IsLie whole_run task (outcome.Unknown why)
    pub stored_skipped : IsLie whole_run task outcome.Skipped
    -- what was refused is not done
    pub refused_done : IsLie denied_once task outcome.Done
    -- what was lost and then denied is unknown
    pub denied_failed : (why : Cause) → IsLie lost_then_denied task (outcome.Failed why)
    pub denied_done : IsLie lost_then_denied task outcome.Done
    -- so is what was lost
    pub lost_failed : (why : Cause) → IsLie lost_twice task (outcome.Failed why)
    pub lost_done : IsLie lost_twice task outcome.Done
    -- a cause is what the answer says, with its message, and of the job that failed
    pub other_code : IsLie failed_run upload (outcome.Failed (cause.Service op.Part (codes "999") (codes "Nonsense")))
    pub other_op : IsLie failed_run upload (outcome.Failed (cause.Service op.Create (codes "AccessDenied") []))
    pub failed_done : IsLie failed_run upload outcome.Done
    pub failed_unknown : (why : Cause) → IsLie failed_run upload (outcome.Unknown why)

abbrev pub EachLieIsRefused : Type 0
EachLieIsRefused = (page_of : List ℕ → Listed) → LiesAreRefused page_of
