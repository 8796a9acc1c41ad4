-- The outcomes of a moved copy whose Delete was lost at both attempts.
use Rattle.std.specs.Prelude.{◌≡◌, ◌≢◌, ℕ, List, []}
use Rattle.s3_model.specs.declared.answers.Listed.{Listed}
use Rattle.s3_model.specs.declared.answers.Why.TheVariants as why
use Rattle.s3_model.specs.declared.outcomes.Cause.{Cause}
use Rattle.s3_model.specs.declared.outcomes.Cause.TheVariants as cause
use Rattle.s3_model.specs.declared.outcomes.Outcome.{Outcome}
use Rattle.s3_model.specs.declared.outcomes.Outcome.TheVariants as outcome
use Rattle.s3_model.specs.declared.requests.Op.TheVariants as op
use Rattle.job_terms.specs.Dispatches.{Dispatched}
use Rattle.run_promise.specs.Carried.{IsCarried}
use Rattle.run_promise.specs.Outcomes.{HasOutcome}
use Rattle.run_promise.specs.Schedule.{IsSchedule}
use Rattle.promise_examples.specs.Everything.{copy, eventful_run}
use Rattle.promise_examples.specs.Reading.{Reads, HasNoStatus, NeverFailed, signed_body}

abbrev pub delete_lost : Cause
delete_lost = cause.Lost op.Delete why.WireFailed

module _ (page_of : List ℕ → Listed) where
  -- however the jobs of the eventful run are read, its moved copy does not have that outcome
  abbrev pub IsMoveRefused : Outcome → Type 0
  IsMoveRefused how = (dispatched coming : List Dispatched)
      → IsSchedule (Reads page_of) eventful_run.setting (λ planning. planning ≡ []) dispatched coming
      → IsCarried (Reads page_of) signed_body [] 80 eventful_run.setting eventful_run.journal eventful_run.logs
      eventful_run.notes dispatched coming
      → HasOutcome (Reads page_of) HasNoStatus NeverFailed eventful_run.setting dispatched coming 1 copy how → ⊥

  pub record MovesAreRefused : Type 0 where
    pub done : IsMoveRefused outcome.Done
    -- with another cause than that its Delete was lost, as one of another request of it
    pub other_cause : (why : Cause) → why ≢ delete_lost → IsMoveRefused (outcome.Copied why)
    pub copy_lost : IsMoveRefused (outcome.Copied (cause.Lost op.Copy why.WireFailed))
    pub bad_copy : IsMoveRefused (outcome.Copied (cause.BadReply op.Copy))
    pub dry : IsMoveRefused outcome.Dry
    pub skipped : IsMoveRefused outcome.Skipped

abbrev pub EachMoveIsRefused : Type 0
EachMoveIsRefused = (page_of : List ℕ → Listed) → MovesAreRefused page_of
