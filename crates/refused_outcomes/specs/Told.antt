-- Runs whose first task came to an outcome, and runs whose first task did not.
use Rattle.std.specs.Prelude.{◌≡◌, ◌≢◌, ℕ, List, []}
use Rattle.s3_model.specs.declared.answers.Listed.{Listed}
use Rattle.s3_model.specs.declared.outcomes.Cause.{Cause}
use Rattle.s3_model.specs.declared.outcomes.Outcome.{Outcome}
use Rattle.s3_model.specs.declared.tasks.Task.{Task}
use Rattle.job_terms.specs.Dispatches.{Dispatched}
use Rattle.run_promise.specs.Carried.{IsCarried}
use Rattle.run_promise.specs.Outcomes.{HasOutcome}
use Rattle.run_promise.specs.Schedule.{IsSchedule}
use Rattle.promise_examples.specs.Reading.{Reads, HasNoStatus, signed_body}
use Rattle.promise_examples.specs.Runs.{Example}

-- `CallFailed n why`: the calls on files show that one of task n failed so
module _ (page_of : List ℕ → Listed) (CallFailed : ℕ → Cause → Type 0) (e : Example) (task : Task) where
  -- its jobs can be read so that they keep to the schedule and are carried
  pub record IsReading (dispatched coming : List Dispatched) : Type 0 where
    pub schedule : IsSchedule (Reads page_of) e.setting (λ planning. planning ≡ []) dispatched coming
    pub carried : IsCarried (Reads page_of) signed_body [] 80 e.setting e.journal e.logs e.notes dispatched coming

  -- with such a reading the task has that outcome
  pub record IsTold (how : Outcome) : Type 0 where
    pub dispatched : List Dispatched
    pub coming : List Dispatched
    pub reading : IsReading dispatched coming
    pub has_outcome : HasOutcome (Reads page_of) HasNoStatus CallFailed e.setting dispatched coming 0 task how

  -- with no such reading has it
  abbrev pub IsRefused : Outcome → Type 0
  IsRefused how = (dispatched coming : List Dispatched) → IsReading dispatched coming
      → HasOutcome (Reads page_of) HasNoStatus CallFailed e.setting dispatched coming 0 task how → ⊥

  -- it has that outcome, and no other
  pub record HasOnly (how : Outcome) : Type 0 where
    pub told : IsTold how
    pub no_other : (other : Outcome) → other ≢ how → IsRefused other
