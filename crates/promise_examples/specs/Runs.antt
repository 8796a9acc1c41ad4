-- A run that meets every definition: its jobs, its wires, a trace of a service that fits, and the cause of each
-- outcome.
use Rattle.std.specs.Prelude.{◌≡◌, ℕ, List, [], Some, slice_get, None}
use Rattle.s3_model.specs.declared.answers.Listed.{Listed}
use Rattle.s3_model.specs.declared.outcomes.Event.{Event}
use Rattle.s3_model.specs.declared.outcomes.Outcome.{Outcome}
use Rattle.s3_model.specs.declared.tasks.Task.{Task}
use Rattle.s3_model.specs.Talks.{Talk, Note}
use Rattle.s3_service.specs.ServiceState.{State}
use Rattle.job_terms.specs.Buffers.{KeepsBuffers}
use Rattle.run_promise.specs.Carried.{IsCarried}
use Rattle.job_terms.specs.Dispatches.{Dispatched}
use Rattle.run_promise.specs.Fits.{Fits}
use Rattle.run_promise.specs.Outcomes.{HasOutcome}
use Rattle.run_promise.specs.Schedule.{Setting, IsSchedule}
use Rattle.run_promise.specs.Traces.{Step, IsTrace, IsHonest, events_of}
use Rattle.run_promise.specs.Truthful.{IsDest}
use Rattle.run_promise.specs.Runs.{HasJournal}
use Rattle.promise_examples.specs.Reading.{Reads, HasNoStatus, NeverFailed, signed_body}

-- what a run shows: its setting, its outcomes, the journal, and each wire's talks and notes
pub record Example : Type 0 where
  pub setting : Setting
  pub outcomes : List Outcome
  pub journal : List Event
  pub logs : ℕ → List Talk
  pub notes : ℕ → List Note

module _ (page_of : List ℕ → Listed) (Plans : List Dispatched → Type 0) where
  -- it meets the definitions, and this trace from this state is one that fits it
  pub record IsMet (e : Example) (start : State) (trace : List Step) : Type 0 where
    pub dispatched : List Dispatched
    pub coming : List Dispatched
    pub schedule : IsSchedule (Reads page_of) e.setting Plans dispatched coming
    pub carried : IsCarried (Reads page_of) signed_body [] 80 e.setting e.journal e.logs e.notes dispatched coming
    pub buffers : KeepsBuffers e.setting.config.buffers e.journal
    pub runs : IsTrace e.setting.limits [] start trace
    pub honest : IsHonest start trace (IsDest e.setting.tasks)
    pub fits : Fits (Reads page_of) None (events_of trace) e.journal dispatched
    pub whole : HasJournal e.journal trace trace
    pub causes : (n : ℕ) (task : Task) (how : Outcome) → slice_get e.setting.tasks n ≡ Some task
        → slice_get e.outcomes n ≡ Some how
        → HasOutcome (Reads page_of) HasNoStatus NeverFailed e.setting dispatched coming n task how
