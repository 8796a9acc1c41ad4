-- What outcomes tell of a setting, and a cause that no outcome has.
use Rattle.std.specs.Prelude.{◌≡◌, ◌≢◌, ℕ, List, Option, Some, None, Contains, slice_get}
use Rattle.jobs.specs.Endings.{SeenCarried}
use Rattle.lane_laws.specs.Runs.{RanOut}
use Rattle.manager_core.specs.Ended.{AreOutcomes}
use Rattle.manager_moves.specs.Laws.{IsRun}
use Rattle.manager_moves.specs.Runs.{Events, Shared, outcome_in}
use Rattle.run_causes.specs.Causes.{TellsMemory, TellsPlanning}
use Rattle.run_promise.specs.Schedule.{Setting}
use Rattle.run_promise.specs.Settled.{RunEnd, RunStart, cause_of, is_memory, setting_by, tells_file_failed}
use Rattle.run_traces.specs.Traces.{RunTrace, Took}
use Rattle.s3_model.specs.declared.outcomes.Cause.TheVariants as cause
use Rattle.s3_model.specs.declared.outcomes.Outcome.{Outcome}
use Rattle.s3_model.specs.declared.outcomes.Reason.TheVariants as reason_of
use Rattle.task_acts.specs.declared.work.Work.{Work}
use Rattle.task_progress.specs.Progress.{HasPiece}
use Rattle.task_schedule.specs.Journals.{TellsFailures}
use Rattle.whole_runs.specs.Ended.{IsAtEnd}

-- ---- the setting by outcomes

-- These two are fields of `IsSettingOf` word for word: of which tasks a call on files failed, and for which memory ran
-- out.
pub record IsToldBy (outcomes : List Outcome) (setting : Setting) : Type 0 where
  pub files : (n : ℕ) → setting.file_failed n
      ≡ tells_file_failed (slice_get setting.tasks n) (slice_get outcomes n)
  pub memory : (n : ℕ) → setting.wanted_memory (Some n) ≡ is_memory (cause_of (slice_get outcomes n))

-- Such a setting tells what the histories of the tasks say, in a run at its end with these outcomes.
abbrev pub OutcomesTell : Type 0
OutcomesTell = (s : Shared) (setting : Setting) (events : Events) (outcomes : List Outcome)
    → IsAtEnd s setting events → AreOutcomes s events outcomes → IsToldBy outcomes setting
    → TellsFailures s setting events × TellsMemory s setting events

-- The setting that a run claims is such a one, and tells of the planning where the status does.
pub record ClaimsTell : Type 0 where
  pub outcomes : (start : RunStart) (came : RunEnd) (cancelled_at : Option ℕ)
      → IsToldBy came.outcomes (setting_by start came cancelled_at)
  pub planning : (start : RunStart) (came : RunEnd) (cancelled_at : Option ℕ) (trace : RunTrace)
      → ((lane : ℕ) (carried : SeenCarried) → Contains trace (Took lane carried) → carried.job.id.task ≡ None
      → RanOut carried.ending → came.status ≡ 70)
      → TellsPlanning (setting_by start came cancelled_at) trace

-- ---- causes

-- No task is said to be cancelled since it failed itself.
abbrev pub NoneIsCancelledByFailing : Type 0
NoneIsCancelledByFailing = (s : Shared) (events : Events) (n : ℕ) (w : Work) (how : Outcome) → HasPiece w
    → IsRun s events → slice_get s.works n ≡ Some w → outcome_in w n events ≡ Some how
    → cause_of (Some how) ≢ Some (cause.Cancelled reason_of.TaskFailed)
