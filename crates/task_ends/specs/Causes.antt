-- What stopped a task, and how it ends by that.
use Rattle.std.specs.Option.{option_or}
use Rattle.std.specs.Prelude.{◌≡◌, ◌||◌, ◌&&◌, Bool, true, false, Option, Some, None, is_some, not, if◌then◌else◌}
use Rattle.s3_model.specs.declared.outcomes.Cause.{Cause}
use Rattle.s3_model.specs.declared.outcomes.Outcome.{Outcome}
use Rattle.s3_model.specs.declared.outcomes.Outcome.TheVariants as outcome
use Rattle.s3_model.specs.declared.outcomes.Reason.{Reason}
use Rattle.task_acts.specs.Ends.{cancel_cause, copied_for, failed_for, unknown_for, unless_memory}
use Rattle.task_ends.specs.declared.last_cause.LastCause.{LastCause}
use Rattle.task_ends.specs.declared.last_cause.LastCause.TheVariants as last

-- what contracts see of what stopped a task
pub record SeenCauses : Type 0 where
  -- something failed
  pub failing : Bool
  -- the cause of the first failure, until the outcome takes it
  pub first : Option Cause
  -- the cause that the last attempt of the deciding request shows, until the outcome takes it
  pub last : Option Cause
  -- the first cancel
  pub reason : Option Reason
  pub memory : Bool
  -- an attempt of the deciding request left open what it did
  pub uncertain : Bool

abbrev pub no_causes : SeenCauses
no_causes = record { failing = false; first = None; last = None; reason = None; memory = false; uncertain = false }

abbrev pub last_by : Option Cause → LastCause → Option Cause
last_by first last.Nothing = None
last_by first (last.Own why) = Some why
last_by first last.First = first

abbrev pub IsShown : (failing : Bool) → LastCause → Type 0
IsShown failing last.First = failing ≡ true
IsShown failing shown = Unit {0}

-- There is a first failure, and it is the last cause, only where something failed.
pub record IsKept (failing : Bool) (first : Option Cause) (shown : LastCause) : Type 0 where
  pub none : failing ≡ false → first ≡ None
  pub last : IsShown failing shown

-- a failure or a cancel came
abbrev pub is_stopped_by : SeenCauses → Bool
is_stopped_by c = c.failing || is_some c.reason

-- the failure that a job shows: one that was cut short shows none
abbrev pub failure_of : (is_cut : Bool) → Option Cause → Option Cause
failure_of is_cut why = if is_cut then None else why

abbrev pub stop_cause_by : SeenCauses → Option Cause
stop_cause_by c = unless_memory c.memory (option_or c.first (cancel_cause c.reason))

abbrev pub open_cause_by : SeenCauses → Option Cause
open_cause_by c = unless_memory c.memory c.last

-- how a task ends, by whether all its steps succeeded and what it is for has happened
abbrev pub how_ended_by : (whole decided : Bool) → SeenCauses → Option Outcome
how_ended_by whole decided c =
    if whole then Some outcome.Done
    else if c.uncertain && not decided then unknown_for (open_cause_by c)
    else if decided then copied_for (stop_cause_by c) else failed_for (stop_cause_by c)
