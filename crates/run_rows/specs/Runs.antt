-- A run with the lanes that its jobs are given to.
use Rattle.std.specs.Prelude.{◌≡◌, ℕ, List, Some, length}
use Rattle.jobs.specs.Jobs.{SeenJob}
use Rattle.lane_givings.specs.Givings.{HoldJobs}
use Rattle.manager_core.specs.Due.{call_in}
use Rattle.manager_core.specs.Kept.{SeenManager}
use Rattle.manager_core.specs.Running.{IsRunning, Start}
use Rattle.manager_core.specs.declared.due.Due.TheVariants as due
use Rattle.manager_moves.specs.Runs.{Events, Shared}
use Rattle.manager_moves.specs.declared.moves.Move.{Move}
use Rattle.manager_moves.specs.declared.moves.Move.TheVariants as move
use Rattle.run_needs.specs.Needs.{most_bytes}
use Rattle.run_rows.specs.declared.runs.steps.Step.{Step}
use Rattle.run_rows.specs.declared.runs.steps.Step.TheVariants as step
use Rattle.task_acts.specs.declared.acts.Act.{Act}

-- these events have happened, and in the lanes are the jobs that are out
pub record IsKept (m : SeenManager) (lanes : List (List SeenJob)) : Type 0 where
  pub start : Start
  pub s : Shared
  pub events : Events
  pub running : IsRunning start s events m
  pub jobs : HoldJobs (most_bytes s.works) s events lanes
  pub count : length lanes ≡ s.lanes

-- nothing is to be answered
pub record IsFree (m : SeenManager) (lanes : List (List SeenJob)) : Type 0 where
  pub kept : IsKept m lanes
  pub free : m.due ≡ due.Free

-- that move is to be answered
pub record IsAt (moved : Move) (m : SeenManager) (lanes : List (List SeenJob)) : Type 0 where
  pub kept : IsKept m lanes
  pub is : m.due ≡ due.Next moved

-- that call of that task is the move
abbrev pub IsCall : Move → ℕ × Act → Type 0
IsCall moved call = call_in moved ≡ Some (record { task = call.0; act = call.1 })

-- where a run is after a step
abbrev pub Stands : Step → SeenManager → List (List SeenJob) → Type 0
Stands step.GoesOn m lanes = IsFree m lanes
Stands step.Ended m lanes = IsAt move.End m lanes
Stands step.Stuck m lanes = Unit {0}
