-- What a run shows of its tasks.
use Rattle.std.specs.Prelude.{◌≡◌, ◌==◌, ◌&&◌, ℕ, Bool, Some, is_some, slice_get, if◌then◌else◌}
use Rattle.manager_moves.specs.Runs.{Events, Shared, share}
use Rattle.run_steps.specs.Steps.{is_going}
use Rattle.step_jobs.specs.Formed.{range_at}
use Rattle.step_jobs.specs.Requests.{BeginsWithin}
use Rattle.task_acts.specs.Failures.{first_failure}
use Rattle.task_acts.specs.declared.work.Work.{Work}
use Rattle.manager_core.specs.Kept.{SeenManager}
use Rattle.manager_core.specs.Running.{IsRunning, Start}

-- a run is kept that has a task of that number
pub record HasTaskAt (task : ℕ) (m : SeenManager) : Type 0 where
  pub start : Start
  pub s : Shared
  pub events : Events
  pub running : IsRunning start s events m
  pub work : Work
  pub there : slice_get s.works task ≡ Some work

-- and that piece begins within it
pub record HasPieceAt (task number : ℕ) (m : SeenManager) : Type 0 where
  pub its : HasTaskAt task m
  pub begins : BeginsWithin its.work number

-- the place and the length in bytes of a piece, or of the whole where the number is 0
abbrev pub range_in : Work → (number : ℕ) → ℕ × ℕ
range_in w number = if number == 0 then (0, w.size) else range_at w number

-- the task is made and has not ended, and something of it failed
abbrev pub is_failing : Work → (n : ℕ) → Events → Bool
is_failing w n events = is_going w n events && is_some (first_failure w (share w n events))
