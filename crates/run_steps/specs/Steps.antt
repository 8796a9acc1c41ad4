-- The jobs of tasks, as a run keeps them.
use Rattle.std.specs.Prelude.{◌≡◌, ◌&&◌, ℕ, Bool, true, false, List, Option, Some, None, get_or, is_some, length}
use Rattle.std.specs.Prelude.{nat_lt}
use Rattle.std.specs.Prelude.{not, set, slice_get, if◌then◌else◌}
use Rattle.manager_moves.specs.Runs.{Events, Shared, made_count, outcome_in, share}
use Rattle.s3_model.specs.declared.outcomes.Outcome.{Outcome}
use Rattle.s3_model.specs.declared.tasks.Task.{Task}
use Rattle.step_jobs.specs.Shares.{SeenSteps}
use Rattle.step_laws.specs.Following.{HoldsShares}
use Rattle.task_acts.specs.declared.work.Work.{Work}
use Rattle.task_acts.specs.Histories.{History}

-- the task of that number is made, and has not ended
abbrev pub is_going : Work → ℕ → Events → Bool
is_going w n events = nat_lt n (made_count events) && not (is_some (outcome_in w n events))

-- a task that goes on has a share for each job that was not given, and any other task has none
abbrev pub HoldsStep : (going : Bool) → Task → Work → History → Option SeenSteps → Type 0
HoldsStep true task w h None = ⊥
HoldsStep true task w h (Some j) = HoldsShares task w h j
HoldsStep false task w h kept = kept ≡ None

pub record HoldSteps (s : Shared) (events : Events) (tasks : List Task) (steps : List (Option SeenSteps)) : Type 0 where
  pub count : length steps ≡ length tasks
  pub each : (n : ℕ) (task : Task) (w : Work) → slice_get tasks n ≡ Some task → slice_get s.works n ≡ Some w
      → HoldsStep (is_going w n events) task w (share w n events) (get_or steps n None)

-- ---- a task that has ended lets its jobs go

abbrev pub settled_step : List (Option Outcome) → (task : ℕ) → Option SeenSteps → Option SeenSteps
settled_step outcomes task kept = if is_some (get_or outcomes task None) then None else kept

abbrev pub settled_steps : (task : ℕ) → List (Option Outcome) → List (Option SeenSteps) → List (Option SeenSteps)
settled_steps task outcomes steps = if is_some (get_or outcomes task None) then set steps task None else steps
