-- Runs whose planning is over before anything is done for a task.
use Rattle.std.specs.Prelude.{◌≡◌, ◌++◌, None, Contains, IsSome}
use Rattle.run_traces.specs.Traces.{Gave, RunStep, RunTrace, Took}

-- a job of the planning was given, or came back
abbrev pub IsOfPlanning : RunStep → Type 0
IsOfPlanning (Gave lane job) = job.id.task ≡ None
IsOfPlanning (Took lane carried) = carried.job.id.task ≡ None
IsOfPlanning step = ⊥

abbrev pub IsOfTasks : RunStep → Type 0
IsOfTasks (Gave lane job) = IsSome job.id.task
IsOfTasks (Took lane carried) = IsSome carried.job.id.task
IsOfTasks step = Unit {0}

-- the first steps are of the planning, and all behind them of the tasks
pub record IsPlannedFirst (planning trace : RunTrace) : Type 0 where
  pub since : RunTrace
  pub is : trace ≡ since ++ planning
  pub of_planning : (step : RunStep) → Contains planning step → IsOfPlanning step
  pub of_tasks : (step : RunStep) → Contains since step → IsOfTasks step
