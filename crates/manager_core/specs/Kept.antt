-- What contracts see of a run.
use Rattle.std.specs.Prelude.{ℕ, List, Option, None, get_or, set}
use Rattle.move_laws.specs.Kept.{SeenMoves}
use Rattle.s3_model.specs.Lists.{Reserved}
use Rattle.s3_model.specs.declared.outcomes.Event.{Event as Entry}
use Rattle.s3_model.specs.declared.outcomes.Outcome.{Outcome}
use Rattle.s3_model.specs.declared.settings.Config.{Config}
use Rattle.s3_model.specs.declared.settings.Limits.{Limits}
use Rattle.s3_model.specs.declared.tasks.Plan.{Plan}
use Rattle.step_jobs.specs.Shares.{SeenSteps}
use Rattle.manager_core.specs.declared.due.Due.{Due}

-- the plan, the journal so far, the room for outcomes, the settings and limits, what is kept to know the next move, the
-- jobs of each task, and what is to be answered
pub record SeenManager : Type 0 where
  pub plan : Plan
  pub journal : Reserved Entry
  pub outcomes : Reserved Outcome
  pub config : Config
  pub limits : Limits
  pub moves : SeenMoves
  pub steps : List (Option SeenSteps)
  pub due : Due

-- the jobs of a task, where it is made and has not ended
abbrev pub jobs_at : SeenManager → (task : ℕ) → Option SeenSteps
jobs_at m task = get_or m.steps task None

abbrev pub with_jobs : (task : ℕ) → Option SeenSteps → SeenManager → SeenManager
with_jobs task jobs m = record m { steps = set m.steps task jobs }
