-- What a dry run that asks nothing of a service comes to.
use Rattle.std.specs.Prelude.{◌⊎◌, List, [], Some}
use Rattle.s3_model.specs.declared.settings.Limits.{Limits}
use Rattle.s3_model.specs.declared.tasks.Plan.{Plan}
use Rattle.s3_model.specs.declared.tasks.Warning.{Warning}
use Rattle.s3_words.specs.declared.commands.Command.{Command}
use Rattle.run_report.specs.declared.run.Fatal.{Fatal}
use Rattle.run_report.specs.declared.run.Run.{Run}
use Rattle.run_report.specs.Taskless.{EndsForMemory, HasNoTask}
use Rattle.dry_runs.specs.Found.{FilesSeen}
use Rattle.dry_runs.specs.Plans.{IsDryPlan, StopsDry}
use Rattle.dry_runs.specs.Shown.{IsDryRun}

-- it has no plan: there is no source, or the plan is refused
pub record EndsUnplanned (command : Command) (limits : Limits) (files : FilesSeen) (run : Run) : Type 0 where
  pub why : Fatal
  pub ends : HasNoTask (Some why) [] [] run
  pub stops : StopsDry command limits files why

-- the plan of its words and of what stands at its source is shown
pub record ShowsPlan (command : Command) (limits : Limits) (files : FilesSeen) (run : Run) : Type 0 where
  pub looked : List Warning
  pub plan : Plan
  pub planned : IsDryPlan command limits files looked plan
  pub shown : IsDryRun plan looked run

-- or memory ran out before its plan is shown
abbrev pub GoesDry : Command → Limits → FilesSeen → Run → Type 0
GoesDry command limits files run =
    EndsForMemory run ⊎ EndsUnplanned command limits files run ⊎ ShowsPlan command limits files run
