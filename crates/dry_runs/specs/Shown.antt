-- A dry run: each task of its plan is shown, and none is done.
use Rattle.std.specs.Prelude.{◌≡◌, ◌⊎◌, ◌++◌, ℕ, List, [], map}
use Rattle.s3_model.specs.declared.outcomes.Outcome.{Outcome}
use Rattle.s3_model.specs.declared.outcomes.Outcome.TheVariants as outcome
use Rattle.s3_model.specs.declared.tasks.Mode.{Mode}
use Rattle.s3_model.specs.declared.tasks.Task.{Task}
use Rattle.s3_model.specs.declared.tasks.Warning.{Warning}
use Rattle.result_lines.specs.Tasks.{line_of}
use Rattle.run_report.specs.Texts.{out_part}
use Rattle.run_report.specs.declared.run.Run.{Run}
use Rattle.run_report.specs.Taskless.{EndsForMemory, MayEnd}
use Rattle.s3_model.specs.declared.tasks.Plan.{Plan}

-- one for each task
abbrev pub all_dry : List Task → List Outcome
all_dry tasks = map (λ (task : Task). outcome.Dry) tasks

-- the line of a task that is only shown
abbrev pub dry_line : Mode → Task → List ℕ
dry_line mode task = out_part (line_of task outcome.Dry mode)

-- A run that shows a plan: the warnings of looking, then those of the plan, and each task dry. Nothing but want of
-- memory ends it.
pub record IsDryRun (plan : Plan) (looked : List Warning) (run : Run) : Type 0 where
  pub ends : MayEnd run.fatal
  pub plan_is : run.plan ≡ plan
  pub warned : run.warnings.items ≡ looked ++ plan.warnings.items
  pub all_shown : run.outcomes.items ≡ all_dry plan.tasks.items
  pub no_job : run.journal.items ≡ []

-- the plan is shown, unless memory ran out
abbrev pub IsShownPlan : Plan → (looked : List Warning) → Run → Type 0
IsShownPlan plan looked run = EndsForMemory run ⊎ IsDryRun plan looked run
