-- How a dry run that asks something of a service ends.
use Rattle.std.specs.Prelude.{◌≡◌, ◌⊎◌, ◌++◌, List, [], Some, Result, Ok, Err}
use Rattle.std.specs.List.{All, AllByRecursion}
use Rattle.dry_runs.specs.Shown.{all_dry}
use Rattle.planning_questions.specs.declared.halt.Halt.{Halt}
use Rattle.planning_questions.specs.declared.halt.Halt.TheVariants as halt
use Rattle.result_lines.specs.Causes.{IsShown}
use Rattle.result_lines.specs.Tasks.{HasSource}
use Rattle.result_lines.specs.Warnings.{IsShown as Warns}
use Rattle.run_report.specs.Taskless.{MayEnd}
use Rattle.run_report.specs.Texts.{IsOfLooking}
use Rattle.run_report.specs.declared.run.Fatal.{Fatal}
use Rattle.run_report.specs.declared.run.Fatal.TheVariants as fatal
use Rattle.run_report.specs.declared.run.Run.{Run}
use Rattle.s3_model.specs.declared.faults.BadListing.TheVariants as bad
use Rattle.s3_model.specs.declared.faults.PlanFault.TheVariants as refused
use Rattle.s3_model.specs.declared.faults.WalkFault.TheVariants as walk
use Rattle.s3_model.specs.declared.tasks.Plan.{Plan}
use Rattle.s3_model.specs.declared.tasks.Warning.{Warning}
use Rattle.service_plans.specs.declared.halted.Halted.{Halted}
use Rattle.service_plans.specs.declared.halted.Halted.TheVariants as halted
use Rattle.service_plans.specs.declared.planned.Planned.{Planned}

-- how what halts a planning ends the run; where memory ran out nothing else is said. No lane brings a stranger.
abbrev pub halt_fatal : Halt → Fatal
halt_fatal (halt.Answer why) = fatal.Answer why
halt_fatal (halt.Listing bad.Memory) = fatal.Memory
halt_fatal (halt.Listing fault) = fatal.Listing fault
halt_fatal halt.Memory = fatal.Memory
halt_fatal halt.Stranger = fatal.Memory

abbrev pub fatal_for : Halted → Fatal
fatal_for (halted.Asked why) = halt_fatal why
fatal_for (halted.Walk walk.Memory) = fatal.Memory
fatal_for (halted.Walk fault) = fatal.Walk fault
fatal_for (halted.Plan refused.Memory) = fatal.Memory
fatal_for (halted.Plan fault) = fatal.Plan fault

-- the cause of an answer has a line, and no job is a stranger
abbrev pub MayHaltBy : Halt → Type 0
MayHaltBy (halt.Answer why) = IsShown why
MayHaltBy halt.Stranger = ⊥
MayHaltBy why = Unit {0}

abbrev pub MayHalt : Halted → Type 0
MayHalt (halted.Asked why) = MayHaltBy why
MayHalt why = Unit {0}

-- it ended early, without a task
pub record EndsEarly (why : Fatal) (run : Run) : Type 0 where
  pub ends : run.fatal ≡ Some why
  pub no_task : run.plan.tasks.items ≡ []
  pub no_skip : run.plan.warnings.items ≡ []
  pub no_outcome : run.outcomes.items ≡ []
  pub no_warning : run.warnings.items ≡ []

-- It shows this plan: the warnings of looking, then those of the plan, and each task dry. Nothing but want of memory
-- ends it.
pub record ShowsDry (plan : Plan) (looked : List Warning) (run : Run) : Type 0 where
  pub ends : MayEnd run.fatal
  pub plan_is : run.plan ≡ plan
  pub warned : run.warnings.items ≡ looked ++ plan.warnings.items
  pub all_shown : run.outcomes.items ≡ all_dry plan.tasks.items

-- the plan is shown, unless memory ran out for that; or there is none, and the run ended for the same reason
abbrev pub EndsBy : Result Planned Halted → Run → Type 0
EndsBy (Ok planned) run = EndsEarly fatal.Memory run ⊎ ShowsDry planned.plan planned.looked.items run
EndsBy (Err why) run = EndsEarly (fatal_for why) run

-- its warnings are of looking and of names that are left out, and each task has its source
pub record IsShowable (planned : Planned) : Type 0 where
  pub looking : AllByRecursion IsOfLooking planned.looked.items
  pub skips : All Warns planned.plan.warnings.items
  pub sources : All HasSource planned.plan.tasks.items

-- a plan that can be shown, or a halt that has a line
abbrev pub CanEnd : Result Planned Halted → Type 0
CanEnd (Ok planned) = IsShowable planned
CanEnd (Err why) = MayHalt why
