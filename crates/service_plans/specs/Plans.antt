-- The plan of a command, by what was asked and looked at for its two sides.
use Rattle.std.specs.Prelude.{◌≡◌, ◌⊎◌, ◌++◌, ℕ, List, [], true, Some, Result, Ok, Err}
use Rattle.command_errands.specs.Errands.{errand_of}
use Rattle.planning_questions.specs.Questions.{Question}
use Rattle.planning_questions.specs.declared.halt.Halt.TheVariants as halt
use Rattle.s3_model.specs.declared.places.Entry.{Entry}
use Rattle.s3_model.specs.declared.settings.Limits.{Limits}
use Rattle.s3_model.specs.declared.tasks.Plan.{Plan}
use Rattle.s3_model.specs.declared.tasks.Task.{Task}
use Rattle.s3_model.specs.declared.tasks.Warning.{Warning}
use Rattle.s3_words.specs.declared.commands.Command.{Command}
use Rattle.s3_words.specs.declared.commands.Verb.{Verb}
use Rattle.s3_words.specs.declared.commands.Verb.TheVariants as verb
use Rattle.sync_plan.specs.Fit.{IsFit, IsRefused}
use Rattle.sync_plan.specs.Plans.{copies, planned_removals, synced, warnings_for}
use Rattle.sync_plan.specs.declared.errand.Errand.{Errand}
use Rattle.service_plans.specs.Local.{FilesSeen}
use Rattle.service_plans.specs.Sides.{FindsBoth, SourceOf, entries_in}
use Rattle.service_plans.specs.declared.dests.Dest.{Dest}
use Rattle.service_plans.specs.declared.found.Found.{Found}
use Rattle.service_plans.specs.declared.halted.Halted.{Halted}
use Rattle.service_plans.specs.declared.halted.Halted.TheVariants as halted
use Rattle.service_plans.specs.declared.planned.Planned.{Planned}

-- ---- the plan of an errand

abbrev pub tasks_by : Verb → Errand → (source dest : List Entry) → List Task
tasks_by verb.Sync errand source dest = synced errand source dest
tasks_by verb.Rm errand source dest = planned_removals errand source
tasks_by of_verb errand source dest = copies errand source

-- a removal leaves out no name
abbrev pub warnings_by : Verb → Errand → (source : List Entry) → List Warning
warnings_by verb.Rm errand source = []
warnings_by verb.Sync errand source = warnings_for errand errand.to true source
warnings_by of_verb errand source = warnings_for errand errand.to errand.many source

pub record IsPlanOf (of_verb : Verb) (errand : Errand) (source dest : List Entry) (plan : Plan) : Type 0 where
  pub tasks : plan.tasks.items ≡ tasks_by of_verb errand source dest
  pub warnings : plan.warnings.items ≡ warnings_by of_verb errand source
  pub fit : IsFit errand.limits.max_object plan.tasks.items

-- such a plan is refused, or memory ran out for it
abbrev pub RefusesPlan : Verb → Errand → (source dest : List Entry) → Halted → Type 0
RefusesPlan of_verb errand source dest (halted.Asked halt.Memory) = Unit {0}
RefusesPlan of_verb errand source dest (halted.Plan fault) =
    IsRefused errand.limits.max_object (tasks_by of_verb errand source dest) fault
RefusesPlan of_verb errand source dest why = ⊥

-- ---- the plan of a command

-- what a command's plan comes to, by the entries of its two sides
abbrev pub ComesTo : Command → Limits → (source : Found) → Dest → Result Plan Halted → Type 0
ComesTo command limits source dest (Ok plan) =
    (errand : Errand) × (errand_of command limits dest.into_folder ≡ Some errand)
    × IsPlanOf command.verb errand (entries_in source.side) (entries_in dest.found.side) plan
ComesTo command limits source dest (Err (halted.Asked halt.Memory)) = Unit {0}
ComesTo command limits source dest (Err why) =
    (errand : Errand) × (errand_of command limits dest.into_folder ≡ Some errand)
    × RefusesPlan command.verb errand (entries_in source.side) (entries_in dest.found.side) why

-- with the warnings of looking at the source, and behind them those of the destination
abbrev pub PlansBoth : Command → Limits → (source : Found) → Dest → Result Planned Halted → Type 0
PlansBoth command limits source dest (Ok planned) =
    ComesTo command limits source dest (Ok planned.plan)
    × (planned.looked.items ≡ source.looked.items ++ dest.found.looked.items)
PlansBoth command limits source dest (Err why) = ComesTo command limits source dest (Err why)

-- What is asked and looked at for a command, its questions numbered from there, and what comes of it: the source, then
-- the destination, then the plan, and nothing behind the first fault.
abbrev pub PlansCommand : Command → Limits → FilesSeen → (number : ℕ) → List Question → Result Planned Halted → Type 0
PlansCommand command limits files number questions result =
    ((why : Halted) × SourceOf command files number questions (Err why) × (result ≡ Err why))
    ⊎ ((source : Found) × (why : Halted) × FindsBoth command files number questions source (Err why)
    × (result ≡ Err why))
    ⊎ ((source : Found) × (dest : Dest) × FindsBoth command files number questions source (Ok dest)
    × PlansBoth command limits source dest result)
