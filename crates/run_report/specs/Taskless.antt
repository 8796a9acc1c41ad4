-- Runs without a task.
use Rattle.std.specs.Prelude.{◌≡◌, ◌++◌, List, [], Option, Some, None}
use Rattle.std.specs.List.{AllByRecursion}
use Rattle.s3_model.specs.declared.tasks.Warning.{Warning}
use Rattle.run_report.specs.declared.run.Fatal.{Fatal}
use Rattle.run_report.specs.declared.run.Fatal.TheVariants as fatal
use Rattle.run_report.specs.declared.run.Run.{Run}
use Rattle.run_report.specs.Texts.{IsOfLooking}

-- a run without a task, with these warnings of its plan and all these warnings
pub record HasNoTask (why : Option Fatal) (skips warnings : List Warning) (run : Run) : Type 0 where
  pub fatal : run.fatal ≡ why
  pub no_task : run.plan.tasks.items ≡ []
  pub no_outcome : run.outcomes.items ≡ []
  pub no_job : run.journal.items ≡ []
  pub skips_are : run.plan.warnings.items ≡ skips
  pub warnings_are : run.warnings.items ≡ warnings

-- the warnings of planning are those of looking, and then the plan's own
abbrev pub ArePlanning : (skips warnings : List Warning) → Type 0
ArePlanning skips warnings =
    (looked : List Warning) × AllByRecursion IsOfLooking looked × (warnings ≡ looked ++ skips)

-- memory ran out before there was a task
abbrev pub EndsForMemory : Run → Type 0
EndsForMemory run = HasNoTask (Some fatal.Memory) [] [] run

-- nothing but want of memory ends a run that goes on
abbrev pub MayEnd : Option Fatal → Type 0
MayEnd None = Unit {0}
MayEnd (Some fatal.Memory) = Unit {0}
MayEnd (Some why) = ⊥
