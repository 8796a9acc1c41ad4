-- What a dry run that asks something of a service comes to.
use Rattle.std.specs.Prelude.{ℕ, List, Option, Result}
use Rattle.run_report.specs.declared.run.Run.{Run}
use Rattle.s3_model.specs.Talks.{WireLog}
use Rattle.service_plans.specs.Local.{FilesSeen}
use Rattle.service_plans.specs.declared.halted.Halted.{Halted}
use Rattle.service_plans.specs.declared.planned.Planned.{Planned}
use Rattle.service_dry_runs.specs.Endings.{EndsBy}
use Rattle.service_dry_runs.specs.Plannings.{Assignment, PlansOverFirst}

-- It planned over the lane of the first wire, with the jobs of its journal, and ended by what came of that.
-- `seen wire`: all that is seen of the wire, if it is; `faults wire`: how often a call of it failed.
module _ {W : Type 0} (seen : W → Option WireLog) (faults : W → ℕ) where
  pub record GoesServedDry (of_plan : Assignment) (files : FilesSeen) (before after : List W) (run : Run)
      : Type 0 where
    pub result : Result Planned Halted
    pub planning : PlansOverFirst seen faults of_plan files before after run.journal.items result
    pub ends : EndsBy result run
