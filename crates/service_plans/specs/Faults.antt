-- How faults of the layers below end a planning; want of memory is the same for all.
use Rattle.planning_questions.specs.declared.halt.Halt.TheVariants as halt
use Rattle.s3_model.specs.declared.faults.PlanFault.{PlanFault}
use Rattle.s3_model.specs.declared.faults.PlanFault.TheVariants as refused
use Rattle.s3_model.specs.declared.faults.WalkFault.{WalkFault}
use Rattle.s3_model.specs.declared.faults.WalkFault.TheVariants as walk
use Rattle.service_plans.specs.declared.halted.Halted.{Halted}
use Rattle.service_plans.specs.declared.halted.Halted.TheVariants as halted

abbrev pub walk_halted : WalkFault → Halted
walk_halted walk.Memory = halted.Asked halt.Memory
walk_halted fault = halted.Walk fault

abbrev pub plan_halted : PlanFault → Halted
plan_halted refused.Memory = halted.Asked halt.Memory
plan_halted fault = halted.Plan fault
