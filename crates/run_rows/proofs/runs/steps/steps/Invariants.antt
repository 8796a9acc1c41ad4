use Rattle.run_rows.specs.Runs.{IsFree}
use Rattle.run_rows.proofs.runs.steps.steps.Given as goal

abbrev pub invariant-loop : goal.invariant-loop
invariant-loop l = IsFree l.run.manager l.run.lanes.items
