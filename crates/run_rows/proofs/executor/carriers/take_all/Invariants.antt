use Rattle.bounded_executor.specs.Desk.{SameDesk}
use Rattle.run_rows.proofs.executor.carriers.take_all.Given as goal

abbrev pub invariant-loop : goal.invariant-loop
invariant-loop g l = SameDesk l.initial.desk l.desk
