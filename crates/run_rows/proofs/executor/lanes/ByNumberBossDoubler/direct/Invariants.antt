use Rattle.bounded_executor.specs.Desk.{SameDesk}
use Rattle.run_rows.proofs.executor.lanes.ByNumberBossDoubler.direct.Given as goal

abbrev pub invariant-loop-job : goal.invariant-loop-job
invariant-loop-job g l = SameDesk l.initial.desk l.desk
