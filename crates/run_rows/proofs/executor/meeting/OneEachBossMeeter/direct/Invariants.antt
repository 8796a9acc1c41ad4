use Rattle.bounded_executor.specs.Desk.{SameDesk}
use Rattle.run_rows.proofs.executor.meeting.OneEachBossMeeter.direct.Given as goal

abbrev pub invariant-loop-lane : goal.invariant-loop-lane
invariant-loop-lane g l = SameDesk l.initial.desk l.desk
