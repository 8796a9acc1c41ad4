use Rattle.std.proofs.Common.{◌≡◌}
use Rattle.bounded_executor.proofs.desk.Desk.carry.Given as goal

abbrev pub invariant-loop-lane : goal.invariant-loop-lane
invariant-loop-lane g l = l.self ≡ l.initial.self
