use Rattle.std.proofs.Common.{◌≡◌}
use Rattle.bounded_executor.proofs.desk.Desk.take.Given as goal

abbrev pub invariant-loop : goal.invariant-loop
invariant-loop g l = l.self ≡ l.initial.self
