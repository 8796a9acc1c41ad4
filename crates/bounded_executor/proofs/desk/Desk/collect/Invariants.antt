use Rattle.std.proofs.Common.{◌≡◌}
use Rattle.bounded_executor.proofs.desk.Desk.collect.Given as goal

abbrev pub invariant-loop-look : goal.invariant-loop-look
invariant-loop-look g l = l.self ≡ l.initial.self
