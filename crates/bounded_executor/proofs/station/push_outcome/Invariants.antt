use Rattle.std.proofs.Common.{◌≡◌}
use Rattle.rtrb.specs.Ring.{sent, SameProducer}
use Rattle.bounded_executor.proofs.station.push_outcome.Given as goal

abbrev pub invariant-loop : goal.invariant-loop
invariant-loop g l =
    SameProducer l.initial.outcomes l.outcomes × (sent l.outcomes ≡ sent l.initial.outcomes) × (l.outcome ≡ l.initial.outcome)
