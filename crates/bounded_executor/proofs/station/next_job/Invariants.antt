use Rattle.std.proofs.Common.{◌≡◌}
use Rattle.rtrb.specs.Ring.{received, SameConsumer}
use Rattle.bounded_executor.proofs.station.next_job.Given as goal

abbrev pub invariant-loop : goal.invariant-loop
invariant-loop g l = SameConsumer l.initial.jobs l.jobs × (received l.jobs ≡ received l.initial.jobs)
