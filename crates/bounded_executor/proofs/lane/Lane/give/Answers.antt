use Rattle.std.proofs.Common.{◌<◌, ap, arith}
use Rattle.bounded_executor.specs.Exchange.{jobs_out}
use Rattle.bounded_executor.proofs.CrewLemmas.{crew_given}
use Rattle.bounded_executor.proofs.LaneLemmas.{counted_given, few_wait}
use Rattle.bounded_executor.proofs.lane.Lane.give.Goals as goal

pub add-requires : goal.add-requires
add-requires g c =
    let room : c.self.inside.out < c.self.inside.depth = omega (arith, ap (λ l. jobs_out l.exchange) c.self.view_is, ap (λ l. l.depth) c.self.view_is) in
    few_wait _ _ _ _ c.self.invariant.0 room

pub invariant_of-self : goal.invariant_of-self
invariant_of-self g c =
    let known = c.self.invariant in
    let added = c.add.ensures in
    let room : c.self.inside.out < c.self.inside.depth = omega (arith, ap (λ l. jobs_out l.exchange) c.self.view_is, ap (λ l. l.depth) c.self.view_is) in (
      counted_given _ _ _ _ _ _ known.0 room added.order added.ring.1 added.capacity added.more,
      crew_given g.W.Worker.carries _ _ _ _ _ _ added.ring known.1,
    )
