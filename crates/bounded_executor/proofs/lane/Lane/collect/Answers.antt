use Rattle.std.proofs.Common.{arith, ap, length, length-append, ◌∙◌}
use Rattle.rtrb.specs.Ring.{sent}
use Rattle.std.proofs.lemmas.List.{length_push}
use Rattle.bounded_executor.proofs.CrewLemmas.{crew_away}
use Rattle.bounded_executor.proofs.lane.Lane.collect.Goals as goal

pub invariant_of-self-2 : goal.invariant_of-self-2
invariant_of-self-2 g c =
    let known = c.self.invariant.0 in
    let more = ap length c.in-Ok.ensures.ok.0 ∙ length_push _ _ in (
      record {
        counted = omega (arith, more, known.counted);
        at_most_depth = omega (arith, known.at_most_depth);
        behind = omega (arith, more, known.counted, length-append (sent c.self.inside.outbox.ring) c.self.inside.outbox.waiting.items, c.self.inside.outbox.waiting.ok.0);
        capacity = known.capacity;
        ring_capacity = known.ring_capacity;
      },
      crew_away g.W.Worker.carries _ _ _ _ _ _ _ c.in-Away.is c.pop.ensures.ring c.self.invariant.1,
    )
