use Rattle.std.proofs.Common.{arith, ap, length, rules, ◌∙◌}
use Rattle.std.proofs.lemmas.List.{length_push}
use Rattle.bounded_executor.proofs.RingLemmas.{pair_of_later_ends}
use Rattle.bounded_executor.proofs.RunsLemmas.{Runs-push, Runs-length}
use Rattle.bounded_executor.proofs.CrewLemmas.{settled_of}
use Rattle.bounded_executor.proofs.lane.Lane.carry.Goals as goal

pub pop_beside-job-requires-clause-due : goal.pop_beside-job-requires-clause-due
pop_beside-job-requires-clause-due g c =
    let settled = settled_of g.W.Worker.carries _ _ _ _ _ _ c.in-Here.is c.self.invariant.1 in
    omega (arith, Runs-length g.W.Worker.carries _ _ _ _ settled.1.ran, ap length settled.1.taken)

-- the station has carried one job more, and its outcome was taken
pub invariant_of-self : goal.invariant_of-self
invariant_of-self g c =
    let known = c.self.invariant.0 in
    let settled = settled_of g.W.Worker.carries _ _ _ _ _ _ c.in-Here.is c.self.invariant.1 in
    let popped = c.pop_beside-job.ensures in
    let passed = c.pass_through-done.ensures in
    let ran = Runs-push g.W.Worker.carries _ _ _ _ _ _ _ settled.1.ran c.carry-done.ensures in
    let as_many = Runs-length g.W.Worker.carries _ _ _ _ settled.1.ran in
    let taken = ap length settled.1.taken in
    let more = ap length passed.received ∙ length_push _ _ in
    let received = ap length popped.popped ∙ length_push _ _ in (
      record {
        counted = omega (arith, more, known.counted, ap length popped.order);
        at_most_depth = omega (arith, known.at_most_depth);
        behind = omega (arith, more, received, as_many, taken, popped.behind);
        capacity = search (rules, known.capacity, popped.capacity);
        ring_capacity = popped.outbox_ring.1 ∙ known.ring_capacity;
      },
      (
        record {
          jobs = pair_of_later_ends c.self.inside.outbox.ring c.pop_beside-job.new.outbox.ring c.in-Here.station.jobs c.pop_beside-job.new.jobs settled.0.jobs popped.outbox_ring popped.ring;
          outcomes = pair_of_later_ends c.in-Here.station.outcomes c.pass_through-done.new.to c.self.inside.outcomes c.pass_through-done.new.from settled.0.outcomes passed.to_ring passed.from_ring;
        },
        record {
          ran = rw (popped.popped, passed.sent) ran;
          taken = rw (passed.sent, passed.received, settled.1.taken);
          capacity = passed.to_ring.1 ∙ settled.1.capacity;
        },
      ),
    )
