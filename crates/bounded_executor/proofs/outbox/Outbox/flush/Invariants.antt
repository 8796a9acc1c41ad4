use Rattle.std.proofs.Common.{◌≡◌, ◌≤◌, length}
use Rattle.std.specs.VecDeque.{deque_capacity}
use Rattle.rtrb.specs.Ring.{sent, SameProducer}
use Rattle.bounded_executor.specs.Outbox.{jobs_given, known_limit}
use Rattle.bounded_executor.proofs.outbox.Outbox.flush.Given as goal

abbrev pub invariant-loop-self : goal.invariant-loop-self
invariant-loop-self g l =
    SameProducer l.initial.self.ring l.self.ring
    × (jobs_given l.self ≡ jobs_given l.initial.self)
    × (deque_capacity l.self.waiting ≡ deque_capacity l.initial.self.waiting)
    × (length (sent l.initial.self.ring) ≤ length (sent l.self.ring))
    × (length l.self.waiting.items ≤ length l.initial.self.waiting.items)
    × (known_limit l.initial.self ≤ known_limit l.self)

abbrev pub decreases-loop-self : goal.decreases-loop-self
decreases-loop-self g l = length l.self.waiting.items
