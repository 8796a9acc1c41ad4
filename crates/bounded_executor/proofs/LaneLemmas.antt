-- The count of a lane.
use Rattle.std.proofs.Common.{◌≡◌, ◌+◌, ◌<◌, ◌≤◌, ◌++◌, ◌∷◌, ◌∙◌, ℕ, [], length, length-append, ap, arith}
use Rattle.std.proofs.lemmas.List.{length_push}
use Rattle.std.specs.VecDeque.{deque_capacity}
use Rattle.std.specs.declared.alloc.Global.{Global}
use Rattle.rtrb.specs.Ring.{sent, received, producer_capacity}
use Rattle.rtrb.specs.declared.AnyItems.{AnyItems}
use Rattle.rtrb.specs.declared.consumer.Consumer.{Consumer}
use Rattle.bounded_executor.specs.declared.outbox.Outbox.{Outbox}
use Rattle.bounded_executor.specs.Outbox.{jobs_given}
use Rattle.bounded_executor.specs.Lane.{IsCounted}

-- no job is out where nothing was given
pub counted_unused : {J D : Type 0} (depth : ℕ) (outbox : Outbox J) (outcomes : Consumer D Global AnyItems)
    → sent outbox.ring ≡ [] → outbox.waiting.items ≡ [] → received outcomes ≡ [] → producer_capacity outbox.ring ≡ depth → depth ≤ deque_capacity outbox.waiting
    → IsCounted depth 0 outbox outcomes
counted_unused depth outbox outcomes unsent unqueued untaken ring_capacity capacity =
    let given = length-append (sent outbox.ring) outbox.waiting.items in
    let none_sent = ap length unsent in
    let none_queued = ap length unqueued in
    let none_taken = ap length untaken in record {
      counted = omega arith;
      at_most_depth = omega arith;
      behind = omega arith;
      capacity = capacity;
      ring_capacity = ring_capacity;
    }

module _ {J D : Type 0} (depth out : ℕ) (outbox : Outbox J) (outcomes : Consumer D Global AnyItems) where
  -- no more jobs wait than are out
  pub few_wait : IsCounted depth out outbox outcomes → out < depth → length outbox.waiting.items < deque_capacity outbox.waiting
  few_wait known less = omega (arith, length-append (sent outbox.ring) outbox.waiting.items)

  -- one job more is out
  pub counted_given : (later : Outbox J) (job : J) → IsCounted depth out outbox outcomes → out < depth → jobs_given later ≡ jobs_given outbox ++ job ∷ []
      → producer_capacity later.ring ≡ producer_capacity outbox.ring → deque_capacity later.waiting ≡ deque_capacity outbox.waiting → length (sent outbox.ring) ≤ length (sent later.ring)
      → IsCounted depth (out + 1) later outcomes
  counted_given later job known less given ring waiting more =
      let longer = ap length given ∙ length_push (jobs_given outbox) job in record {
        counted = omega arith;
        at_most_depth = omega arith;
        behind = omega arith;
        capacity = omega arith;
        ring_capacity = ring ∙ known.ring_capacity;
      }
