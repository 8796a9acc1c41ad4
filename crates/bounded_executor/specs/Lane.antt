-- One lane, as the desk sees it, and what is always true of it.
use Rattle.std.specs.Prelude.{◌≡◌, ℕ, ◌+◌, ◌≤◌, length}
use Rattle.std.specs.VecDeque.{deque_capacity}
use Rattle.std.specs.declared.alloc.Global.{Global}
use Rattle.rtrb.specs.Ring.{sent, received, producer_capacity}
use Rattle.rtrb.specs.declared.AnyItems.{AnyItems}
use Rattle.rtrb.specs.declared.consumer.Consumer.{Consumer}
use Rattle.bounded_executor.specs.declared.outbox.Outbox.{Outbox}
use Rattle.bounded_executor.specs.Outbox.{jobs_given}
use Rattle.bounded_executor.specs.Exchange.{Exchange, unused}

pub record LaneState (W J D : Type 0) : Type 0 where
  pub depth : ℕ
  pub worker : W  -- as it was before it began
  pub exchange : Exchange J D

-- a lane with nothing exchanged yet
abbrev pub opened : {W J D : Type 0} → ℕ → W → LaneState W J D
opened depth worker = record { depth = depth; worker = worker; exchange = unused }

-- `out` counts the jobs not taken back, which are at most `depth`; no outcome was taken whose job did not go into the
-- ring
pub record IsCounted {J D : Type 0} (depth out : ℕ) (outbox : Outbox J)
    (outcomes : Consumer D Global AnyItems) : Type 0 where
  pub counted : out + length (received outcomes) ≡ length (jobs_given outbox)
  pub at_most_depth : out ≤ depth
  pub behind : length (received outcomes) ≤ length (sent outbox.ring)
  pub capacity : depth ≤ deque_capacity outbox.waiting
  pub ring_capacity : producer_capacity outbox.ring ≡ depth
