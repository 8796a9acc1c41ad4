-- The parts of a lane before its worker is there.
use Rattle.std.specs.Prelude.{◌≡◌, ℕ, ◌≤◌, []}
use Rattle.std.specs.VecDeque.{deque_capacity}
use Rattle.std.specs.declared.alloc.Global.{Global}
use Rattle.rtrb.specs.Ring.{sent, received, producer_capacity, IsPair}
use Rattle.rtrb.specs.declared.AnyItems.{AnyItems}
use Rattle.rtrb.specs.declared.producer.Producer.{Producer}
use Rattle.rtrb.specs.declared.consumer.Consumer.{Consumer}
use Rattle.bounded_executor.specs.declared.outbox.Outbox.{Outbox}

-- two rings with room for `depth`, through which nothing has gone, and a queue with as much room
pub record AreReady {J D : Type 0} (depth : ℕ) (outbox : Outbox J) (jobs : Consumer J Global AnyItems)
    (to : Producer D Global AnyItems) (outcomes : Consumer D Global AnyItems) : Type 0 where
  pub jobs_pair : IsPair outbox.ring jobs
  pub outcomes_pair : IsPair to outcomes
  pub jobs_sent : sent outbox.ring ≡ []
  pub jobs_received : received jobs ≡ []
  pub outcomes_sent : sent to ≡ []
  pub outcomes_received : received outcomes ≡ []
  pub jobs_capacity : producer_capacity outbox.ring ≡ depth
  pub outcomes_capacity : producer_capacity to ≡ depth
  pub none_waits : outbox.waiting.items ≡ []
  pub capacity : depth ≤ deque_capacity outbox.waiting
