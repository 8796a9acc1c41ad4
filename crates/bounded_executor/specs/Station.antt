-- A worker with its ends of the two rings of its lane.
use Rattle.std.specs.Prelude.{◌≡◌, ℕ, []}
use Rattle.std.specs.declared.alloc.Global.{Global}
use Rattle.rtrb.specs.Ring.{sent, received, producer_capacity, IsPair, SameConsumer, SameProducer}
use Rattle.rtrb.specs.declared.AnyItems.{AnyItems}
use Rattle.rtrb.specs.declared.producer.Producer.{Producer}
use Rattle.rtrb.specs.declared.consumer.Consumer.{Consumer}
use Rattle.bounded_executor.specs.declared.station.Station.{Station}
use Rattle.bounded_executor.specs.Runs.{Runs}

-- the station has the other ends of both rings
pub record IsLinked {W J D : Type 0} (s : Station W J D) (to : Producer J Global AnyItems)
    (from : Consumer D Global AnyItems) : Type 0 where
  pub jobs : IsPair to s.jobs
  pub outcomes : IsPair s.outcomes from

-- nothing has gone through the station's rings
pub record IsUnused {W J D : Type 0} (s : Station W J D) : Type 0 where
  pub jobs : received s.jobs ≡ []
  pub outcomes : sent s.outcomes ≡ []

-- the worker carried each job that came, in order, and sent its outcome
pub record HasServed {W J D : Type 0} (carries : W → J → D → W → Type 0) (before after : Station W J D) : Type 0 where
  pub jobs : SameConsumer before.jobs after.jobs
  pub outcomes : SameProducer before.outcomes after.outcomes
  pub ran : Runs carries before.worker (received after.jobs) (sent after.outcomes) after.worker

-- the worker was this one, and the outcome of each job that it carried was taken
pub record IsSettled {W J D : Type 0} (carries : W → J → D → W → Type 0) (depth : ℕ) (worker : W)
    (from : Consumer D Global AnyItems) (s : Station W J D) : Type 0 where
  pub ran : Runs carries worker (received s.jobs) (sent s.outcomes) s.worker
  pub taken : sent s.outcomes ≡ received from
  pub capacity : producer_capacity s.outcomes ≡ depth
