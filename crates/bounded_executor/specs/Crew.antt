-- Who carries the jobs of a lane, and what is known of them.
use Rattle.std.specs.Prelude.{◌≡◌, ℕ}
use Rattle.std.specs.declared.alloc.Global.{Global}
use Rattle.rtrb.specs.declared.AnyItems.{AnyItems}
use Rattle.rtrb.specs.declared.producer.Producer.{Producer}
use Rattle.rtrb.specs.declared.consumer.Consumer.{Consumer}
use Rattle.bounded_executor.specs.declared.lane.Crew.{Crew}
use Rattle.bounded_executor.specs.declared.lane.Crew.TheVariants.{Away, Here}
use Rattle.bounded_executor.specs.Station.{IsLinked, IsUnused, IsSettled}

-- they began with this worker, and have the other ends of both rings
abbrev pub IsCrewOf : {W J D : Type 0} → (W → J → D → W → Type 0) → ℕ → W → Producer J Global AnyItems
    → Consumer D Global AnyItems → Crew W J D → Type 0
IsCrewOf carries depth worker to from (Away thread) =
    IsLinked thread.promise.station.value to from × IsUnused thread.promise.station.value
    × (thread.promise.station.value.worker ≡ worker)
IsCrewOf carries depth worker to from (Here s) = IsLinked s to from × IsSettled carries depth worker from s
