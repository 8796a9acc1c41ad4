-- What is known of a lane's crew in each of its two cases.
use Rattle.std.proofs.Common.{◌≡◌, ℕ, sym, subst}
use Rattle.std.specs.declared.alloc.Global.{Global}
use Rattle.rtrb.specs.Ring.{SameConsumer, SameProducer}
use Rattle.rtrb.specs.declared.AnyItems.{AnyItems}
use Rattle.rtrb.specs.declared.producer.Producer.{Producer}
use Rattle.rtrb.specs.declared.consumer.Consumer.{Consumer}
use Rattle.bounded_executor.specs.declared.station.Station.{Station}
use Rattle.bounded_executor.specs.declared.lane.Crew.{Crew}
use Rattle.bounded_executor.specs.declared.lane.Crew.TheVariants.{Away, Here}
use Rattle.bounded_executor.specs.Station.{IsLinked, IsUnused, IsSettled}
use Rattle.bounded_executor.specs.Crew.{IsCrewOf}
use Rattle.bounded_executor.proofs.RingLemmas.{pair_of_later_consumer, pair_of_later_producer}

module _ {W J D : Type 0} (carries : W → J → D → W → Type 0) (depth : ℕ) (w : W) (to : Producer J Global AnyItems) where
  pub settled_of : (from : Consumer D Global AnyItems) (crew : Crew W J D) (s : Station W J D) → crew ≡ Here s → IsCrewOf carries depth w to from crew → IsLinked s to from × IsSettled carries depth w from s
  settled_of from crew s is known = subst (λ (c : Crew W J D). IsCrewOf carries depth w to from c) is known

  -- a thread's lane stays its lane when an outcome is popped
  pub crew_away : (from later : Consumer D Global AnyItems) (crew : Crew W J D) (thread : _) → crew ≡ Away thread → SameConsumer from later → IsCrewOf carries depth w to from crew → IsCrewOf carries depth w to later crew
  crew_away from later crew thread is same known =
      let at_thread = subst (λ (c : Crew W J D). IsCrewOf carries depth w to from c) is known in
      let then : IsCrewOf carries depth w to later (Away thread) = (record { jobs = at_thread.0.jobs; outcomes = pair_of_later_consumer thread.promise.station.value.outcomes from later at_thread.0.outcomes same }, at_thread.1, at_thread.2) in
      subst (λ (c : Crew W J D). IsCrewOf carries depth w to later c) (sym is) then

  pub opened_of : (from : Consumer D Global AnyItems) (crew : Crew W J D) (thread : _) → crew ≡ Away thread → IsCrewOf carries depth w to from crew → IsLinked thread.promise.station.value to from × IsUnused thread.promise.station.value × (thread.promise.station.value.worker ≡ w)
  opened_of from crew thread is known = subst (λ (c : Crew W J D). IsCrewOf carries depth w to from c) is known

module _ {W J D : Type 0} (carries : W → J → D → W → Type 0) (depth : ℕ) (w : W) where
  -- a lane's crew stays its crew when a job goes into the ring
  pub crew_given : (to later : Producer J Global AnyItems) (from : Consumer D Global AnyItems) (crew : Crew W J D) → SameProducer to later → IsCrewOf carries depth w to from crew → IsCrewOf carries depth w later from crew
  crew_given to later from (Away thread) same known =
      (record { jobs = pair_of_later_producer to later thread.promise.station.value.jobs known.0.jobs same; outcomes = known.0.outcomes }, known.1, known.2)
  crew_given to later from (Here s) same known =
      (record { jobs = pair_of_later_producer to later s.jobs known.0.jobs same; outcomes = known.0.outcomes }, known.1)
