use Rattle.std.proofs.Common.{◌≡◌, [], length, length-append, sym, ap, subst, ◌∙◌, arith}
use Rattle.std.proofs.lemmas.List.{nil_from_length}
use Rattle.rtrb.specs.Ring.{received, known_items}
use Rattle.bounded_executor.specs.declared.station.Station.{Station}
use Rattle.bounded_executor.specs.Station.{HasServed}
use Rattle.bounded_executor.proofs.RunsLemmas.{Runs-nil}
use Rattle.bounded_executor.proofs.RingLemmas.{pair_of_later_consumer, pair_of_later_producer, pair_of_later_ends}
use Rattle.bounded_executor.proofs.LaneLemmas.{counted_unused}
use Rattle.bounded_executor.proofs.open.open_lane.Goals as goal
use Rattle.bounded_executor.proofs.open.open_lane.Goals.{in-Ok, in-Err}

pub invariant_of-result : goal.invariant_of-result
invariant_of-result g c =
    let parts = c.parts.inside in
    let rings = parts.rings in
    let ready = c.parts.invariant in
    elim c.match-spawn_with.branch [
      | in-Ok w ↦
          let is = ap (λ p. p.station.value) w.in-Ok.ensures.ok ∙ c.of.ensures in
          rw (w.outbox-is, w.crew-is) (
            counted_unused parts.depth rings.outbox rings.outcomes ready.jobs_sent ready.none_waits ready.outcomes_received ready.jobs_capacity ready.capacity,
            rw is (
              record { jobs = ready.jobs_pair; outcomes = ready.outcomes_pair },
              record { jobs = ready.jobs_received; outcomes = ready.outcomes_sent },
              sym c.of-start.ensures,
            ),
          )
      | in-Err w ↦
          let seen = w.slots_beside.ensures in
          let station = w.work-station.result in
          let before : Station g.row.W.Denot g.row.W-Job.Denot g.row.W-Done.Denot = record { worker = c.args.worker; jobs = rings.jobs; outcomes = rings.to } in
          let captured = ap (λ f. f.0) w.in-Err.ensures.err in
          let served : HasServed g.W.Worker.carries before station = subst (λ (s : Station g.row.W.Denot g.row.W-Job.Denot g.row.W-Done.Denot). HasServed g.W.Worker.carries s station) captured w.work-station.ensures in
          let later = w.slots_beside.new in
          let unsent = seen.producer.1 ∙ ready.jobs_sent in
          let nothing = ap length (seen.fifo ∙ unsent) in
          let none_received : received later.self ≡ [] = nil_from_length (received later.self) (omega (arith, nothing, length-append (received later.self) (known_items later.self))) in
          let none_sent = Runs-nil g.W.Worker.carries _ _ _ _ (sym seen.looked.1 ∙ none_received) served.ran in
          rw (w.outbox-is, w.crew-is) (
            counted_unused parts.depth (record { ring = later.producer; waiting = rings.outbox.waiting }) rings.outcomes unsent ready.none_waits ready.outcomes_received (seen.producer.0.1 ∙ ready.jobs_capacity) ready.capacity,
            (
              record {
                jobs = pair_of_later_ends rings.outbox.ring later.producer station.jobs later.self (pair_of_later_consumer rings.outbox.ring rings.jobs station.jobs ready.jobs_pair served.jobs) seen.producer.0 seen.looked.0;
                outcomes = pair_of_later_producer rings.to station.outcomes rings.outcomes ready.outcomes_pair served.outcomes;
              },
              record {
                ran = rw (seen.looked.1, c.of-start.ensures) served.ran;
                taken = none_sent ∙ sym ready.outcomes_received;
                capacity = served.outcomes.1 ∙ ready.outcomes_capacity;
              },
            ),
          )
    ]
