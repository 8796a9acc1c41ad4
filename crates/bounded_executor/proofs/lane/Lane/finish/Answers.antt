use Rattle.std.proofs.Common.{◌≡◌, ◌++◌, length, ◌∙◌, arith}
use Rattle.rtrb.specs.Ring.{sent, received, known_items}
use Rattle.bounded_executor.specs.Outbox.{jobs_given}
use Rattle.bounded_executor.specs.Runs.{Runs}
use Rattle.bounded_executor.proofs.CrewLemmas.{opened_of, settled_of}
use Rattle.bounded_executor.proofs.JoinLemmas.{all_carried}
use Rattle.bounded_executor.proofs.lane.Lane.finish.Goals as goal
use Rattle.bounded_executor.proofs.lane.Lane.finish.Goals.{in-Away, in-Here}

pub returns : goal.returns
returns g c =
    let carries = g.W.Worker.carries in
    let lane = c.self.inside in
    let station = c.match-crew.station in
    let known = c.self.invariant in
    let jobs_seen = c.slots_beside.ensures in
    let outcomes_seen = c.slots_beside-2.ensures in
    let jobs : received station.jobs ++ known_items c.slots_beside.new.self ≡ sent lane.outbox.ring = rw (← jobs_seen.looked.1) (jobs_seen.fifo ∙ jobs_seen.producer.1) in
    let outcomes : received lane.outcomes ++ known_items c.slots_beside-2.new.self ≡ sent station.outcomes = rw (← outcomes_seen.looked.1) (outcomes_seen.fifo ∙ outcomes_seen.producer.1) in
    let none_out = rw (← c.self.view_is) at c.requires in
    let even : length (jobs_given lane.outbox) ≡ length (received lane.outcomes) = omega (arith, none_out, known.0.counted) in
    let ran : Runs carries lane.start.value (received station.jobs) (sent station.outcomes) station.worker =
    elim c.match-crew.branch [
      | in-Away w ↦ rw (w.station-is, ← (opened_of carries _ _ _ _ _ _ w.in-Away.is known.1).2) w.join-station.ensures.ran
      | in-Here w ↦ rw w.station-is (settled_of carries _ _ _ _ _ _ w.in-Here.is known.1).1.ran
    ] in
    rw (← c.self.view_is) (all_carried carries _ (sent lane.outbox.ring) lane.outbox.waiting.items _ _ _ _ _ _ even known.0.behind jobs outcomes ran)
