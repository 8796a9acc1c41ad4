use Rattle.std.proofs.Common.{◌≡◌, ℕ, ◌∷◌, [], length, sum_by, ap, append_assoc, arith}
use Rattle.std.proofs.lemmas.List.{append-nil, length-map, nil_from_length}
use Rattle.std.proofs.lemmas.List.Sums.{sum_by-cons}
use Rattle.std.specs.Vec.Iter.{into_iter_items}
use Rattle.bounded_executor.specs.Lane.{LaneState}
use Rattle.bounded_executor.specs.Exchange.{jobs_out}
use Rattle.bounded_executor.specs.Desk.{all_out}
use Rattle.bounded_executor.proofs.DeskLemmas.{all_left, all_out-desk_of}
use Rattle.bounded_executor.proofs.desk.Desk.finish.Goals as goal

-- no job is out of a lane that is left
pub loop-lane-init : goal.loop-lane-init
loop-lane-init g c =
    let lanes = c.self.inside.lanes in
    let left = c.into_iter-lane-iterator.ensures.into_iter_gives in
    let view = c.self.view_is in
    let out_of : LaneState g.row.W.Denot g.row.W-Job.Denot g.row.W-Done.Denot → ℕ = λ l. jobs_out l.exchange in (
      (λ rest ran. all_left g.W.Worker.carries c.self.inside.depth _ _ _ _ _ view left.0 c.requires.room.0 ran),
      omega (arith, all_out-desk_of c.self.inside.depth lanes.items, ap all_out view, c.requires.none_out, ap (sum_by out_of) left.0),
      omega (arith, left.1, c.requires.room.1, ap length c.requires.room.0, c.args.workers.ok.0, lanes.ok.0, ap (λ d. length d.workers) view, length-map lanes.items (λ l. l.worker)),
    )

pub finish-requires-after_bounds : goal.finish-requires-after_bounds
finish-requires-after_bounds g c κs within =
    let out_of : LaneState g.row.W.Denot g.row.W-Job.Denot g.row.W-Done.Denot → ℕ = λ l. jobs_out l.exchange in
    omega (arith, ap (sum_by out_of) c.in-Some.ensures.steps.0, sum_by-cons out_of c.in-Some.lane (into_iter_items c.next.new.self), c.loop-lane.invariant.1)

pub push_reserved-requires : goal.push_reserved-requires
push_reserved-requires g c = omega (arith, c.in-Some.ensures.steps.1, c.loop-lane.invariant.2)

-- the worker of the next lane comes back behind the others
pub loop-lane-preserved : goal.loop-lane-preserved
loop-lane-preserved g c =
    let steps = c.in-Some.ensures.steps in
    let known = c.loop-lane.invariant in
    let out_of : LaneState g.row.W.Denot g.row.W-Job.Denot g.row.W-Done.Denot → _ = λ l. jobs_out l.exchange in (
      (λ rest ran.
          let all = known.0 (c.finish.result ∷ rest) (rw steps.0 (c.finish.ensures, ran)) in
          rw (c.push_reserved.ensures.items, append_assoc) all),
      omega (arith, ap (sum_by out_of) steps.0, sum_by-cons out_of c.in-Some.lane (into_iter_items c.next.new.self), known.1),
      omega (arith, steps.1, c.push_reserved.ensures.len, c.push_reserved.ensures.capacity),
    )

pub returns : goal.returns
returns g c =
    let none_left : into_iter_items c.loop-lane.lane-iterator ≡ [] = nil_from_length (into_iter_items c.loop-lane.lane-iterator) (omega (arith, c.in-None.ensures.steps.0, c.loop-lane.lane-iterator.rest.ok.0)) in
    rw append-nil at (c.loop-lane.invariant.0 [] (rw none_left tt))
