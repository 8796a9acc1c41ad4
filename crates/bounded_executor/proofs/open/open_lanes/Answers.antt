use Rattle.std.proofs.Common.{◌≡◌, [], length, vec_len, sym, ap, ◌∙◌, arith}
use Rattle.std.proofs.lemmas.List.{append-nil, nil_from_length, length-replicate}
use Rattle.std.specs.Vec.Iter.{into_iter_items, into_iter_len}
use Rattle.bounded_executor.proofs.OpenLemmas.{next_part, none_opened, one_opened}
use Rattle.bounded_executor.proofs.open.open_lanes.Goals as goal

-- the next lane stands behind the others, and the parts of one lane less are left
pub loop-worker-preserved : goal.loop-worker-preserved
loop-worker-preserved g c =
    let parts = c.loop-worker.parts in
    let steps = c.in-Some.ensures.steps in
    let known = c.loop-worker.invariant in
    let left = into_iter_len c.loop-worker.worker-iterator in
    let count : vec_len parts ≡ left = omega (arith, parts.ok.0, ap length known.1, length-replicate left c.args.depth) in
    let next = next_part c.args.depth (vec_len parts) left (into_iter_len c.next.new.self) parts.items c.pop.new.self.items c.in-Some-pop.part known.1 count (omega (arith, steps.1)) (c.in-Some-pop.ensures.value c.args.depth (omega (arith, steps.1, count))) c.pop.ensures.rest in (
      one_opened c.args.depth c.loop-worker.lanes.items c.push_reserved.new.self.items c.args.workers.items (into_iter_items c.loop-worker.worker-iterator) (into_iter_items c.next.new.self) c.in-Some.worker c.in-Some-pop.part c.open_lane.result
          known.0 steps.0 next.0 c.open_lane.ensures c.push_reserved.ensures.items,
      next.1,
      omega (arith, steps.1, c.push_reserved.ensures.len, c.push_reserved.ensures.capacity),
    )

pub loop-worker-init : goal.loop-worker-init
loop-worker-init g c =
    let left = c.into_iter-worker-iterator.ensures.into_iter_gives in (
      none_opened c.args.depth c.args.lanes.items _ c.args.workers.items c.requires.room.0 left.0,
      rw left.1 c.requires.parts,
      omega (arith, left.1, c.requires.room.1, ap length c.requires.room.0, c.args.lanes.ok.0),
    )

pub unreachable-requires : goal.unreachable-requires
unreachable-requires g c =
    let known = c.loop-worker.invariant in
    let many = length-replicate (into_iter_len c.loop-worker.worker-iterator) c.args.depth in
    omega (arith, c.in_default.ensures.cases.0, c.in-Some.ensures.steps.1, c.loop-worker.parts.ok.0, ap length known.1, many)

pub push_reserved-requires : goal.push_reserved-requires
push_reserved-requires g c = omega (arith, c.in-Some.ensures.steps.1, c.loop-worker.invariant.2)

pub returns : goal.returns
returns g c =
    let left = c.loop-worker.worker-iterator in
    let none_left : into_iter_items left ≡ [] = nil_from_length (into_iter_items left) (omega (arith, c.in-None.ensures.steps.0, left.rest.ok.0)) in
    sym (append-nil c.loop-worker.lanes.items) ∙ rw none_left at c.loop-worker.invariant.0
