use Rattle.std.proofs.Common.{◌≡◌, ◌+◌, ◌∙◌, ℕ, ap, arith}
use Rattle.chunk_plan.proofs.Rooms.{most_added, none_lent, room_added}
use Rattle.chunk_plan.proofs.pool.PartPool.make.Goals as goal

pub push_reserved-requires : goal.push_reserved-requires
push_reserved-requires c = omega (arith, c.loop.invariant.made, c.loop.invariant.room_left)

pub loop-preserved : goal.loop-preserved
loop-preserved c = record {
  made = c.push_reserved.ensures.len ∙ ap (λ (n : ℕ). n + 1) c.loop.invariant.made;
  room_left = omega (arith, c.push_reserved.ensures.capacity, c.loop.invariant.room_left);
  rooms = room_added _ _ _ _ c.push_reserved.ensures.items c.in_ok-bytes.ensures.room c.loop.invariant.rooms;
  most = most_added _ _ _ _ c.push_reserved.ensures.items c.in_ok-bytes.ensures.room c.loop.invariant.most;
}

pub returns : goal.returns
returns c =
    let all : c.loop.counter ≡ c.args.count = omega (arith, c.loop.auto.counter-end, c.loop-test.false) in
    none_lent c.args.count _ c.args.bytes (c.loop.invariant.made ∙ all)

pub invariant_of-result : goal.invariant_of-result
invariant_of-result c =
    let made = c.loop.invariant.made in
    let left = c.loop.invariant.room_left in
    let end = c.loop.auto.counter-end in
    let fits = c.ranges.count in
    (omega (arith, made, left, end), omega (arith, made, end, fits), c.loop.invariant.rooms, c.loop.invariant.most)
