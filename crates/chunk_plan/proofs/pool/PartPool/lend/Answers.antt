use Rattle.std.proofs.Common.{arith}
use Rattle.chunk_plan.proofs.Rooms.{most_left, rooms_left}
use Rattle.chunk_plan.proofs.pool.PartPool.lend.Goals as goal

pub invariant_of-self-2 : goal.invariant_of-self-2
invariant_of-self-2 c =
    let was = c.self.invariant in
    let len = c.in_ok-part.ensures.cases in
    let capacity = c.in_ok-part.ensures.capacity in (
      omega (arith, was.0, len, capacity),
      omega (arith, was.1, len),
      rooms_left _ _ _ _ c.in_ok-part.ensures.items was.2,
      most_left _ _ _ _ c.in_ok-part.ensures.items was.3,
    )
