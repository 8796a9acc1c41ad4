use Rattle.std.proofs.Common.{◌≡◌, ◌+◌, ◌≤◌, ◌++◌, map, replicate, vec_len, vec_capacity}
use Rattle.std.specs.Vec.Iter.{into_iter_items, into_iter_len}
use Rattle.bounded_executor.specs.Lane.{opened}
use Rattle.bounded_executor.proofs.open.open_lanes.Given as goal

abbrev pub invariant-loop-worker : goal.invariant-loop-worker
invariant-loop-worker g l =
    (l.lanes.items ++ map (opened l.depth) (into_iter_items l.worker-iterator) ≡ map (opened l.depth) l.fn.workers.items)
    × (l.parts.items ≡ replicate (into_iter_len l.worker-iterator) l.depth)
    × (vec_len l.lanes + into_iter_len l.worker-iterator ≤ vec_capacity l.lanes)
