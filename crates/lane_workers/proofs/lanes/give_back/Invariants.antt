use Rattle.std.proofs.Common.{◌≡◌, ◌+◌, ◌≤◌, ◌++◌, vec_capacity, vec_len}
use Rattle.std.specs.Vec.Iter.{into_iter_items, into_iter_len}
use Rattle.lane_workers.specs.LaneWorkers.{wires_of}
use Rattle.lane_workers.proofs.lanes.give_back.Given as goal

-- the wires of the lanes that are left come behind those in the list, which has room for them
abbrev pub invariant-loop-lane : goal.invariant-loop-lane
invariant-loop-lane g l = record {
  wires : l.wires.items ++ wires_of (into_iter_items l.lane-iterator) ≡ l.initial.wires.items ++ wires_of l.fn.lanes.items;
  room : vec_len l.wires + into_iter_len l.lane-iterator ≤ vec_capacity l.wires;
  more : vec_len l.initial.wires ≤ vec_len l.wires;
}
