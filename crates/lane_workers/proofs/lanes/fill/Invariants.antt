use Rattle.std.proofs.Common.{◌≡◌, ◌+◌, ◌++◌, map, reverse, vec_capacity, vec_len}
use Rattle.lane_workers.specs.LaneWorkers.{carrier_with, lane_over, wires_of}
use Rattle.lane_workers.proofs.lanes.fill.Given as goal

-- each turn made a lane of the last wire
abbrev pub invariant-loop : goal.invariant-loop
invariant-loop g l = record {
  made : l.lanes.items ≡ map (lane_over (carrier_with l.endpoint l.keys l.attempts)) (wires_of l.lanes.items);
  wires : wires_of l.lanes.items ++ reverse l.wires.items ≡ reverse l.initial.wires.items;
  count : vec_len l.lanes ≡ l.counter;
  left : vec_len l.wires + l.counter ≡ vec_len l.initial.wires;
  lanes_capacity : vec_capacity l.lanes ≡ vec_capacity l.initial.lanes;
  wires_capacity : vec_capacity l.wires ≡ vec_capacity l.initial.wires;
}
