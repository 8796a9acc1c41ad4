use Rattle.std.proofs.Common.{◌≡◌, vec_capacity}
use Rattle.bounded_executor.specs.Desk.{lane_of, SameDesk}
use Rattle.executor_uses.specs.OneLane.{IsOneExchange}
use Rattle.executor_uses.proofs.one_lane.take_all.Given as goal

abbrev pub invariant-loop : goal.invariant-loop
invariant-loop g l = record {
  same_desk : SameDesk l.initial.desk l.desk;
  kept : IsOneExchange l.desk.lanes (lane_of l.initial.desk 0).given l.doubles.items;
  capacity : vec_capacity l.doubles ≡ vec_capacity l.initial.doubles;
}
