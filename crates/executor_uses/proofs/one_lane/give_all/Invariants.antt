use Rattle.std.proofs.Common.{◌≡◌, take, vec_capacity}
use Rattle.bounded_executor.specs.Desk.{SameDesk}
use Rattle.executor_uses.specs.OneLane.{IsOneExchange}
use Rattle.executor_uses.proofs.one_lane.give_all.Given as goal

abbrev pub invariant-loop-job : goal.invariant-loop-job
invariant-loop-job g l = record {
  same_desk : SameDesk l.initial.desk l.desk;
  kept : IsOneExchange l.desk.lanes (take l.job-index l.jobs) l.doubles.items;
  capacity : vec_capacity l.doubles ≡ vec_capacity l.initial.doubles;
}
