use Rattle.lane_givings.proofs.Holding.{given_joins, jobs_have_room, none_is_out, oldest_may_return, others_leave}
use Rattle.lane_givings.proofs.Holding.{returned_leaves}
use Rattle.lane_givings.proofs.laws.jobs_are_as_given.Goals as goal

pub returns : goal.returns
returns c = record {
  none = none_is_out;
  joins = given_joins;
  returns = oldest_may_return;
  room = jobs_have_room;
  leaves = returned_leaves;
  others = others_leave;
}
