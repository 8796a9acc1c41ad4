use Rattle.std.proofs.Common.{rules}
use Rattle.lane_queues.proofs.lane_queues.LaneQueues.has_room.Goals as goal

pub returns : goal.returns
returns c = search rules
