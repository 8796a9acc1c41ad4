use Rattle.std.proofs.Common.{rules}
use Rattle.lane_queues.proofs.lane_queues.empty_outs.Goals as goal

pub loop-lane-init : goal.loop-lane-init
loop-lane-init c = search rules
