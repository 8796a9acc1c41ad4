use Rattle.std.proofs.Common.{rules}
use Rattle.executor_uses.proofs.one_lane.DoublerWorker.carry.Goals as goal

pub returns : goal.returns
returns c = search rules
