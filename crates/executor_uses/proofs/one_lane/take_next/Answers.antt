use Rattle.std.proofs.Common.{rules}
use Rattle.executor_uses.proofs.one_lane.take_next.Goals as goal

pub returns-clause-kept : goal.returns-clause-kept
returns-clause-kept g c = search rules
