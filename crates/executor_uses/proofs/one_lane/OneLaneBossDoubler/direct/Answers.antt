use Rattle.std.proofs.Common.{rules}
use Rattle.executor_uses.proofs.one_lane.OneLaneBossDoubler.direct.Goals as goal

pub returns-clause-none_out : goal.returns-clause-none_out
returns-clause-none_out g c = search rules
