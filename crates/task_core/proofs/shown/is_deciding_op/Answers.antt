use Rattle.std.proofs.Common.{rules}
use Rattle.task_core.proofs.shown.is_deciding_op.Goals as goal

pub returns-in_default-matches-3 : goal.returns-in_default-matches-3
returns-in_default-matches-3 c = search rules
