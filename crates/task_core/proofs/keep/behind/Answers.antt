use Rattle.std.proofs.Common.{rules}
use Rattle.task_core.proofs.keep.behind.Goals as goal

pub returns : goal.returns
returns c = search rules
