use Rattle.std.proofs.Common.{rules}
use Rattle.manager_core.proofs.returning.copy_of.Goals as goal

pub loop-mark-preserved : goal.loop-mark-preserved
loop-mark-preserved c = search rules
