use Rattle.std.proofs.Common.{rules}
use Rattle.task_readiness.proofs.singles.may_remove.Goals as goal

pub returns-then-moves : goal.returns-then-moves
returns-then-moves c = search rules

pub returns-else-moves : goal.returns-else-moves
returns-else-moves c = search rules
