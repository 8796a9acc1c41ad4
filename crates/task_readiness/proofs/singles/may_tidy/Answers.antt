use Rattle.std.proofs.Common.{rules}
use Rattle.task_readiness.proofs.singles.may_tidy.Goals as goal

pub returns-then-stopped : goal.returns-then-stopped
returns-then-stopped c = search rules
