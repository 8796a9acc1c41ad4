use Rattle.std.proofs.Common.{rules}
use Rattle.task_core.proofs.shown.is_open.Goals as goal

pub returns-then-is_deciding : goal.returns-then-is_deciding
returns-then-is_deciding c = search rules
