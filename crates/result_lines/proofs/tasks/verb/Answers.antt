use Rattle.std.proofs.Common.{rules}
use Rattle.result_lines.proofs.tasks.verb.Goals as goal

pub returns-then-task : goal.returns-then-task
returns-then-task c = search rules

pub returns-else-task : goal.returns-else-task
returns-else-task c = search rules
