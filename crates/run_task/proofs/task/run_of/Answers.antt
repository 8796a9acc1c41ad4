use Rattle.std.proofs.Common.{rules}
use Rattle.run_task.proofs.task.run_of.Goals as goal

pub returns-clause-outcomes : goal.returns-clause-outcomes
returns-clause-outcomes c = search rules
