use Rattle.std.proofs.Common.{rules}
use Rattle.run_task.proofs.task.prepare.Goals as goal

pub returns-clause-attempts : goal.returns-clause-attempts
returns-clause-attempts c = search rules
