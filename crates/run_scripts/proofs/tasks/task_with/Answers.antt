use Rattle.std.proofs.Common.{rules}
use Rattle.run_scripts.proofs.tasks.task_with.Goals as goal

pub returns-clause-fresh : goal.returns-clause-fresh
returns-clause-fresh c = search rules
