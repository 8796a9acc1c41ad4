use Rattle.std.proofs.Common.{sym, subst}
use Rattle.run_scripts.proofs.TaskLemmas.{one_more}
use Rattle.run_scripts.specs.Tasks.{AreTasks}
use Rattle.run_scripts.proofs.tasks.push.Goals as goal

pub returns-clause-tasks : goal.returns-clause-tasks
returns-clause-tasks c = subst (AreTasks 256) (sym c.push.ensures.items) (one_more 256 c.args.tasks.now.items c.args.task c.requires.tasks c.requires.task)
