use Rattle.run_scripts.proofs.TaskLemmas.{are_fit, replace}
use Rattle.run_scripts.proofs.tasks.read_tasks.Goals as goal

pub returns-clause-fit : goal.returns-clause-fit
returns-clause-fit c =
    are_fit 256 c.loop-word.tasks.items c.loop-word.invariant.tasks c.loop-word.invariant.few

pub returns-clause-replace : goal.returns-clause-replace
returns-clause-replace c = replace c.loop-word.invariant.tasks
