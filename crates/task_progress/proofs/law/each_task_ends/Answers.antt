use Rattle.task_progress.proofs.Pieces.{work_has_pieces}
use Rattle.task_progress.proofs.Progress.{tasks_end}
use Rattle.task_progress.proofs.Quiet.{outcomes_are_exact}
use Rattle.task_progress.proofs.Tags.{tags_are_there}
use Rattle.task_progress.proofs.law.each_task_ends.Goals as goal

pub returns-clause-ends : goal.returns-clause-ends
returns-clause-ends c = tasks_end

pub returns-clause-exact : goal.returns-clause-exact
returns-clause-exact c = outcomes_are_exact

pub returns-clause-tags : goal.returns-clause-tags
returns-clause-tags c = tags_are_there

pub returns-clause-pieces : goal.returns-clause-pieces
returns-clause-pieces c = work_has_pieces
