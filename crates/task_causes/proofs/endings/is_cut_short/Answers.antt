use Rattle.std.proofs.Common.{rules}
use Rattle.task_causes.proofs.endings.is_cut_short.Goals as goal

pub returns-then-has_cell : goal.returns-then-has_cell
returns-then-has_cell c = search rules

pub returns-else-has_cell : goal.returns-else-has_cell
returns-else-has_cell c = search rules
