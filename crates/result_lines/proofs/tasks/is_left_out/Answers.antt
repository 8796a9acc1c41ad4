use Rattle.std.proofs.Common.{rules}
use Rattle.result_lines.proofs.tasks.is_left_out.Goals as goal

pub returns-then-mode-2 : goal.returns-then-mode-2
returns-then-mode-2 c = search rules
