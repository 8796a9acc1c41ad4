use Rattle.std.proofs.Common.{rules}
use Rattle.result_lines.proofs.tasks.status_of.Goals as goal

pub returns-then-warnings-gt0 : goal.returns-then-warnings-gt0
returns-then-warnings-gt0 c = search rules

pub returns-then-any_unfinished : goal.returns-then-any_unfinished
returns-then-any_unfinished c = search rules
