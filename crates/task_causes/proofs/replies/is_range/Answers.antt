use Rattle.std.proofs.Common.{rules}
use Rattle.task_causes.proofs.replies.is_range.Goals as goal

pub returns-then-is_same : goal.returns-then-is_same
returns-then-is_same c = search rules
