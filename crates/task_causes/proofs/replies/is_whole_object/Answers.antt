use Rattle.std.proofs.Common.{rules}
use Rattle.task_causes.proofs.replies.is_whole_object.Goals as goal

pub returns-then-status-eq200 : goal.returns-then-status-eq200
returns-then-status-eq200 c = search rules
