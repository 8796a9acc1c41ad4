use Rattle.std.proofs.Common.{rules}
use Rattle.task_readiness.proofs.singles.can_stamp.Goals as goal

pub returns-then-may_be_given : goal.returns-then-may_be_given
returns-then-may_be_given c = search rules
