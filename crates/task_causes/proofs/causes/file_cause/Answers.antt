use Rattle.std.proofs.Common.{rules}
use Rattle.task_causes.proofs.causes.file_cause.Goals as goal

pub returns-in_default : goal.returns-in_default
returns-in_default c = search rules
