use Rattle.std.proofs.Common.{rules}
use Rattle.task_causes.proofs.causes.reads_source.Goals as goal

pub returns-in-Get : goal.returns-in-Get
returns-in-Get c = search rules
