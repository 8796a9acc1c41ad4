use Rattle.std.proofs.Common.{rules}
use Rattle.task_causes.proofs.causes.lost_cause.Goals as goal

pub returns-in-Memory : goal.returns-in-Memory
returns-in-Memory c = search rules
