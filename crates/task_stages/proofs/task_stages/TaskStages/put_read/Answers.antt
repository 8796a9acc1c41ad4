use Rattle.std.proofs.Common.{rules}
use Rattle.task_stages.proofs.task_stages.TaskStages.put_read.Goals as goal

pub returns : goal.returns
returns c = search rules
