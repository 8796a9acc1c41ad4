use Rattle.std.proofs.Common.{rules}
use Rattle.task_stages.proofs.task_stages.TaskStages.put_sent.Goals as goal

pub returns-in-Complete : goal.returns-in-Complete
returns-in-Complete c = search rules
