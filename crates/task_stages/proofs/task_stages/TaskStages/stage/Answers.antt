use Rattle.std.proofs.Common.{rules}
use Rattle.task_stages.proofs.task_stages.TaskStages.stage.Goals as goal

pub returns-in-Read : goal.returns-in-Read
returns-in-Read c = search rules
