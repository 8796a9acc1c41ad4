use Rattle.std.proofs.Common.{rules}
use Rattle.task_stages.proofs.task_stages.reads_first.Goals as goal

pub returns-in-Upload : goal.returns-in-Upload
returns-in-Upload c = search rules
