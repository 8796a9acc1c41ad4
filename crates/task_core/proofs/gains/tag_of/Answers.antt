use Rattle.std.proofs.Common.{rules}
use Rattle.task_core.proofs.gains.tag_of.Goals as goal

pub returns-in-PartStored : goal.returns-in-PartStored
returns-in-PartStored c = search rules
