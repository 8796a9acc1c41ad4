use Rattle.std.proofs.Common.{rules}
use Rattle.task_causes.proofs.stages.carried_stage.Goals as goal

pub returns-then-stopped : goal.returns-then-stopped
returns-then-stopped c = search rules
