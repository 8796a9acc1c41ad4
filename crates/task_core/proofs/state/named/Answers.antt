use Rattle.std.proofs.Common.{rules}
use Rattle.task_core.proofs.state.named.Goals as goal

pub returns-then-id-eq0 : goal.returns-then-id-eq0
returns-then-id-eq0 c = search rules
