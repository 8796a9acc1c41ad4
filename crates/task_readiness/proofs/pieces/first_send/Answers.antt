use Rattle.std.proofs.Common.{rules}
use Rattle.task_readiness.proofs.pieces.first_send.Goals as goal

pub returns : goal.returns
returns c = search rules
