use Rattle.std.proofs.Common.{rules}
use Rattle.task_readiness.proofs.pieces.may_send.Goals as goal

pub returns-in-Download : goal.returns-in-Download
returns-in-Download c = search rules
