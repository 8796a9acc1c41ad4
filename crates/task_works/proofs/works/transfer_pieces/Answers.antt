use Rattle.std.proofs.Common.{rules}
use Rattle.task_works.proofs.works.transfer_pieces.Goals as goal

pub returns-then-size-config-clause-pieces : goal.returns-then-size-config-clause-pieces
returns-then-size-config-clause-pieces c = search rules
