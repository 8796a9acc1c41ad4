use Rattle.std.proofs.Common.{rules}
use Rattle.task_works.proofs.works.pieces_of.Goals as goal

pub returns-in-RemoveObject-clause-pieces : goal.returns-in-RemoveObject-clause-pieces
returns-in-RemoveObject-clause-pieces c = search rules

pub returns-in-RemoveObject-clause-some : goal.returns-in-RemoveObject-clause-some
returns-in-RemoveObject-clause-some c = search rules
