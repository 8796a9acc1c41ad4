use Rattle.std.proofs.Common.{rules}
use Rattle.table_service.proofs.reads.piece.Goals as goal

pub returns-clause-range : goal.returns-clause-range
returns-clause-range c = search rules
