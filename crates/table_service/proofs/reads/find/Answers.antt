use Rattle.std.proofs.Common.{rules}
use Rattle.table_service.proofs.reads.find.Goals as goal

pub returns-clause-found : goal.returns-clause-found
returns-clause-found c = search rules
