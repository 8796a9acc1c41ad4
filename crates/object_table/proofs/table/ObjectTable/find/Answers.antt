use Rattle.std.proofs.Common.{rules}
use Rattle.object_table.proofs.table.ObjectTable.find.Goals as goal

pub returns-else-eq-clause-there : goal.returns-else-eq-clause-there
returns-else-eq-clause-there c = search rules
