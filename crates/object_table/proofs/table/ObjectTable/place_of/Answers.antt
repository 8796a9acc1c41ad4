use Rattle.std.proofs.Common.{rules}
use Rattle.object_table.proofs.table.ObjectTable.place_of.Goals as goal

pub returns-in_default-clause-willing : goal.returns-in_default-clause-willing
returns-in_default-clause-willing c = search rules
