use Rattle.std.proofs.Common.{rules}
use Rattle.object_table.proofs.table.ObjectTable.is_completed_by.Goals as goal

pub returns-in-Some : goal.returns-in-Some
returns-in-Some c = search rules
