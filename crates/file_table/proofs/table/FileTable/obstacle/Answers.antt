use Rattle.std.proofs.Common.{rules}
use Rattle.file_table.proofs.table.FileTable.obstacle.Goals as goal

pub returns-clause-free : goal.returns-clause-free
returns-clause-free c = search rules
