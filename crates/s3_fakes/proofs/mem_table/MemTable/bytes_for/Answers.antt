use Rattle.std.proofs.Common.{rules}
use Rattle.s3_fakes.proofs.mem_table.MemTable.bytes_for.Goals as goal

pub returns-in-LostBefore-clause-within : goal.returns-in-LostBefore-clause-within
returns-in-LostBefore-clause-within c = search rules

pub returns-in-LostBefore-clause-unserved : goal.returns-in-LostBefore-clause-unserved
returns-in-LostBefore-clause-unserved c = search rules
