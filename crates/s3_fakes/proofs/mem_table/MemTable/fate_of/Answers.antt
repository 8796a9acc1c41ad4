use Rattle.std.proofs.Common.{rules}
use Rattle.s3_fakes.proofs.mem_table.MemTable.fate_of.Goals as goal

pub returns-clause-plain : goal.returns-clause-plain
returns-clause-plain c = search rules
