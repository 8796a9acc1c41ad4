use Rattle.std.proofs.Common.{rules}
use Rattle.s3_fakes.proofs.mem_table.MemTable.object.Goals as goal

pub returns : goal.returns
returns c = search rules
