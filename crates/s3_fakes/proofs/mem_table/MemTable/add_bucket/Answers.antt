use Rattle.std.proofs.Common.{rules}
use Rattle.s3_fakes.proofs.mem_table.MemTable.add_bucket.Goals as goal

pub returns-clause-added : goal.returns-clause-added
returns-clause-added c = search rules
