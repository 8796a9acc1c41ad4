use Rattle.std.proofs.Common.{rules}
use Rattle.object_table.proofs.object.MemObject.within.Goals as goal

pub returns-then-last-len-clause-bytes : goal.returns-then-last-len-clause-bytes
returns-then-last-len-clause-bytes c = search rules
