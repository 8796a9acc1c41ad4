use Rattle.std.proofs.Common.{rules}
use Rattle.outside_memory.proofs.table_calls.shape_in.Goals as goal

pub returns-in-None : goal.returns-in-None
returns-in-None c = search rules
