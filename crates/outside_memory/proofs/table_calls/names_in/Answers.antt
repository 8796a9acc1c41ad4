use Rattle.std.proofs.Common.{rules}
use Rattle.outside_memory.proofs.table_calls.names_in.Goals as goal

pub returns-in-Ok-clause-folder : goal.returns-in-Ok-clause-folder
returns-in-Ok-clause-folder c = search rules
