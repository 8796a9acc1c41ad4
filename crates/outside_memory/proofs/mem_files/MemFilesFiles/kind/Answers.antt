use Rattle.std.proofs.Common.{rules}
use Rattle.outside_memory.proofs.mem_files.MemFilesFiles.kind.Goals as goal

pub returns-clause-calls : goal.returns-clause-calls
returns-clause-calls c = search rules
