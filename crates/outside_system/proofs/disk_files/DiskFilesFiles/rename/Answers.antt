use Rattle.std.proofs.Common.{rules}
use Rattle.outside_system.proofs.disk_files.DiskFilesFiles.rename.Goals as goal

pub returns-in-Err-clause-memory : goal.returns-in-Err-clause-memory
returns-in-Err-clause-memory g c = search rules
