use Rattle.std.proofs.Common.{rules}
use Rattle.outside_system.proofs.disk_files.DiskFilesFiles.make_temp.Goals as goal

pub returns-in-Some-clause-failed : goal.returns-in-Some-clause-failed
returns-in-Some-clause-failed g c = search rules
