use Rattle.std.proofs.Common.{rules}
use Rattle.outside_system.proofs.disk_temps.DiskTemps.draw.Goals as goal

pub returns-in-Ok-create-clause-apart : goal.returns-in-Ok-create-clause-apart
returns-in-Ok-create-clause-apart g c = search rules
