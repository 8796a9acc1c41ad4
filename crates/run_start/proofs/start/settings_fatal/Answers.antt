use Rattle.std.proofs.Common.{rules}
use Rattle.run_start.proofs.start.settings_fatal.Goals as goal

pub returns-in-EnvRead : goal.returns-in-EnvRead
returns-in-EnvRead c = search rules
