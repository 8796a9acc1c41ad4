use Rattle.std.proofs.Common.{rules}
use Rattle.run_start.proofs.start.read_command.Goals as goal

pub returns-in-Ok-clause-read : goal.returns-in-Ok-clause-read
returns-in-Ok-clause-read c = search rules
