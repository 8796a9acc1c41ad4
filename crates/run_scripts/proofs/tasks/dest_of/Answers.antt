use Rattle.std.proofs.Common.{rules}
use Rattle.run_scripts.proofs.tasks.dest_of.Goals as goal

pub returns-in-Upload : goal.returns-in-Upload
returns-in-Upload c = search rules
