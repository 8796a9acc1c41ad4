use Rattle.std.proofs.Common.{rules}
use Rattle.run_scripts.proofs.returning.sized.Goals as goal

pub returns-clause-count : goal.returns-clause-count
returns-clause-count c = search rules
