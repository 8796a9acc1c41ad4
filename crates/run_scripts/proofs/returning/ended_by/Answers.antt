use Rattle.std.proofs.Common.{rules}
use Rattle.run_scripts.proofs.returning.ended_by.Goals as goal

pub returns-clause-ends : goal.returns-clause-ends
returns-clause-ends c = search rules
