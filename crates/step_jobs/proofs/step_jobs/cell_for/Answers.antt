use Rattle.std.proofs.Common.{rules}
use Rattle.step_jobs.proofs.step_jobs.cell_for.Goals as goal

pub returns-in-Abort-clause-has : goal.returns-in-Abort-clause-has
returns-in-Abort-clause-has c = search rules
