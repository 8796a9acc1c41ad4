use Rattle.std.proofs.Common.{rules}
use Rattle.bounded_executor.proofs.run.with_workers.Goals as goal

pub returns-clause-ok : goal.returns-clause-ok
returns-clause-ok g c = search rules
