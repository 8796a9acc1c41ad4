use Rattle.std.proofs.Common.{rules}
use Rattle.run_scripts.proofs.returning.can_end_so.Goals as goal

pub returns-then-can_end-clause-can : goal.returns-then-can_end-clause-can
returns-then-can_end-clause-can c = search rules
