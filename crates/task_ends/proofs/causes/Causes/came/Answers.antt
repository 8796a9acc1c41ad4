use Rattle.std.proofs.Common.{rules}
use Rattle.task_ends.proofs.causes.Causes.came.Goals as goal

pub returns-then-is_last-clause-failing : goal.returns-then-is_last-clause-failing
returns-then-is_last-clause-failing c = search rules

pub returns-then-is_last-clause-first : goal.returns-then-is_last-clause-first
returns-then-is_last-clause-first c = search rules

pub returns-then-is_last-clause-memory : goal.returns-then-is_last-clause-memory
returns-then-is_last-clause-memory c = search rules
