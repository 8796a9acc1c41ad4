use Rattle.std.proofs.Common.{rules}
use Rattle.task_ends.proofs.causes.Causes.file_came.Goals as goal

pub returns-then-not-self-clause-first : goal.returns-then-not-self-clause-first
returns-then-not-self-clause-first c = search rules

pub returns-then-not-self-clause-last : goal.returns-then-not-self-clause-last
returns-then-not-self-clause-last c = search rules
