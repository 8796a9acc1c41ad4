use Rattle.std.proofs.Common.{rules}
use Rattle.task_ends.proofs.causes.Causes.end.Goals as goal

pub returns-clause-result : goal.returns-clause-result
returns-clause-result c = search rules

pub returns-then-is_whole-clause-result : goal.returns-then-is_whole-clause-result
returns-then-is_whole-clause-result c = search rules

pub returns-in_err-why-clause-result : goal.returns-in_err-why-clause-result
returns-in_err-why-clause-result c = search rules

pub returns-in_err-why-2-clause-result : goal.returns-in_err-why-2-clause-result
returns-in_err-why-2-clause-result c = search rules
