use Rattle.std.proofs.Common.{rules}
use Rattle.step_jobs.proofs.step_jobs.range_of.Goals as goal

pub overflow_mul-before : goal.overflow_mul-before
overflow_mul-before c = search rules

pub returns : goal.returns
returns c = search rules
