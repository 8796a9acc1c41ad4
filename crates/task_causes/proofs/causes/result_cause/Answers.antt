use Rattle.std.proofs.Common.{rules}
use Rattle.task_causes.proofs.causes.result_cause.Goals as goal

pub returns-in-Short : goal.returns-in-Short
returns-in-Short c = search rules
