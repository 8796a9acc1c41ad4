use Rattle.std.proofs.Common.{rules}
use Rattle.task_core.proofs.report.report_of.Goals as goal

pub returns-clause-is_kept : goal.returns-clause-is_kept
returns-clause-is_kept c = search rules
