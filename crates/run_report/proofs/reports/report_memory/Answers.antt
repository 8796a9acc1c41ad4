use Rattle.std.proofs.Common.{rules}
use Rattle.run_report.proofs.reports.report_memory.Goals as goal

pub returns-clause-status : goal.returns-clause-status
returns-clause-status g c = search rules
