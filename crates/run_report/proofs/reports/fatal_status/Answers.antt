use Rattle.std.proofs.Common.{rules}
use Rattle.run_report.proofs.reports.fatal_status.Goals as goal

pub returns-in_default-2-clause-status : goal.returns-in_default-2-clause-status
returns-in_default-2-clause-status c = search rules
