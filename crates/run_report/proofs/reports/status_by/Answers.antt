use Rattle.std.proofs.Common.{rules}
use Rattle.run_report.proofs.reports.status_by.Goals as goal

pub returns-in-None-2-clause-status : goal.returns-in-None-2-clause-status
returns-in-None-2-clause-status c = search rules
