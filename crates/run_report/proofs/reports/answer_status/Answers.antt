use Rattle.std.proofs.Common.{rules}
use Rattle.run_report.proofs.reports.answer_status.Goals as goal

pub returns-in-Service : goal.returns-in-Service
returns-in-Service c = search rules
