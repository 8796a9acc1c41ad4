use Rattle.std.proofs.Common.{rules}
use Rattle.table_service.proofs.changes.serve_change.Goals as goal

pub returns-in_err-copy-in-Copy-clause-willing : goal.returns-in_err-copy-in-Copy-clause-willing
returns-in_err-copy-in-Copy-clause-willing c = search rules

pub returns-in_ok-copy-in-Copy-clause-served : goal.returns-in_ok-copy-in-Copy-clause-served
returns-in_ok-copy-in-Copy-clause-served c = search rules
