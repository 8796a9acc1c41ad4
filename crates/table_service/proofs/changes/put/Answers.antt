use Rattle.std.proofs.Common.{rules}
use Rattle.table_service.proofs.changes.put.Goals as goal

pub returns-clause-put : goal.returns-clause-put
returns-clause-put c = search rules

pub returns-clause-kept : goal.returns-clause-kept
returns-clause-kept c = search rules

pub returns-clause-willing : goal.returns-clause-willing
returns-clause-willing c = search rules
