use Rattle.std.proofs.Common.{rules}
use Rattle.manager_core.proofs.naming.lend_for.Goals as goal

pub returns-in-Read-clause-follows : goal.returns-in-Read-clause-follows
returns-in-Read-clause-follows c = search rules

pub returns-in-Read-clause-empty : goal.returns-in-Read-clause-empty
returns-in-Read-clause-empty c = search rules

pub returns-in-Read-clause-room : goal.returns-in-Read-clause-room
returns-in-Read-clause-room c = search rules
