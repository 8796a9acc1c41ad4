use Rattle.std.proofs.Common.{rules}
use Rattle.manager_core.proofs.naming.drop_due.Goals as goal

pub returns-in-Next-Read-clause-follows : goal.returns-in-Next-Read-clause-follows
returns-in-Next-Read-clause-follows c = search rules
