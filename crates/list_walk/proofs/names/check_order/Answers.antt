use Rattle.std.proofs.Common.{rules}
use Rattle.list_walk.proofs.names.check_order.Goals as goal

pub returns-in_default-clause-ok : goal.returns-in_default-clause-ok
returns-in_default-clause-ok c = search rules
