use Rattle.std.proofs.Common.{rules}
use Rattle.list_walk.proofs.names.check_prefix.Goals as goal

pub returns-then-begins_with-clause-ok : goal.returns-then-begins_with-clause-ok
returns-then-begins_with-clause-ok c = search rules
