use Rattle.std.proofs.Common.{rules}
use Rattle.path_filters.proofs.filters.Filters.push.Goals as goal

pub returns-clause-ok : goal.returns-clause-ok
returns-clause-ok c = search rules
