use Rattle.std.proofs.Common.{rules}
use Rattle.path_filters.proofs.pieces.Ranges.has.Goals as goal

pub returns : goal.returns
returns c = search rules
