use Rattle.std.proofs.Common.{rules}
use Rattle.path_filters.proofs.patterns.plain_piece.Goals as goal

pub returns-in-42 : goal.returns-in-42
returns-in-42 c = search rules
