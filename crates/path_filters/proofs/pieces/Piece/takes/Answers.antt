use Rattle.std.proofs.Common.{rules}
use Rattle.path_filters.proofs.pieces.Piece.takes.Goals as goal

pub returns-in-Set : goal.returns-in-Set
returns-in-Set c = search rules
