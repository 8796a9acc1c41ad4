use Rattle.std.proofs.Common.{rules}
use Rattle.piece_stages.proofs.piece.PieceStages.can_place.Goals as goal

pub returns-then-may_be_given : goal.returns-then-may_be_given
returns-then-may_be_given c = search rules
