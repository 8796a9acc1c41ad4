use Rattle.refused_outcomes.proofs.LargePieces.{large_pieces_are_met}
use Rattle.refused_outcomes.proofs.sizes.large_pieces.Goals as goal

pub returns : goal.returns
returns c = large_pieces_are_met
