use Rattle.std.proofs.Common.{rules}
use Rattle.piece_stages.proofs.piece.PieceStages.is_busy.Goals as goal

pub returns-then-is_out-2 : goal.returns-then-is_out-2
returns-then-is_out-2 c = search rules

pub returns-else-is_out-2 : goal.returns-else-is_out-2
returns-else-is_out-2 c = search rules
