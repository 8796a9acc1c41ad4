use Rattle.std.proofs.Common.{rules}
use Rattle.piece_stages.proofs.pieces.recount.Goals as goal

pub returns-in-false-true : goal.returns-in-false-true
returns-in-false-true c = search rules
