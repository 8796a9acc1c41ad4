use Rattle.refused_outcomes.proofs.Moves.{each_move_is_refused}
use Rattle.refused_outcomes.proofs.causes.moved_copies.Goals as goal

pub returns : goal.returns
returns c = each_move_is_refused
