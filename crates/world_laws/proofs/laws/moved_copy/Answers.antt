use Rattle.world_laws.proofs.Moves as moves
use Rattle.world_laws.proofs.Witnesses.{move_is_met}
use Rattle.world_laws.proofs.PartsWitness.{copied_move_is_met}
use Rattle.world_laws.proofs.laws.moved_copy.Goals as goal

pub returns-clause-small : goal.returns-clause-small
returns-clause-small g c = moves.copy_comes_first g.R.Reading.shows

pub returns-clause-in_parts : goal.returns-clause-in_parts
returns-clause-in_parts g c = moves.copied_parts_come_first g.R.Reading.shows

pub returns-clause-source : goal.returns-clause-source
returns-clause-source g c = moves.source_is_gone g.R.Reading.shows

pub returns-clause-met : goal.returns-clause-met
returns-clause-met g c = move_is_met

pub returns-clause-met_in_parts : goal.returns-clause-met_in_parts
returns-clause-met_in_parts g c = copied_move_is_met
