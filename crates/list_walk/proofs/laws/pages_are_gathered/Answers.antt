use Rattle.list_walk.proofs.LawLemmas.{gathers_in_order, taken_are_sound, taken_where_sound, walk_gathers}
use Rattle.list_walk.proofs.laws.pages_are_gathered.Goals as goal

pub returns-clause-in_order : goal.returns-clause-in_order
returns-clause-in_order c = gathers_in_order

pub returns-clause-walk : goal.returns-clause-walk
returns-clause-walk c = walk_gathers

pub returns-clause-sound : goal.returns-clause-sound
returns-clause-sound c = taken_are_sound

pub returns-clause-taken : goal.returns-clause-taken
returns-clause-taken c = taken_where_sound
