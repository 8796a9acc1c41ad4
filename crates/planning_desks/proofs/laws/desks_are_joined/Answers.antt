use Rattle.planning_desks.proofs.JoinLemmas.{begins, desks_are_joined}
use Rattle.planning_desks.proofs.laws.desks_are_joined.Goals as goal

pub returns-clause-joined : goal.returns-clause-joined
returns-clause-joined g c = desks_are_joined _ _

pub returns-clause-begins : goal.returns-clause-begins
returns-clause-begins g c = begins
