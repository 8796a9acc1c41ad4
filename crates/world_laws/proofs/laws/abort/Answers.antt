use Rattle.world_laws.proofs.InParts.{aborts_are_final}
use Rattle.world_laws.proofs.PartsWitness.{abort_is_met}
use Rattle.world_laws.proofs.laws.abort.Goals as goal

pub returns-clause-last : goal.returns-clause-last
returns-clause-last c = aborts_are_final

pub returns-clause-met : goal.returns-clause-met
returns-clause-met c = abort_is_met
