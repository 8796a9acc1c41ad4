use Rattle.world_laws.proofs.PromiseWitness.{done_is_met, failed_is_met, skipped_is_met}
use Rattle.world_laws.proofs.Promises.{promise_holds}
use Rattle.world_laws.proofs.laws.truthful.Goals as goal

pub returns-clause-holds : goal.returns-clause-holds
returns-clause-holds g c = promise_holds g.C.Reading.shows g.C.Command.has_status g.C.Command.plans g.C.Command.call_failed

pub returns-clause-met_done : goal.returns-clause-met_done
returns-clause-met_done g c = done_is_met

pub returns-clause-met_failed : goal.returns-clause-met_failed
returns-clause-met_failed g c = failed_is_met

pub returns-clause-met_skipped : goal.returns-clause-met_skipped
returns-clause-met_skipped g c = skipped_is_met
