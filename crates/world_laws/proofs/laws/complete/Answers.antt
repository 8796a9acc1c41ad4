use Rattle.world_laws.proofs.Completeness.{orderly_is_done, willing_is_done}
use Rattle.world_laws.proofs.PromiseWitness.{complete_is_met}
use Rattle.world_laws.proofs.UploadWitness.{upload_is_complete}
use Rattle.world_laws.proofs.laws.complete.Goals as goal

pub returns-clause-done : goal.returns-clause-done
returns-clause-done g c = willing_is_done g.C.Reading.shows g.C.Command.has_status g.C.Command.plans g.C.Command.call_failed

pub returns-clause-however_read : goal.returns-clause-however_read
returns-clause-however_read g c = orderly_is_done g.C.Reading.shows g.C.Command.has_status g.C.Command.plans g.C.Command.call_failed

pub returns-clause-met : goal.returns-clause-met
returns-clause-met g c = complete_is_met

pub returns-clause-met_in_parts : goal.returns-clause-met_in_parts
returns-clause-met_in_parts g c = upload_is_complete
