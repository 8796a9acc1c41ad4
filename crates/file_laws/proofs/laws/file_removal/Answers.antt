use Rattle.file_laws.proofs.Files as files
use Rattle.file_laws.proofs.RemovalWitness.{failed_removal_is_met, removal_is_met}
use Rattle.file_laws.proofs.laws.file_removal.Goals as goal

pub returns-clause-removed : goal.returns-clause-removed
returns-clause-removed g c = files.file_is_removed g.R.Reading.shows

pub returns-clause-met : goal.returns-clause-met
returns-clause-met g c = removal_is_met

pub returns-clause-met_failed : goal.returns-clause-met_failed
returns-clause-met_failed g c = failed_removal_is_met
