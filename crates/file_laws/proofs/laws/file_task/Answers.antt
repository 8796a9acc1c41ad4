use Rattle.file_laws.proofs.DownloadWitness.{download_is_met, refused_get_is_met}
use Rattle.file_laws.proofs.FileEnds as ends
use Rattle.file_laws.proofs.RemovalWitness.{failed_removal_is_met}
use Rattle.file_laws.proofs.laws.file_task.Goals as goal

pub returns-clause-ends : goal.returns-clause-ends
returns-clause-ends g c = ends.file_task_ends g.C.Reading.shows g.C.Command.has_status g.C.Command.call_failed

pub returns-clause-met_done : goal.returns-clause-met_done
returns-clause-met_done g c = download_is_met

pub returns-clause-met_failed : goal.returns-clause-met_failed
returns-clause-met_failed g c = refused_get_is_met

pub returns-clause-met_removal : goal.returns-clause-met_removal
returns-clause-met_removal g c = failed_removal_is_met
