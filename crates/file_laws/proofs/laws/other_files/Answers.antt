use Rattle.file_laws.proofs.DownloadWitness.{left_file_is_met}
use Rattle.file_laws.proofs.FileEnds as ends
use Rattle.file_laws.proofs.Files as files
use Rattle.file_laws.proofs.laws.other_files.Goals as goal

pub returns-clause-stay : goal.returns-clause-stay
returns-clause-stay g c = files.files_stay g.R.Reading.shows

pub returns-clause-met : goal.returns-clause-met
returns-clause-met g c = left_file_is_met

pub returns-clause-promised : goal.returns-clause-promised
returns-clause-promised g c = ends.promised_files_stay g.R.Reading.shows
