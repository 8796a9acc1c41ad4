use Rattle.file_laws.proofs.FileEnds as ends
use Rattle.file_laws.proofs.Files as files
use Rattle.file_laws.proofs.RemovalWitness.{moved_file_is_met}
use Rattle.file_laws.proofs.laws.moved_file.Goals as goal

pub returns-clause-moved : goal.returns-clause-moved
returns-clause-moved g c = files.file_is_moved g.R.Reading.shows

pub returns-clause-left : goal.returns-clause-left
returns-clause-left g c = ends.moved_files_are_left g.R.Reading.shows

pub returns-clause-met : goal.returns-clause-met
returns-clause-met g c = moved_file_is_met
