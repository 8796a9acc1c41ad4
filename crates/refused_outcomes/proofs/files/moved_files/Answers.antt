use Rattle.refused_outcomes.proofs.MovedFiles.{each_moved_file_is_refused, moved_file_is_told}
use Rattle.refused_outcomes.proofs.files.moved_files.Goals as goal

pub returns-clause-met : goal.returns-clause-met
returns-clause-met c = moved_file_is_told

pub returns-clause-refused : goal.returns-clause-refused
returns-clause-refused c = each_moved_file_is_refused
