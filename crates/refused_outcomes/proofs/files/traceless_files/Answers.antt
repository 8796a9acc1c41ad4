use Rattle.refused_outcomes.proofs.Placed.{files_are_told}
use Rattle.refused_outcomes.proofs.ToldFiles.{each_untold_file_is_refused}
use Rattle.refused_outcomes.proofs.files.traceless_files.Goals as goal

pub returns-clause-met : goal.returns-clause-met
returns-clause-met c = files_are_told

pub returns-clause-refused : goal.returns-clause-refused
returns-clause-refused c = each_untold_file_is_refused
