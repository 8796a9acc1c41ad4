use Rattle.rare_runs.proofs.OtherFiles.{other_files_are_met, other_files_are_refused}
use Rattle.rare_runs.proofs.neighbours.other_files.Goals as goal

pub returns-clause-met : goal.returns-clause-met
returns-clause-met c = other_files_are_met

pub returns-clause-refused : goal.returns-clause-refused
returns-clause-refused c = other_files_are_refused
