use Rattle.rare_runs.proofs.MovedFile.{late_rename_is_refused, moved_download_is_met}
use Rattle.rare_runs.proofs.witnesses.moved_download.Goals as goal

pub returns-clause-met : goal.returns-clause-met
returns-clause-met c = moved_download_is_met

pub returns-clause-refused : goal.returns-clause-refused
returns-clause-refused c = late_rename_is_refused
