use Rattle.rare_runs.proofs.MovedSource.{early_removal_is_refused, moved_upload_is_met}
use Rattle.rare_runs.proofs.neighbours.moved_upload.Goals as goal

pub returns-clause-met : goal.returns-clause-met
returns-clause-met c = moved_upload_is_met

pub returns-clause-refused : goal.returns-clause-refused
returns-clause-refused c = early_removal_is_refused
