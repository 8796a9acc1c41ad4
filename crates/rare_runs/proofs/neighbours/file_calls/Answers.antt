use Rattle.rare_runs.proofs.FileCalls.{file_calls_are_met, file_calls_are_refused}
use Rattle.rare_runs.proofs.neighbours.file_calls.Goals as goal

pub returns-clause-met : goal.returns-clause-met
returns-clause-met c = file_calls_are_met

pub returns-clause-refused : goal.returns-clause-refused
returns-clause-refused c = file_calls_are_refused
