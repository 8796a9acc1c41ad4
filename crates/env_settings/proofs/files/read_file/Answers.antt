use Rattle.std.proofs.Common.{rules}
use Rattle.env_settings.proofs.files.read_file.Goals as goal

pub returns-in-Err-Failed-clause-value : goal.returns-in-Err-Failed-clause-value
returns-in-Err-Failed-clause-value g c = search rules

pub returns-in-Ok-Some-clause-value : goal.returns-in-Ok-Some-clause-value
returns-in-Ok-Some-clause-value g c = search rules

pub returns-in-Ok-Some-clause-asked : goal.returns-in-Ok-Some-clause-asked
returns-in-Ok-Some-clause-asked g c = search rules

pub returns-in-Ok-None-clause-value : goal.returns-in-Ok-None-clause-value
returns-in-Ok-None-clause-value g c = search rules

pub returns-in-Ok-None-clause-asked : goal.returns-in-Ok-None-clause-asked
returns-in-Ok-None-clause-asked g c = search rules

pub returns-in-Err-Failed-clause-asked : goal.returns-in-Err-Failed-clause-asked
returns-in-Err-Failed-clause-asked g c = search rules

pub returns-in-Err-Memory-clause-asked : goal.returns-in-Err-Memory-clause-asked
returns-in-Err-Memory-clause-asked g c = search rules

pub returns-in-Ok-None-clause-failed : goal.returns-in-Ok-None-clause-failed
returns-in-Ok-None-clause-failed g c = search rules
