use Rattle.std.proofs.Common.{rules}
use Rattle.s3_paths.proofs.names.name_skip.Goals as goal

pub returns-else-has_temp_name : goal.returns-else-has_temp_name
returns-else-has_temp_name c = search rules
