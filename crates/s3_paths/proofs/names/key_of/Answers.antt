use Rattle.std.proofs.Common.{rules}
use Rattle.s3_paths.proofs.names.key_of.Goals as goal

pub returns-clause-key : goal.returns-clause-key
returns-clause-key c = search rules
