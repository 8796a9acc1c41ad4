use Rattle.std.proofs.Common.{rules}
use Rattle.s3_paths.proofs.endpoints.parts_of.Goals as goal

pub returns-then-starts_with-clause-fault : goal.returns-then-starts_with-clause-fault
returns-then-starts_with-clause-fault c = search rules
