use Rattle.std.proofs.Common.{rules}
use Rattle.s3_paths.proofs.uris.parts_of.Goals as goal

pub returns-in-Some-or-clause-fault : goal.returns-in-Some-or-clause-fault
returns-in-Some-or-clause-fault c = search rules
