use Rattle.std.proofs.Common.{rules}
use Rattle.s3_paths.proofs.uris.key_fault.Goals as goal

pub returns : goal.returns
returns c = search rules
