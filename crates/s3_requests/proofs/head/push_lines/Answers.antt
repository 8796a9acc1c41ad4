use Rattle.std.proofs.Common.{append_assoc, arith}
use Rattle.s3_requests.proofs.head.push_lines.Goals as goal

pub returns : goal.returns
returns c = grind (arith, append_assoc)
