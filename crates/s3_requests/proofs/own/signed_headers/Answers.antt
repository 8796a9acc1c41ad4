use Rattle.s3_requests.proofs.HeaderOrder.{orders}
use Rattle.std.proofs.Common.{arith}
use Rattle.s3_requests.proofs.own.signed_headers.Goals as goal

pub returns : goal.returns
returns c = grind (arith, orders)
