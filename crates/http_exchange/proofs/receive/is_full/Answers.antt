use Rattle.std.proofs.Common.{arith}
use Rattle.std.proofs.lemmas.Bool.Decides.{nat_tests}
use Rattle.std.proofs.lemmas.Grind.{common_steps}
use Rattle.http_exchange.proofs.receive.is_full.Goals as goal

pub returns : goal.returns
returns c = grind (arith, nat_tests, common_steps)
