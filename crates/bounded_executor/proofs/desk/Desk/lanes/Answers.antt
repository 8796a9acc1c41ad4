use Rattle.std.proofs.lemmas.Grind.{common_steps}
use Rattle.std.proofs.Common.{arith}
use Rattle.bounded_executor.proofs.desk.Desk.lanes.Goals as goal

pub returns : goal.returns
returns g c = grind (arith, common_steps)
