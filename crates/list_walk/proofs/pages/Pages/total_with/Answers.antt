use Rattle.std.proofs.lemmas.Grind.{common_steps}
use Rattle.std.proofs.Common.{arith}
use Rattle.list_walk.proofs.pages.Pages.total_with.Goals as goal

pub returns : goal.returns
returns c = grind (arith, common_steps)
