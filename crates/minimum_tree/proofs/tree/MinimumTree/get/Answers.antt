use Rattle.std.proofs.lemmas.Grind.{common_steps}
use Rattle.std.proofs.Common.{arith}
use Rattle.minimum_tree.proofs.tree.MinimumTree.get.Goals as goal

pub returns : goal.returns
returns c = grind (arith, common_steps)
