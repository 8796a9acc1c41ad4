use Rattle.std.proofs.lemmas.Grind.{common_steps}
use Rattle.std.proofs.Common.{arith}
use Rattle.minimum_tree.proofs.tree.MinimumTree.make.Goals as goal

pub returns-clause-same : goal.returns-clause-same
returns-clause-same c = grind (arith, common_steps)

pub returns-clause-enough : goal.returns-clause-enough
returns-clause-enough c = grind (arith, common_steps)
