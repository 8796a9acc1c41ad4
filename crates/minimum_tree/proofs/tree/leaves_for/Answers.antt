use Rattle.std.proofs.Common.{arith}
use Rattle.minimum_tree.proofs.LevelLemmas.{doubled}
use Rattle.minimum_tree.proofs.tree.leaves_for.Goals as goal

pub loop-leaves-preserved : goal.loop-leaves-preserved
loop-leaves-preserved c =
    let few = c.requires.most in
    let less = c.loop-leaves-test.true in
    (doubled c.loop-leaves.leaves c.loop-leaves.invariant.0, omega arith, omega arith)
