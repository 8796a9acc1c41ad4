use Rattle.std.proofs.Common.{◌-◌, ◌≤◌, ◌^◌}
use Rattle.minimum_tree.specs.Trees.{HasLevels}
use Rattle.minimum_tree.proofs.tree.leaves_for.Given as goal

abbrev pub invariant-loop-leaves : goal.invariant-loop-leaves
invariant-loop-leaves l = HasLevels l.leaves × (1 ≤ l.leaves) × (l.leaves ≤ 2 ^ 32)

abbrev pub decreases-loop-leaves : goal.decreases-loop-leaves
decreases-loop-leaves l = l.count - l.leaves
