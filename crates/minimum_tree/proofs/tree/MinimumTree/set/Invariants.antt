use Rattle.std.proofs.Common.{◌-◌, ◌≡◌, ◌≤◌, ◌<◌, ◌*◌, ◌/◌, drop, length, set}
use Rattle.minimum_tree.specs.Trees.{HasLevels, IsTreeBut}
use Rattle.minimum_tree.proofs.tree.MinimumTree.set.Given as goal

-- only the parent of the node that was written last may be no minimum
abbrev pub invariant-loop-node : goal.invariant-loop-node
invariant-loop-node l =
    (1 ≤ l.node) × (l.node < 2 * l.self-inside.leaves) × (length l.self-inside.nodes.items ≡ 2 * l.self-inside.leaves)
    × IsTreeBut (l.node / 2) l.self-inside.leaves l.self-inside.nodes.items × HasLevels l.self-inside.leaves
    × (drop l.self-inside.leaves l.self-inside.nodes.items ≡ set l.fn.self l.fn.place l.fn.value)

abbrev pub decreases-loop-node : goal.decreases-loop-node
decreases-loop-node l = l.node - 1
