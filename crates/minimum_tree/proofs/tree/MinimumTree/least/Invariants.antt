use Rattle.std.proofs.Common.{◌-◌, ◌≡◌, ◌≤◌, ◌<◌, ◌*◌, ℕ, get_or}
use Rattle.minimum_tree.specs.Trees.{first_under, last_under}
use Rattle.minimum_tree.proofs.tree.MinimumTree.least.Given as goal

-- the node is as little as the root, and each leaf before those under it is greater
abbrev pub invariant-loop-node : goal.invariant-loop-node
invariant-loop-node l =
    (levels : ℕ) × (1 ≤ l.node) × (l.self-inside.leaves ≤ first_under levels l.node)
    × (last_under levels l.node < 2 * l.self-inside.leaves)
    × (get_or l.self-inside.nodes.items l.node 0 ≡ get_or l.self-inside.nodes.items 1 0)
    × ((i : ℕ) → l.self-inside.leaves ≤ i → i < first_under levels l.node
    → get_or l.self-inside.nodes.items l.node 0 < get_or l.self-inside.nodes.items i 0)

abbrev pub decreases-loop-node : goal.decreases-loop-node
decreases-loop-node l = l.self-inside.leaves - l.node
