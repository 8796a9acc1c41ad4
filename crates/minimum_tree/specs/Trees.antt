-- A tree of minima as a list of nodes: node 1 is the root, and the children of node n are nodes 2 n and 2 n + 1.
use Rattle.std.specs.Prelude.{◌≡◌, ◌≢◌, ◌+◌, ◌*◌, ◌<◌, ◌≤◌, ℕ, zero, suc, List, get_or, min}

-- ---- levels

-- the first and the last node so many levels below a node
abbrev pub first_under : (levels n : ℕ) → ℕ
first_under zero n = n
first_under (suc levels) n = first_under levels (2 * n)

abbrev pub last_under : (levels n : ℕ) → ℕ
last_under zero n = n
last_under (suc levels) n = last_under levels (2 * n + 1)

-- the leaves are all the nodes of one level below the root
abbrev pub HasLevels : (leaves : ℕ) → Type 0
HasLevels leaves = (levels : ℕ) × (leaves ≡ first_under levels 1) × (2 * leaves ≡ last_under levels 1 + 1)

-- ---- minima

-- a node is the lesser of its children
abbrev pub IsMinimum : List ℕ → ℕ → Type 0
IsMinimum nodes n = get_or nodes n 0 ≡ min (get_or nodes (2 * n) 0) (get_or nodes (2 * n + 1) 0)

-- each inner node is, but for one that is about to be written
abbrev pub IsTreeBut : (next leaves : ℕ) → List ℕ → Type 0
IsTreeBut next leaves nodes = (n : ℕ) → 1 ≤ n → n < leaves → n ≢ next → IsMinimum nodes n

abbrev pub IsTree : (leaves : ℕ) → List ℕ → Type 0
IsTree leaves nodes = (n : ℕ) → 1 ≤ n → n < leaves → IsMinimum nodes n
