-- A leaf that is written, and the nodes above it, one after another.
use Rattle.std.proofs.Common.{◌≡◌, ◌≢◌, ◌∙◌, ◌+◌, ◌*◌, ◌/◌, ◌<◌, ◌≤◌, ℕ, List, ap, arith, drop, get_or, set, length, length-set, min, inl, inr}
use Rattle.std.proofs.lemmas.Bool.{cases_eq}
use Rattle.std.proofs.lemmas.List.{drop-set-add, drop-set-lt, get_or-set_other, get_or-set_same, length-drop}
use Rattle.minimum_tree.specs.Trees.{HasLevels, IsMinimum, IsTree, IsTreeBut}

-- a node stays the lesser of its children where none of the three is written
kept : (nodes : List ℕ) (at value n : ℕ) → n ≢ at → 2 * n ≢ at → 2 * n + 1 ≢ at → IsMinimum nodes n → IsMinimum (set nodes at value) n
kept nodes at value n here left right is =
    rw (get_or-set_other nodes at n value 0 here, get_or-set_other nodes at (2 * n) value 0 left, get_or-set_other nodes at (2 * n + 1) value 0 right) is

-- the tree after a leaf was written
pub written : (nodes row : List ℕ) (leaves node place value : ℕ) → HasLevels leaves → length nodes ≡ 2 * leaves → IsTree leaves nodes → drop leaves nodes ≡ row → place < length row → node ≡ leaves + place
    → (1 ≤ node) × (node < 2 * leaves) × (length (set nodes node value) ≡ 2 * leaves) × IsTreeBut (node / 2) leaves (set nodes node value) × HasLevels leaves × (drop leaves (set nodes node value) ≡ set row place value)
written nodes row leaves node place value levels long tree view inside is =
    let size = ap length view in
    let cut = length-drop leaves nodes in
    let some : 1 ≤ node = omega (arith, size, cut) in
    let within : node < 2 * leaves = omega (arith, size, cut) in
    let but : IsTreeBut (node / 2) leaves (set nodes node value) =
    λ n one below other. kept nodes node value n (λ e. omega arith) (λ e. other (omega arith)) (λ e. other (omega arith)) (tree n one below) in
    let leaf : drop leaves (set nodes node value) ≡ set row place value =
    ap (λ (m : ℕ). drop leaves (set nodes m value)) is ∙ drop-set-add leaves nodes place value ∙ ap (λ (xs : List ℕ). set xs place value) view in
    (some, within, length-set nodes node value ∙ long, but, levels, leaf)

-- the tree after the node above was written, which is then the lesser of its children
pub mended : (nodes row : List ℕ) (leaves node least : ℕ) → 1 < node
    → (1 ≤ node) × (node < 2 * leaves) × (length nodes ≡ 2 * leaves) × IsTreeBut (node / 2) leaves nodes × HasLevels leaves × (drop leaves nodes ≡ row)
    → least ≡ min (get_or nodes (2 * (node / 2)) 0) (get_or nodes (2 * (node / 2) + 1) 0)
    → (1 ≤ node / 2) × (node / 2 < 2 * leaves) × (length (set nodes (node / 2) least) ≡ 2 * leaves) × IsTreeBut (node / 2 / 2) leaves (set nodes (node / 2) least) × HasLevels leaves
    × (drop leaves (set nodes (node / 2) least) ≡ row)
mended nodes row leaves node least more (some, within, long, tree, levels, view) is =
    let up : 1 ≤ node / 2 = omega arith in
    let low : node / 2 < leaves = omega arith in
    let here : IsMinimum (set nodes (node / 2) least) (node / 2) =
    rw (get_or-set_other nodes (node / 2) (2 * (node / 2)) least 0 (λ e. omega arith), get_or-set_other nodes (node / 2) (2 * (node / 2) + 1) least 0 (λ e. omega arith))
    (get_or-set_same nodes (node / 2) least 0 (omega arith) ∙ is) in
    let but : IsTreeBut (node / 2 / 2) leaves (set nodes (node / 2) least) =
    λ n one below other. elim (cases_eq n (node / 2)) [
      | inl e ↦ rw e here
      | inr apart ↦ kept nodes (node / 2) least n apart (λ e. other (omega arith)) (λ e. other (omega arith)) (tree n one below apart)
    ] in
    (up, omega arith, length-set nodes (node / 2) least ∙ long, but, levels, drop-set-lt leaves nodes (node / 2) least low ∙ view)
