-- The way down from the root to the first of the least leaves.
use Rattle.std.proofs.Common.{◌≡◌, ◌∙◌, ◌+◌, ◌-◌, ◌*◌, ◌<◌, ◌≤◌, ℕ, zero, suc, List, ap, refl, subst, sym, arith, drop, get_or, length, min}
use Rattle.std.proofs.lemmas.List.{get_or-drop, length-drop}
use Rattle.minimum_tree.proofs.LevelLemmas.{above_last, at_or_behind, next_first, ordered, under}
use Rattle.minimum_tree.specs.Least.{IsLeast}
use Rattle.minimum_tree.specs.Trees.{HasLevels, IsTree, first_under, last_under}

module _ (nodes : List ℕ) (leaves : ℕ) (tree : IsTree leaves nodes) where
  abbrev at : ℕ → ℕ
  at n = get_or nodes n 0

  -- a node as little as the root, with greater leaves before those under it
  abbrev pub Reached : ℕ → Type 0
  Reached n = (e : ℕ) × (1 ≤ n) × (leaves ≤ first_under e n) × (last_under e n < 2 * leaves) × (at n ≡ at 1)
      × ((i : ℕ) → leaves ≤ i → i < first_under e n → at n < at i)

  abbrev Down : (e n : ℕ) → Type 0
  Down e n = (1 ≤ n) × (leaves ≤ first_under e n) × (last_under e n < 2 * leaves) × (at n ≡ at 1)
      × ((i : ℕ) → leaves ≤ i → i < first_under e n → at n < at i)

  left_of : (e n : ℕ) → Down e n → n < leaves → at (2 * n) ≤ at (2 * n + 1) → Reached (2 * n)
  left_of zero n (p, f, l, same, before) w less = absurd (omega arith)
  left_of (suc e) n (p, f, l, same, before) w less =
      let is : at n ≡ min (at (2 * n)) (at (2 * n + 1)) = tree n p w in
      let seam = next_first e (2 * n) in
      let right = ordered e (2 * n + 1) in
      (e, omega arith, f, omega arith, omega arith, (λ i b t. let h = before i b t in omega arith))

  right_of : (e n : ℕ) → Down e n → n < leaves → at (2 * n + 1) < at (2 * n) → Reached (2 * n + 1)
  right_of zero n (p, f, l, same, before) w less = absurd (omega arith)
  right_of (suc e) n (p, f, l, same, before) w less =
      let is : at n ≡ min (at (2 * n)) (at (2 * n + 1)) = tree n p w in
      let seam = next_first e (2 * n) in
      let left = ordered e (2 * n) in
      let right = ordered e (2 * n + 1) in (
        e,
        omega arith,
        omega arith,
        l,
        omega arith,
        (λ i b t. at_or_behind (first_under e (2 * n)) i
            (λ h. let low = under nodes leaves tree e (2 * n) i (omega arith) (omega arith) h (omega arith) in omega arith)
            (λ h. let low = before i b h in omega arith)),
      )

  down : (n : ℕ) → (r : Reached n) → Down r.0 n
  down n r = (r.1, r.2, r.3, r.4, r.5)

  pub left : (n : ℕ) → Reached n → n < leaves → at (n * 2) ≤ at (n * 2 + 1) → Reached (n * 2)
  left n r w less =
      let same : 2 * n ≡ n * 2 = omega arith in
      subst Reached same (left_of r.0 n (down n r) w (subst (λ (m : ℕ). at m ≤ at (m + 1)) (sym same) less))

  pub right : (n : ℕ) → Reached n → n < leaves → at (n * 2 + 1) < at (n * 2) → Reached (n * 2 + 1)
  right n r w less =
      let same : 2 * n ≡ n * 2 = omega arith in
      subst (λ (m : ℕ). Reached (m + 1)) same
      (right_of r.0 n (down n r) w (subst (λ (m : ℕ). at (m + 1) < at m) (sym same) less))

  module _ (levels : HasLevels leaves) (long : length nodes ≡ 2 * leaves) where
    at_leaf : (place n : ℕ) → n ≡ leaves + place → get_or (drop leaves nodes) place 0 ≡ at n
    at_leaf place n e = get_or-drop leaves nodes place 0 ∙ ap at (sym e)

    found : (n : ℕ) → leaves ≤ n → Down 0 n → IsLeast (drop leaves nodes) (n - leaves)
    found n b (p, f, l, same, before) =
        let size = length-drop leaves nodes in
        let here = at_leaf (n - leaves) n (omega arith) in
        record {
          within = omega arith;
          least = λ other w.
              let there = at_leaf other (leaves + other) refl in
              let first = levels.1 in
              let last = levels.2 in
              let low = under nodes leaves tree levels.0 1 (leaves + other) (omega arith) (omega arith) (omega arith) (omega arith) in
              omega arith;
          first = λ other w.
              let there = at_leaf other (leaves + other) refl in
              let low = before (leaves + other) (omega arith) (omega arith) in
              omega arith;
        }

    at_end : (e n : ℕ) → leaves ≤ n → Down e n → IsLeast (drop leaves nodes) (n - leaves)
    at_end zero n b r = found n b r
    at_end (suc e) n b r = let inner = above_last e (2 * n + 1) in let l = r.2 in absurd (omega arith)

    pub found_least : (n : ℕ) → leaves ≤ n → Reached n → IsLeast (drop leaves nodes) (n - leaves)
    found_least n b r = at_end r.0 n b (down n r)
