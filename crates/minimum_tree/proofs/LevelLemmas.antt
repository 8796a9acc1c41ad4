-- Levels below a node, and the leaves under it.
use Rattle.std.proofs.Common.{◌≡◌, ◌∙◌, ◌+◌, ◌*◌, ◌<◌, ◌≤◌, ℕ, zero, suc, List, ap, refl, arith, get_or, inl, inr, min}
use Rattle.std.proofs.lemmas.Bool.Decides.{leb_tells}
use Rattle.minimum_tree.specs.Trees.{HasLevels, IsTree, first_under, last_under}

first_doubled : (e n : ℕ) → first_under e (2 * n) ≡ 2 * first_under e n
first_doubled zero n = refl
first_doubled (suc e) n = first_doubled e (2 * n)

last_doubled : (e n : ℕ) → last_under e (2 * n + 1) + 1 ≡ 2 * (last_under e n + 1)
last_doubled zero n = omega arith
last_doubled (suc e) n = last_doubled e (2 * n + 1)

-- the leaves under a node go on where those under the node before it end
pub next_first : (e n : ℕ) → first_under e (n + 1) ≡ last_under e n + 1
next_first zero n = refl
next_first (suc e) n = ap (first_under e) (omega arith) ∙ next_first e (2 * n + 1)

pub above_first : (e n : ℕ) → n ≤ first_under e n
above_first zero n = omega arith
above_first (suc e) n = let h = above_first e (2 * n) in omega arith

pub above_last : (e n : ℕ) → n ≤ last_under e n
above_last zero n = omega arith
above_last (suc e) n = let h = above_last e (2 * n + 1) in omega arith

pub one_level : HasLevels 1
one_level = (0, refl, refl)

pub doubled : (leaves : ℕ) → HasLevels leaves → HasLevels (leaves * 2)
doubled leaves h =
    let first = first_doubled h.0 1 in
    let last = last_doubled h.0 1 in
    let is_first = h.1 in
    let is_last = h.2 in
    (suc h.0, omega arith, omega arith)

pub ordered : (e n : ℕ) → first_under e n ≤ last_under e n
ordered zero n = omega arith
ordered (suc e) n =
    let left = ordered e (2 * n) in
    let seam = next_first e (2 * n) in
    let right = ordered e (2 * n + 1) in
    omega arith

pub at_or_behind : {P : Type 0} → (i m : ℕ) → (i ≤ m → P) → (m < i → P) → P
at_or_behind i m before behind = elim (leb_tells i m) [ inl e ↦ before e.1 | inr e ↦ behind e.1 ]

module _ (nodes : List ℕ) (leaves : ℕ) (tree : IsTree leaves nodes) where
  abbrev at : ℕ → ℕ
  at n = get_or nodes n 0

  -- no leaf under a node is less than the node
  pub under : (e n i : ℕ) → 1 ≤ n → last_under e n < 2 * leaves → first_under e n ≤ i → i ≤ last_under e n → at n ≤ at i
  under zero n i p l f t = let same : n ≡ i = omega arith in let e = ap at same in omega arith
  under (suc e) n i p l f t =
      let inner = above_last e (2 * n + 1) in
      let is : at n ≡ min (at (2 * n)) (at (2 * n + 1)) = tree n p (omega arith) in
      let seam = next_first e (2 * n) in
      let right = ordered e (2 * n + 1) in
      at_or_behind i (last_under e (2 * n))
      (λ h. let low = under e (2 * n) i (omega arith) (omega arith) f h in omega arith)
      (λ h. let low = under e (2 * n + 1) i (omega arith) l (omega arith) t in omega arith)
