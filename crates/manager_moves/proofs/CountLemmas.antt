-- Counts and sums of which one term may grow.
use Rattle.std.proofs.Common.{◌≡◌, ◌==◌, ◌+◌, ◌≤◌, ◌<◌, ℕ, zero, suc, Bool, true, false, List, [], ◌∷◌, Some, refl, subst, sym, arith, slice_get, length}
use Rattle.std.proofs.lemmas.Bool.{eqb-true}
use Rattle.std.specs.List.{range_with_len}
use Rattle.std.specs.Prelude.{filter, if◌then◌else◌}
use Rattle.task_acts.specs.declared.work.Work.{Work}
use Rattle.manager_moves.specs.Parts.{sum_from}

pub no : {P : Type 0} → false ≡ true → P
no e = cc

pub not_both : (b : Bool) {P : Type 0} → b ≡ true → b ≡ false → P
not_both true e f = no (sym f)
not_both false e f = no e

pub apart : (n k : ℕ) → k < n → (n == k) ≡ false
apart n k l = grind arith

-- ---- how many numbers of a range pass a test

more : (q p : Bool) (x : ℕ) (ys zs : List ℕ) (d : ℕ) → (q ≡ true → p ≡ true) → length ys ≤ length zs + d
    → length (if q then x ∷ ys else ys) ≤ length (if p then x ∷ zs else zs) + d
more true true x ys zs d h l = omega arith
more true false x ys zs d h l = no (h refl)
more false true x ys zs d h l = omega arith
more false false x ys zs d h l = l

one_more : (q p : Bool) (x : ℕ) (ys zs : List ℕ) → length ys ≤ length zs + 0
    → length (if q then x ∷ ys else ys) ≤ length (if p then x ∷ zs else zs) + 1
one_more true true x ys zs l = omega arith
one_more true false x ys zs l = omega arith
one_more false true x ys zs l = omega arith
one_more false false x ys zs l = omega arith

module _ (Q P : ℕ → Bool) where
  pub all_kept : (start count d : ℕ) → ((n : ℕ) → start ≤ n → Q n ≡ true → P n ≡ true)
      → length (filter Q (range_with_len start count)) ≤ length (filter P (range_with_len start count)) + d
  all_kept start zero d h = omega arith
  all_kept start (suc count) d h = more (Q start) (P start) start _ _ d (h start (omega arith))
      (all_kept (start + 1) count d (λ n l. h n (omega arith)))

  module _ (k : ℕ) (h : (n : ℕ) → (n == k) ≡ false → Q n ≡ true → P n ≡ true) where
    added : (b : Bool) (start count : ℕ) → (start == k) ≡ b
        → length (filter Q (range_with_len (start + 1) count)) ≤ length (filter P (range_with_len (start + 1) count)) + 1
        → length (filter Q (range_with_len start (suc count))) ≤ length (filter P (range_with_len start (suc count))) + 1
    added true start count e rest = let same = eqb-true start k e in
        one_more (Q start) (P start) start _ _ (all_kept (start + 1) count 0
        (λ n l. h n (apart n k (omega arith))))
    added false start count e rest = more (Q start) (P start) start _ _ 1 (h start e) rest

    pub one_added : (start count : ℕ)
        → length (filter Q (range_with_len start count)) ≤ length (filter P (range_with_len start count)) + 1
    one_added start zero = omega arith
    one_added start (suc count) = added (start == k) start count refl (one_added (start + 1) count)

-- ---- sums over tasks

module _ (f g : ℕ → Work → ℕ) (t d : ℕ) where
  abbrev Below : ℕ → List Work → Type 0
  Below n works = (i m : ℕ) (w : Work) → m ≡ n + i → slice_get works i ≡ Some w → (m == t) ≡ false → f m w ≤ g m w

  abbrev At : ℕ → List Work → Type 0
  At n works = (i : ℕ) (w : Work) → t ≡ n + i → slice_get works i ≡ Some w → f t w ≤ g t w + d

  after : (n : ℕ) (works : List Work) → t < n → Below n works → sum_from f n works ≤ sum_from g n works
  after n [] l below = omega arith
  after n (w ∷ works) l below =
      let here = below 0 n w (omega arith) refl (apart n t l) in
      let rest = after (n + 1) works (omega arith) (λ i m v e is. below (suc i) m v (omega arith) is) in
      omega arith

  added_at : (b : Bool) (n : ℕ) (w : Work) (works : List Work) → (n == t) ≡ b → Below n (w ∷ works) → At n (w ∷ works)
      → sum_from f (n + 1) works ≤ sum_from g (n + 1) works + d
      → sum_from f n (w ∷ works) ≤ sum_from g n (w ∷ works) + d
  added_at true n w works e below at so_far =
      let same = eqb-true n t e in
      let here : f n w ≤ g n w + d = subst (λ (m : ℕ). f m w ≤ g m w + d) (sym same) (at 0 w (omega arith) refl) in
      let rest = after (n + 1) works (omega arith) (λ i m v e is. below (suc i) m v (omega arith) is) in
      omega arith
  added_at false n w works e below at so_far =
      let here = below 0 n w (omega arith) refl e in
      omega arith

  pub sums : (n : ℕ) (works : List Work) → Below n works → At n works → sum_from f n works ≤ sum_from g n works + d
  sums n [] below at = omega arith
  sums n (w ∷ works) below at = added_at (n == t) n w works refl below at
      (sums (n + 1) works (λ i m v e is. below (suc i) m v (omega arith) is)
      (λ i v e is. at (suc i) v (omega arith) is))
