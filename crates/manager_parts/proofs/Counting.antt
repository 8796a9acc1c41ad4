-- As many parts are lent as pieces hold one.
use Rattle.std.proofs.Common.{◌≡◌, ◌∙◌, ◌<◌, ◌≤◌, ◌+◌, ◌==◌, ◌&&◌, ℕ, zero, suc, Bool, true, false, List, [], ◌∷◌, Option, Some, None, refl, sym, ap, subst, arith, is_some, length, nat_lt, slice_get, if◌then◌else◌}
use Rattle.std.specs.List.{range_with_len}
use Rattle.std.specs.Prelude.{filter}
use Rattle.std.proofs.lemmas.Bool.{and_parts, eqb-true, lt-ltb, ltb-true}
use Rattle.std.proofs.lemmas.Grind.{common_steps}
use Rattle.task_acts.specs.declared.work.Work.{Work}
use Rattle.task_acts.specs.Work.{first_number, is_piece, numbers}
use Rattle.manager_moves.specs.Parts.{has_part, lent, parts_of, sum_from}
use Rattle.manager_moves.specs.Runs.{Events, share}
use Rattle.held_parts.specs.declared.held.Held.{Held}
use Rattle.held_parts.specs.Held.{AreSingle, held_at, is_of, lent_in}
use Rattle.manager_parts.specs.Counts.{AgreesWith, TablesCount, holds_of}

no : {P : Type 0} → false ≡ true → P
no e = cc

-- ---- how many numbers of a range pass a test

one_longer : (b c : Bool) (x : ℕ) (xs ys : List ℕ) → b ≡ true → c ≡ false → length xs ≡ length ys
    → length (if b then x ∷ xs else xs) ≡ length (if c then x ∷ ys else ys) + 1
one_longer true false x xs ys is was same = omega arith
one_longer false c x xs ys is was same = no is
one_longer true true x xs ys is was same = no (sym was)

as_long : (b c : Bool) (x d : ℕ) (xs ys : List ℕ) → b ≡ c → length xs ≡ length ys + d
    → length (if b then x ∷ xs else xs) ≡ length (if c then x ∷ ys else ys) + d
as_long true true x d xs ys e same = omega arith
as_long false false x d xs ys e same = same
as_long true false x d xs ys e same = no (sym e)
as_long false true x d xs ys e same = no e

module _ (f g : ℕ → Bool) where
  same_count : (start count : ℕ) → ((k : ℕ) → start ≤ k → k < start + count → f k ≡ g k)
      → length (filter f (range_with_len start count)) ≡ length (filter g (range_with_len start count)) + 0
  same_count start zero h = omega arith
  same_count start (suc count) h = as_long (f start) (g start) start 0 _ _ (h start (omega arith) (omega arith))
      (same_count (start + 1) count (λ k l m. h k (omega arith) (omega arith)))

  module _ (b : ℕ) (is : f b ≡ true) (was : g b ≡ false) (others : (k : ℕ) → (b == k) ≡ false → f k ≡ g k) where
    apart : (k : ℕ) → b < k → (b == k) ≡ false
    apart k l = grind arith

    one_count : (start count : ℕ) (e : Bool) → (b == start) ≡ e → start ≤ b → b < start + count
        → length (filter f (range_with_len start count)) ≡ length (filter g (range_with_len start count)) + 1
    one_count start zero e same l m = absurd (omega arith)
    one_count start (suc count) true same l m = let at = eqb-true b start same in
        one_longer (f start) (g start) start _ _ (subst (λ (k : ℕ). f k ≡ true) at is) (subst (λ (k : ℕ). g k ≡ false) at was)
        (same_count (start + 1) count (λ k n o. others k (apart k (omega arith))) ∙ omega arith)
    one_count start (suc count) false same l m =
        as_long (f start) (g start) start 1 _ _ (others start same)
        (one_count (start + 1) count (b == (start + 1)) refl (grind arith) (omega arith))

-- ---- sums over tasks

abbrev total : (ℕ → ℕ → Bool) → ℕ → List Work → ℕ
total h n works = sum_from (λ m w. length (filter (h m) (numbers w))) n works

module _ (f g : ℕ → ℕ → Bool) (a b : ℕ) (is : f a b ≡ true) (was : g a b ≡ false)
    (others : (t k : ℕ) → ((a == t) && (b == k)) ≡ false → f t k ≡ g t k) where
  other_task : (t k : ℕ) → (a == t) ≡ false → ((a == t) && (b == k)) ≡ false
  other_task t k e = rw e refl

  same_row : (t : ℕ) (w : Work) → (a == t) ≡ false → length (filter (f t) (numbers w)) ≡ length (filter (g t) (numbers w))
  same_row t w e = same_count (f t) (g t) (first_number w) w.count (λ k l m. others t k (other_task t k e)) ∙ omega arith

  same_total : (n : ℕ) (works : List Work) → a < n → total f n works ≡ total g n works
  same_total n [] l = refl
  same_total n (w ∷ works) l =
      let here = same_row n w (grind arith) in
      let rest = same_total (n + 1) works (omega arith) in
      omega arith

  at_task : (k : ℕ) → (b == k) ≡ false → f a k ≡ g a k
  at_task k e = others a k (last (a == a) e) where
    last : (c : Bool) → (b == k) ≡ false → (c && (b == k)) ≡ false
    last true d = d
    last false d = refl

  one_total : (i n : ℕ) (works : List Work) (w : Work) → a ≡ n + i → slice_get works i ≡ Some w → first_number w ≤ b
      → b < first_number w + w.count → total f n works ≡ total g n works + 1
  one_total i n [] w e in_works l m = absurd (none_there in_works) where
    none_there : {X : Type 0} {x : X} → None ≡ Some x → ⊥
    none_there d = cc
  one_total zero n (v ∷ works) w e in_works l m =
      let same : v ≡ w = only in_works in
      let at : a ≡ n = omega (arith, e) in
      let here : length (filter (f n) (numbers v)) ≡ length (filter (g n) (numbers v)) + 1 =
      subst (λ (t : ℕ). length (filter (f t) (numbers v)) ≡ length (filter (g t) (numbers v)) + 1) at
      (subst (λ (x : Work). length (filter (f a) (numbers x)) ≡ length (filter (g a) (numbers x)) + 1) (sym same)
      (one_count (f a) (g a) b is was at_task (first_number w) w.count (b == first_number w) refl l m)) in
      let rest = same_total (n + 1) works (omega arith) in
      omega arith
    where
      only : {x y : Work} → Some x ≡ Some y → x ≡ y
      only d = cc
  one_total (suc i) n (v ∷ works) w e in_works l m =
      let here = same_row n v (grind arith) in
      let rest = one_total i (n + 1) works w (omega arith) in_works l m in
      omega arith

-- ---- the table

abbrev held : List (Option Held) → ℕ → ℕ → Bool
held slots t k = is_some (held_at slots t k)

abbrev IsInside : List Work → ℕ → ℕ → Type 0
IsInside works t k = (w : Work) × (slice_get works t ≡ Some w) × (first_number w ≤ k) × (k < first_number w + w.count)

none_total : (n : ℕ) (works : List Work) → total (λ t k. false) n works ≡ 0
none_total n [] = refl
none_total n (w ∷ works) =
    let here = none_counted (first_number w) w.count in
    let rest = none_total (n + 1) works in omega arith
  where
    none_counted : (start count : ℕ) → length (filter (λ k. false) (range_with_len start count)) ≡ 0
    none_counted start zero = refl
    none_counted start (suc count) = none_counted (start + 1) count

first_held : (g : Held) (slots : List (Option Held)) (t k : ℕ) (b : Bool) → is_of t k (Some g) ≡ b
    → held (Some g ∷ slots) t k ≡ (if b then true else held slots t k)
first_held g slots t k true e = ap (λ (c : Bool). is_some (if c then Some g.part else held_at slots t k)) e
first_held g slots t k false e = ap (λ (c : Bool). is_some (if c then Some g.part else held_at slots t k)) e

still_held : (g : Held) (slots : List (Option Held)) (t k : ℕ) → held slots t k ≡ true → held (Some g ∷ slots) t k ≡ true
still_held g slots t k e = first_held g slots t k (is_of t k (Some g)) refl ∙ either (is_of t k (Some g)) e where
  either : (b : Bool) → held slots t k ≡ true → (if b then true else held slots t k) ≡ true
  either true d = refl
  either false d = d

counted : (works : List Work) (slots : List (Option Held)) → AreSingle slots
    → ((t k : ℕ) → held slots t k ≡ true → IsInside works t k) → total (held slots) 0 works ≡ lent_in slots
counted works [] single inside = none_total 0 works
counted works (None ∷ slots) single inside = let rest = counted works slots single.1 inside in grind (arith, common_steps)
counted works (Some g ∷ slots) single inside =
    let rest = counted works slots single.1 (λ t k e. inside t k (still_held g slots t k e)) in
    let here : held (Some g ∷ slots) g.task g.number ≡ true = first_held g slots g.task g.number true (grind arith) in
    let its = inside g.task g.number here in
    let one = one_total (held (Some g ∷ slots)) (held slots) g.task g.number here (ap is_some single.0)
    (λ t k e. first_held g slots t k false e) g.task 0 works its.0 (omega arith) its.1 its.2 its.3 in
    grind (arith, common_steps)

-- ---- the law

module _ (works : List Work) (events : Events) (slots : List (Option Held)) (agrees : AgreesWith works events slots) where
  held_inside : (t k : ℕ) (o : Option Work) → slice_get works t ≡ o → holds_of o events t k ≡ true → IsInside works t k
  held_inside t k None e is = no is
  held_inside t k (Some w) e is =
      let piece = and_parts (is_piece w k) (has_part w (share w t events) k) is in
      let ends = and_parts (nat_lt k (first_number w + w.count)) (nat_lt (first_number w) (k + 1)) piece.0 in
      (w, e, grind (arith, ltb-true (first_number w) (k + 1) ends.1), ltb-true k (first_number w + w.count) ends.0)

  piece_in : (w : Work) (k : ℕ) → first_number w ≤ k → k < first_number w + w.count → is_piece w k ≡ true
  piece_in w k l m = rw (lt-ltb k (first_number w + w.count) m, lt-ltb (first_number w) (k + 1) (omega arith)) refl

  same_piece : (t k : ℕ) (w : Work) → slice_get works t ≡ Some w → first_number w ≤ k → k < first_number w + w.count
      → has_part w (share w t events) k ≡ held slots t k
  same_piece t k w e l m =
      sym (agrees t k ∙ ap (λ (o : Option Work). holds_of o events t k) e
      ∙ ap (λ (b : Bool). b && has_part w (share w t events) k) (piece_in w k l m))

  agreed : (n : ℕ) (ws : List Work) → ((i : ℕ) (w : Work) → slice_get ws i ≡ Some w → slice_get works (n + i) ≡ Some w)
      → sum_from (λ m w. parts_of w (share w m events)) n ws ≡ total (held slots) n ws
  agreed n [] h = refl
  agreed n (w ∷ ws) h =
      let here = same_count (has_part w (share w n events)) (held slots n) (first_number w) w.count
      (λ k l m. same_piece n k w (subst (λ (t : ℕ). slice_get works t ≡ Some w) (omega arith) (h 0 w refl)) l m) in
      let rest = agreed (n + 1) ws
      (λ i v e. subst (λ (t : ℕ). slice_get works t ≡ Some v) (omega arith) (h (suc i) v e)) in
      omega arith

  pub lent_is : AreSingle slots → lent works events ≡ lent_in slots
  lent_is single =
      agreed 0 works (λ i w e. subst (λ (t : ℕ). slice_get works t ≡ Some w) (omega arith) e)
      ∙ counted works slots single (λ t k e. held_inside t k (slice_get works t) refl (sym (agrees t k) ∙ e))

pub tables_count : TablesCount
tables_count works events slots single agrees = lent_is works events slots agrees single
