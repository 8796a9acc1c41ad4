-- What a list contains, by recursion on the list.
use Rattle.shared_lemmas.proofs.Clashes.{none_is_some, some_is}
use Rattle.shared_lemmas.proofs.Lists.{cons_is, head_is, tail_is}
use Rattle.shared_lemmas.proofs.Tests.{less_or_same}
use Rattle.std.proofs.Common.{◌≤◌, ◌+◌, take, AllPairs, find, ◌≡◌, ◌∙◌, ◌⊎◌, ◌<◌, ℕ, zero, suc, Bool, true, false, cond, List, [], ◌∷◌, ◌++◌, Option, Some, None, refl, sym, ap, inl, inr, Contains, length, get_or, map, reverse, subst, filter, filter_map, slice_get, arith}
use Rattle.std.specs.Prelude.{flat_map}
use Rattle.std.proofs.lemmas.List.{reverse-append}
use Rattle.std.specs.List.{cons_option, range_with_len}
use Rattle.std.proofs.lemmas.Option.{get_or_from_slice_get, slice_get-get_or, slice_get_within}
use Rattle.std.proofs.lemmas.List.Elements.{Contains-append_cases, Contains-append_right}

abbrev pub Has : {X : Type 0} → List X → X → Type 0
Has [] x = ⊥
Has (y ∷ ys) x = (y ≡ x) ⊎ Has ys x

only_one : {X : Type 0} (y x : X) (k : ℕ) → k < 1 → get_or (y ∷ []) k x ≡ x → y ≡ x
only_one y x zero h e = e
only_one y x (suc k) h e = absurd (omega arith)

pub has : {X : Type 0} (xs : List X) (x : X) → Contains xs x → Has xs x
has [] x h = let below : h.0 < 0 = h.1 in absurd (omega arith)
has (y ∷ ys) x h = elim (Contains-append_cases (y ∷ []) ys x h) [ inl one ↦ inl (only_one y x one.0 one.1 one.2) | inr rest ↦ inr (has ys x rest) ]

pub contains_of : {X : Type 0} (xs : List X) (x : X) → Has xs x → Contains xs x
contains_of [] x h = absurd h
contains_of (y ∷ ys) x (inl e) = (0, omega arith, e)
contains_of (y ∷ ys) x (inr h) = Contains-append_right (y ∷ []) ys x (contains_of ys x h)

pub has-append_left : {X : Type 0} (xs ys : List X) (x : X) → Has xs x → Has (xs ++ ys) x
has-append_left [] ys x h = absurd h
has-append_left (z ∷ zs) ys x (inl e) = inl e
has-append_left (z ∷ zs) ys x (inr h) = inr (has-append_left zs ys x h)

pub has-append_right : {X : Type 0} (xs ys : List X) (x : X) → Has ys x → Has (xs ++ ys) x
has-append_right [] ys x h = h
has-append_right (z ∷ zs) ys x h = inr (has-append_right zs ys x h)

pub has-append_cases : {X : Type 0} (xs ys : List X) (x : X) → Has (xs ++ ys) x → Has xs x ⊎ Has ys x
has-append_cases [] ys x h = inr h
has-append_cases (z ∷ zs) ys x (inl e) = inl (inl e)
has-append_cases (z ∷ zs) ys x (inr h) = elim (has-append_cases zs ys x h) [ inl a ↦ inl (inr a) | inr b ↦ inr b ]

-- ---- by a split

pub has_middle : {X : Type 0} (front : List X) (x : X) (back : List X) → Has (front ++ x ∷ back) x
has_middle [] x back = inl refl
has_middle (y ∷ front) x back = inr (has_middle front x back)

pub record Split {X : Type 0} (xs : List X) (x : X) : Type 0 where
  pub front : List X
  pub back : List X
  pub is : xs ≡ front ++ x ∷ back

pub split_of : {X : Type 0} (xs : List X) (x : X) → Has xs x → Split xs x
split_of [] x h = absurd h
split_of (y ∷ ys) x (inl e) = record { front = []; back = ys; is = ap (λ z. z ∷ ys) e }
split_of (y ∷ ys) x (inr h) = let rest = split_of ys x h in record { front = y ∷ rest.front; back = rest.back; is = ap (λ zs. y ∷ zs) rest.is }

-- of two places of a list one is not before the other
pub ordered : {X : Type 0} (front : List X) (x : X) (back front' : List X) (y : X) (back' : List X) → front ++ x ∷ back ≡ front' ++ y ∷ back'
    → ((rest : List X) × (front' ≡ front ++ rest)) ⊎ ((rest : List X) × (front ≡ front' ++ y ∷ rest))
ordered [] x back front' y back' e = inl (front', refl)
ordered (a ∷ front) x back [] y back' e = inr (front, ap (λ z. z ∷ front) (head_is a y (front ++ x ∷ back) back' e))
ordered (a ∷ front) x back (b ∷ front') y back' e = elim (ordered front x back front' y back' (tail_is a b (front ++ x ∷ back) (front' ++ y ∷ back') e)) [
  | inl before ↦ inl (before.0, cons_is b a front' (front ++ before.0) (sym (head_is a b (front ++ x ∷ back) (front' ++ y ∷ back') e)) before.1)
  | inr after ↦ inr (after.0, cons_is a b front (front' ++ y ∷ after.0) (head_is a b (front ++ x ∷ back) (front' ++ y ∷ back') e) after.1)
]

-- ---- by a function

pub has-map : {X Y : Type 0} (f : X → Y) (xs : List X) (x : X) → Has xs x → Has (map f xs) (f x)
has-map f [] x h = absurd h
has-map f (z ∷ zs) x (inl e) = inl (ap f e)
has-map f (z ∷ zs) x (inr h) = inr (has-map f zs x h)

pub mapped : {X Y : Type 0} (f : X → Y) (xs : List X) (y : Y) → Has (map f xs) y → (x : X) × Has xs x × (f x ≡ y)
mapped f [] y h = absurd h
mapped f (z ∷ zs) y (inl e) = (z, inl refl, e)
mapped f (z ∷ zs) y (inr h) = let rest = mapped f zs y h in (rest.0, inr rest.1, rest.2)

has-cons_option : {X : Type 0} (o : Option X) (xs : List X) (x : X) → Has xs x → Has (cons_option o xs) x
has-cons_option None xs x h = h
has-cons_option (Some y) xs x h = inr h

pub has-filter_map : {X Y : Type 0} (f : X → Option Y) (xs : List X) (x : X) (y : Y) → Has xs x → f x ≡ Some y → Has (filter_map f xs) y
has-filter_map f [] x y h e = absurd h
has-filter_map f (z ∷ zs) x y (inl same) e = let found : f z ≡ Some y = ap f same ∙ e in rw found (inl refl)
has-filter_map f (z ∷ zs) x y (inr later) e = has-cons_option (f z) (filter_map f zs) y (has-filter_map f zs x y later e)

pub kept : {X : Type 0} (test : X → Bool) (xs : List X) (x : X) → Has (filter test xs) x → Has xs x
kept test [] x h = absurd h
kept {X} test (z ∷ zs) x h = elim (from (test z) h) [ inl e ↦ inl e | inr rest ↦ inr (kept test zs x rest) ]
  where
    from : (b : Bool) → Has (cond b (z ∷ filter test zs) (filter test zs)) x → (z ≡ x) ⊎ Has (filter test zs) x
    from true g = g
    from false g = inr g

-- and it passes the test
pub passes : {X : Type 0} (test : X → Bool) (xs : List X) (x : X) → Has (filter test xs) x → test x ≡ true
passes test [] x h = absurd h
passes {X} test (z ∷ zs) x h = which (test z) refl h (passes test zs x)
  where
    which : (b : Bool) → test z ≡ b → Has (cond b (z ∷ filter test zs) (filter test zs)) x → (Has (filter test zs) x → test x ≡ true) → test x ≡ true
    which true so (inl e) later = sym (ap test e) ∙ so
    which true so (inr rest) later = later rest
    which false so rest later = later rest

-- what passes the test is kept
pub has-filter : {X : Type 0} (test : X → Bool) (xs : List X) (x : X) → test x ≡ true → Has xs x → Has (filter test xs) x
has-filter test [] x so h = absurd h
has-filter test (z ∷ zs) x so (inl e) = subst (λ (b : Bool). Has (cond b (z ∷ filter test zs) (filter test zs)) x) (sym (ap test e ∙ so)) (inl e)
has-filter {X} test (z ∷ zs) x so (inr h) = later (test z) (has-filter test zs x so h)
  where
    later : (b : Bool) → Has (filter test zs) x → Has (cond b (z ∷ filter test zs) (filter test zs)) x
    later true rest = inr rest
    later false rest = rest

pub gathered : {X Y : Type 0} (f : X → List Y) (xs : List X) (y : Y) → Has (flat_map f xs) y → (x : X) × Has xs x × Has (f x) y
gathered f [] y h = absurd h
gathered f (z ∷ zs) y h = elim (has-append_cases (f z) (flat_map f zs) y h) [
  | inl here ↦ (z, inl refl, here)
  | inr later ↦ let rest = gathered f zs y later in (rest.0, inr rest.1, rest.2)
]

-- ---- by a place

-- a list at the place of a member of what a function gives of it
pub record SplitAt {X Y : Type 0} (f : X → Option Y) (xs : List X) (k : ℕ) (y : Y) : Type 0 where
  pub front : List X
  pub item : X
  pub back : List X
  pub is : xs ≡ front ++ item ∷ back
  pub gives : f item ≡ Some y
  pub place : length (filter_map f front) ≡ k

-- something or nothing
pub found_or_not : {X : Type 0} (o : Option X) → (o ≡ None) ⊎ ((x : X) × (o ≡ Some x))
found_or_not None = inl refl
found_or_not (Some x) = inr (x, refl)

passed : {X Y : Type 0} (f : X → Option Y) (x : X) (xs : List X) (k : ℕ) (y : Y) → f x ≡ None → SplitAt f xs k y → SplitAt f (x ∷ xs) k y
passed f x xs k y none rest =
    record { front = x ∷ rest.front; item = rest.item; back = rest.back; is = ap (λ zs. x ∷ zs) rest.is; gives = rest.gives; place = rw none rest.place }

counted : {X Y : Type 0} (f : X → Option Y) (x : X) (xs : List X) (z : Y) (k : ℕ) (y : Y) → f x ≡ Some z → SplitAt f xs k y → SplitAt f (x ∷ xs) (suc k) y
counted f x xs z k y some rest =
    record { front = x ∷ rest.front; item = rest.item; back = rest.back; is = ap (λ zs. x ∷ zs) rest.is; gives = rest.gives; place = rw some (ap suc rest.place) }

pub split_at : {X Y : Type 0} (f : X → Option Y) (xs : List X) (k : ℕ) (y : Y) → slice_get (filter_map f xs) k ≡ Some y → SplitAt f xs k y
split_at f [] k y h = absurd (none_is_some y h)
split_at f (x ∷ xs) zero y h = elim (found_or_not (f x)) [
  | inl none ↦ passed f x xs zero y none (split_at f xs zero y (rw none at h))
  | inr some ↦ record { front = []; item = x; back = xs; is = refl; gives = some.1 ∙ (rw some.1 at h); place = refl }
]
split_at f (x ∷ xs) (suc k) y h = elim (found_or_not (f x)) [
  | inl none ↦ passed f x xs (suc k) y none (split_at f xs (suc k) y (rw none at h))
  | inr some ↦ counted f x xs some.0 k y some.1 (split_at f xs k y (rw some.1 at h))
]

pub has_at : {X : Type 0} (xs : List X) (k : ℕ) (x : X) → slice_get xs k ≡ Some x → Has xs x
has_at [] k x e = absurd (none_is_some x e)
has_at (y ∷ ys) zero x e = inl (some_is y x e)
has_at (y ∷ ys) (suc k) x e = inr (has_at ys k x e)

-- the place of a member
pub place_middle : {X : Type 0} (front : List X) (x : X) (back : List X) → slice_get (front ++ x ∷ back) (length front) ≡ Some x
place_middle [] x back = refl
place_middle (y ∷ front) x back = place_middle front x back

pub place_in_front : {X : Type 0} (xs ys : List X) (k : ℕ) (x : X) → slice_get xs k ≡ Some x → slice_get (xs ++ ys) k ≡ Some x
place_in_front [] ys k x e = absurd (none_is_some x e)
place_in_front (y ∷ xs) ys zero x e = e
place_in_front (y ∷ xs) ys (suc k) x e = place_in_front xs ys k x e

pub place_within_front : {X : Type 0} (xs ys : List X) (k : ℕ) (x : X) → k < length xs → slice_get (xs ++ ys) k ≡ Some x → slice_get xs k ≡ Some x
place_within_front [] ys k x inside e = absurd (omega arith)
place_within_front (y ∷ xs) ys zero x inside e = e
place_within_front (y ∷ xs) ys (suc k) x inside e = place_within_front xs ys k x (omega arith) e

-- what a function gives of a member stands in the rest
pub has_filtered : {X Y : Type 0} (f : X → Option Y) (xs : List X) (y : Y) → Has (filter_map f xs) y → (x : X) × Has xs x × (f x ≡ Some y)
has_filtered f [] y h = absurd h
has_filtered f (x ∷ xs) y h = elim (found_or_not (f x)) [
  | inl none ↦ let rest = has_filtered f xs y (rw none at h) in (rest.0, inr rest.1, rest.2)
  | inr some ↦ first_or_rest f x xs y some.0 some.1 (rw some.1 at h) (has_filtered f xs y)
]
  where
    first_or_rest : {X Y : Type 0} (f : X → Option Y) (x : X) (xs : List X) (y z : Y) → f x ≡ Some z → (z ≡ y) ⊎ Has (filter_map f xs) y → (Has (filter_map f xs) y → (w : X) × Has xs w × (f w ≡ Some y))
        → (w : X) × Has (x ∷ xs) w × (f w ≡ Some y)
    first_or_rest f x xs y z some (inl e) later = (x, inl refl, some ∙ ap Some e)
    first_or_rest f x xs y z some (inr h) later = let rest = later h in (rest.0, inr rest.1, rest.2)

-- ---- in reverse

pub reversed : {X : Type 0} (xs : List X) (x : X) → Has (reverse xs) x → Has xs x
reversed [] x h = h
reversed (y ∷ ys) x h = elim (has-append_cases (reverse ys) (y ∷ []) x (subst (λ zs. Has zs x) (reverse-append (y ∷ []) ys) h)) [
  | inl there ↦ inr (reversed ys x there)
  | inr here ↦ inl (only y x here)
]
  where
    only : {X : Type 0} (y x : X) → Has (y ∷ []) x → y ≡ x
    only y x (inl e) = e
    only y x (inr h) = absurd h

pub in_reverse : {X : Type 0} (xs : List X) (x : X) → Has xs x → Has (reverse xs) x
in_reverse [] x h = h
in_reverse (y ∷ ys) x (inl e) = subst (λ zs. Has zs x) (sym (reverse-append (y ∷ []) ys)) (has-append_right (reverse ys) (y ∷ []) x (inl e))
in_reverse (y ∷ ys) x (inr h) = subst (λ zs. Has zs x) (sym (reverse-append (y ∷ []) ys)) (has-append_left (reverse ys) (y ∷ []) x (in_reverse ys x h))

pub index_of : {X : Type 0} (xs : List X) (x : X) → Contains xs x → (k : ℕ) × (slice_get xs k ≡ Some x)
index_of xs x h = (h.0, slice_get-get_or xs h.0 x h.1 ∙ ap Some h.2)

pub at_index : {X : Type 0} (xs : List X) (k : ℕ) → k < length xs → (x : X) × (slice_get xs k ≡ Some x)
at_index [] k less = absurd (omega arith)
at_index (x ∷ xs) zero less = (x, refl)
at_index (x ∷ xs) (suc k) less = at_index xs k (omega arith)

pub within_take : {X : Type 0} (n : ℕ) (xs : List X) (k : ℕ) (x : X) → slice_get (take n xs) k ≡ Some x → k < n
within_take zero xs k x e = absurd (none_is_some x e)
within_take (suc n) [] k x e = absurd (none_is_some x e)
within_take (suc n) (y ∷ ys) zero x e = omega arith
within_take (suc n) (y ∷ ys) (suc k) x e = let rest = within_take n ys k x e in omega arith

pub pair_of : {X : Type 0} (R : X → X → Type 0) (xs : List X) → AllPairs R xs → (i j : ℕ) (a b : X) → i < j → slice_get xs i ≡ Some a → slice_get xs j ≡ Some b → R a b
pair_of R xs all i j a b before at_i at_j =
    subst (λ x. R a x) (get_or_from_slice_get xs j b a at_j) (subst (λ x. R x (get_or xs j a)) (get_or_from_slice_get xs i a a at_i) (all i j a before (slice_get_within xs j b at_j)))

-- ---- none, by a test, and numbers

pub in_none : {X : Type 0} (x : X) → Contains [] x → ⊥
in_none x h = has [] x h

first_passes : {X : Type 0} (test : X → Bool) (x y : X) (b : Bool) (rest : Option X) → test x ≡ b → (rest ≡ Some y → test y ≡ true)
    → cond b (Some x) rest ≡ Some y → test y ≡ true
first_passes test x y true rest is later e = subst (λ each. test each ≡ true) (some_is x y e) is
first_passes test x y false rest is later e = later e

pub found_passes : {X : Type 0} (test : X → Bool) (xs : List X) (x : X) → find test xs ≡ Some x → test x ≡ true
found_passes test [] x e = absurd (none_is_some x e)
found_passes test (y ∷ ys) x e = first_passes test y x (test y) (find test ys) refl (found_passes test ys x) e

pub in_range : (start count k : ℕ) → Has (range_with_len start count) k → (start ≤ k) × (k < start + count)
in_range start zero k known = absurd known
in_range start (suc count) k (inl same) = (omega arith, omega arith)
in_range start (suc count) k (inr known) =
    let rest = in_range (start + 1) count k known in (omega (arith, rest.0), omega (arith, rest.1))

pub from_range : (start count k : ℕ) → start ≤ k → k < start + count → Has (range_with_len start count) k
from_range start zero k low high = absurd (omega arith)
from_range start (suc count) k low high = elim (less_or_same start k low) [
  | inl less ↦ inr (from_range (start + 1) count k (omega arith) (omega arith))
  | inr same ↦ inl same
]
