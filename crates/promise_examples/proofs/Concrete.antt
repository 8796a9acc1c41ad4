-- A statement on each member, place or cut of a list that is written out, from one component for each.
use Rattle.shared_lemmas.proofs.Lists.{head_is, tail_is}
use Rattle.std.proofs.Common.{◌≡◌, ◌++◌, ℕ, zero, suc, Bool, true, List, [], ◌∷◌, Some, subst, inl, inr, All, AllPairs, Contains, slice_get, filter, arith}
use Rattle.std.proofs.lemmas.List.Kept.{AllPairs-cons}
pub use Rattle.shared_lemmas.proofs.Clashes.{none_is_some, some_is}
pub use Rattle.shared_lemmas.proofs.Members.{Has, has, contains_of, has_middle}
use Rattle.shared_lemmas.proofs.Members.{has-filter, has_at}

-- ---- members

-- the member at a place
pub at : {X : Type 0} (xs : List X) (k : ℕ) (x : X) → slice_get xs k ≡ Some x → Contains xs x
at xs k x e = contains_of xs x (has_at xs k x e)

abbrev pub Each : {X : Type 0} → (X → Type 0) → List X → Type 0
Each P [] = Unit {0}
Each P (x ∷ xs) = P x × Each P xs

pub each_has : {X : Type 0} (P : X → Type 0) (xs : List X) → Each P xs → (x : X) → Has xs x → P x
each_has P [] all x h = absurd h
each_has P (y ∷ ys) all x (inl e) = subst P e all.0
each_has P (y ∷ ys) all x (inr h) = each_has P ys all.1 x h

pub each : {X : Type 0} (P : X → Type 0) (xs : List X) → Each P xs → (x : X) → Contains xs x → P x
each P xs all x known = each_has P xs all x (has xs x known)

-- ---- members that pass a test

-- what is said of those that pass is said of each that passes
pub each_passing : {X : Type 0} (test : X → Bool) (P : X → Type 0) (xs : List X) → Each P (filter test xs) → (x : X) → Contains xs x → test x ≡ true → P x
each_passing test P xs all x known e = each_has P (filter test xs) all x (has-filter test xs x e (has xs x known))

-- ---- places

abbrev pub Slots : {X : Type 0} → (ℕ → X → Type 0) → List X → Type 0
Slots P [] = Unit {0}
Slots P (x ∷ xs) = P 0 x × Slots (λ k. P (suc k)) xs

pub slot : {X : Type 0} (P : ℕ → X → Type 0) (xs : List X) → Slots P xs → (k : ℕ) (x : X) → slice_get xs k ≡ Some x → P k x
slot P [] all k x e = absurd (none_is_some x e)
slot P (y ∷ ys) all zero x e = subst (P 0) (some_is y x e) all.0
slot P (y ∷ ys) all (suc k) x e = slot (λ n. P (suc n)) ys all.1 k x e

-- ---- pairs

abbrev pub Pairs : {X : Type 0} → (X → X → Type 0) → List X → Type 0
Pairs R [] = Unit {0}
Pairs R (x ∷ xs) = Each (R x) xs × Pairs R xs

all_of : {X : Type 0} (P : X → Type 0) (xs : List X) → Each P xs → All P xs
all_of P [] all k d within = absurd (omega arith)
all_of P (y ∷ ys) all zero d within = all.0
all_of P (y ∷ ys) all (suc k) d within = all_of P ys all.1 k d (omega arith)

pub pairs : {X : Type 0} (R : X → X → Type 0) (xs : List X) → Pairs R xs → AllPairs R xs
pairs R [] all = λ i j d before within. absurd (omega arith)
pairs R (x ∷ xs) all = AllPairs-cons R x xs (all_of (R x) xs all.0) (pairs R xs all.1)

-- ---- cuts

nil_cons : {X : Type 0} (y : X) (ys : List X) → [] ≡ y ∷ ys → ⊥
nil_cons y ys e = cc

-- of what stands before a member, and of the member
abbrev pub Cuts : {X : Type 0} → (List X → X → Type 0) → List X → Type 0
Cuts P [] = Unit {0}
Cuts P (x ∷ xs) = P [] x × Cuts (λ front. P (x ∷ front)) xs

pub cut : {X : Type 0} (P : List X → X → Type 0) (xs : List X) → Cuts P xs → (front : List X) (x : X) (back : List X) → xs ≡ front ++ x ∷ back → P front x
cut P [] all [] x back e = absurd (nil_cons x back e)
cut P [] all (z ∷ front) x back e = absurd (nil_cons z (front ++ x ∷ back) e)
cut P (y ∷ ys) all [] x back e = subst (P []) (head_is y x ys back e) all.0
cut P (y ∷ ys) all (z ∷ front) x back e =
    subst (λ w. P (w ∷ front) x) (head_is y z ys (front ++ x ∷ back) e) (cut (λ f. P (y ∷ f)) ys all.1 front x back (tail_is y z ys (front ++ x ∷ back) e))

-- of each beginning
abbrev pub Fronts : {X : Type 0} → (List X → Type 0) → List X → Type 0
Fronts P [] = P []
Fronts P (x ∷ xs) = P [] × Fronts (λ front. P (x ∷ front)) xs

first_front : {X : Type 0} (P : List X → Type 0) (xs : List X) → Fronts P xs → P []
first_front P [] all = all
first_front P (x ∷ xs) all = all.0

pub front_of : {X : Type 0} (P : List X → Type 0) (xs : List X) → Fronts P xs → (front back : List X) → xs ≡ front ++ back → P front
front_of P xs all [] back e = first_front P xs all
front_of P [] all (z ∷ front) back e = absurd (nil_cons z (front ++ back) e)
front_of P (y ∷ ys) all (z ∷ front) back e = subst (λ w. P (w ∷ front)) (head_is y z ys (front ++ back) e) (front_of (λ f. P (y ∷ f)) ys all.1 front back (tail_is y z ys (front ++ back) e))

-- of each member and what stands behind it
abbrev pub Tails : {X : Type 0} → (X → List X → Type 0) → List X → Type 0
Tails P [] = Unit {0}
Tails P (x ∷ xs) = P x xs × Tails P xs

pub tail_at : {X : Type 0} (P : X → List X → Type 0) (xs : List X) → Tails P xs → (front : List X) (x : X) (back : List X) → xs ≡ front ++ x ∷ back → P x back
tail_at P [] all [] x back e = absurd (nil_cons x back e)
tail_at P [] all (z ∷ front) x back e = absurd (nil_cons z (front ++ x ∷ back) e)
tail_at P (y ∷ ys) all [] x back e = subst (λ w. P w back) (head_is y x ys back e) (subst (P y) (tail_is y x ys back e) all.0)
tail_at P (y ∷ ys) all (z ∷ front) x back e = tail_at P ys all.1 front x back (tail_is y z ys (front ++ x ∷ back) e)
