-- Lists by their first member, and lists that are equal.
use Rattle.std.proofs.Common.{◌+◌, ℕ, nat_eq, ◌≡◌, ◌≢◌, ◌∙◌, ◌≤◌, ◌==◌, true, false, List, [], ◌∷◌, ◌++◌, length, map, ap, sym, refl, arith}
use Rattle.std.specs.Cmp.{nat_eq_equiv}
use Rattle.std.specs.List.{starts_with}
use Rattle.std.proofs.lemmas.Bool.{and_from, eq-eqb, eqb-true, false≢true}
use Rattle.std.proofs.lemmas.List.{length-append, nil_from_length}

pub head_is : {X : Type 0} (x y : X) (xs ys : List X) → x ∷ xs ≡ y ∷ ys → x ≡ y
head_is x y xs ys e = cc

pub tail_is : {X : Type 0} (x y : X) (xs ys : List X) → x ∷ xs ≡ y ∷ ys → xs ≡ ys
tail_is x y xs ys e = cc

pub cons_is : {X : Type 0} (x y : X) (xs ys : List X) → x ≡ y → xs ≡ ys → x ∷ xs ≡ y ∷ ys
cons_is x y xs ys p q = cc

pub no_cons : {X : Type 0} (x : X) (xs : List X) → x ∷ xs ≡ [] → ⊥
no_cons x xs e = cc

pub no_middle : {X : Type 0} (front : List X) (x : X) (back : List X) → [] ≡ front ++ x ∷ back → ⊥
no_middle [] x back e = cc
no_middle (y ∷ front) x back e = cc

pub no_nil : {X : Type 0} (x : X) (xs : List X) → [] ≡ x ∷ xs → ⊥
no_nil x xs e = cc

pub cons_parts : {X : Type 0} (x y : X) (xs ys : List X) → x ∷ xs ≡ y ∷ ys → (x ≡ y) × (xs ≡ ys)
cons_parts x y xs ys e = (cc, cc)

pub map_none : {X Y : Type 0} (f : X → Y) (xs : List X) → map f xs ≡ [] → xs ≡ []
map_none f [] e = refl
map_none f (x ∷ xs) e = absurd (no_cons (f x) (map f xs) e)

pub none_from_most : {X : Type 0} (xs : List X) → length xs ≤ 0 → xs ≡ []
none_from_most xs h = nil_from_length xs (omega arith)

pub none_from_test : {X : Type 0} (xs : List X) → (length xs == 0) ≡ true → xs ≡ []
none_from_test xs e = nil_from_length xs (eqb-true (length xs) 0 e)

pub some_from_test : {X : Type 0} (xs : List X) → (length xs == 0) ≡ false → xs ≢ []
some_from_test xs e none = false≢true (sym e ∙ eq-eqb (length xs) 0 (ap length none))

pub starts_front : (front rest : List ℕ) → starts_with nat_eq (front ++ rest) front ≡ true
starts_front [] rest = refl
starts_front (x ∷ front) rest = and_from _ _ (nat_eq_equiv.refl x) (starts_front front rest)

pub one_longer : {X : Type 0} (front : List X) (x : X) (n : ℕ) → length front ≡ n → length (front ++ x ∷ []) ≡ n + 1
one_longer front x n long = length-append front (x ∷ []) ∙ ap (λ (m : ℕ). m + 1) long
