-- A list whose members have numbers of their own, in the order of these.
use Rattle.std.proofs.Common.{◌≡◌, ◌⊎◌, ◌<◌, ℕ, List, [], ◌∷◌, refl, subst, inl, inr, arith, get_or}
use Rattle.std.proofs.lemmas.List.Kept.{AllPairs-cons}
use Rattle.std.proofs.lemmas.List.Sorted.{IsPermutation-cons, IsPermutation-middle, IsPermutation-refl, IsPermutation-sym, IsPermutation-trans}
use Rattle.std.proofs.lemmas.Option.{slice_get-get_or}
use Rattle.std.specs.Prelude.{All, AllPairs, IsPermutation}
use Rattle.shared_lemmas.proofs.Members.{Has, has_at}

-- two numbers that differ
which : (m n : ℕ) → (m ≡ n → ⊥) → (m < n) ⊎ (n < m)
which m n apart = grind arith

none_below : (n : ℕ) → n < 0 → ⊥
none_below n l = absurd (omega arith)

less_trans : (k m n : ℕ) → k < m → m < n → k < n
less_trans k m n l h = omega arith

module _ {X : Type 0} (key : X → ℕ) where
  abbrev pub Apart : List X → Type 0
  Apart [] = Unit {0}
  Apart (x ∷ xs) = ((y : X) → Has xs y → key x ≡ key y → ⊥) × Apart xs

  abbrev pub Rise : List X → Type 0
  Rise [] = Unit {0}
  Rise (x ∷ xs) = ((y : X) → Has xs y → key x < key y) × Rise xs

  record With (x : X) (xs : List X) : Type 0 where
    all : List X
    is : IsPermutation (x ∷ xs) all
    rise : Rise all
    has : (y : X) → Has all y → (x ≡ y) ⊎ Has xs y

  swapped : (x z : X) (xs : List X) → IsPermutation (x ∷ z ∷ xs) (z ∷ x ∷ xs)
  swapped x z xs = IsPermutation-sym (z ∷ x ∷ xs) (x ∷ z ∷ xs) (IsPermutation-middle (z ∷ []) x xs)

  with : (x : X) (xs : List X) → Rise xs → ((y : X) → Has xs y → key x ≡ key y → ⊥) → With x xs
  with x [] rise apart = record { all = x ∷ []; is = IsPermutation-refl (x ∷ []); rise = ((λ y none. absurd none), tt); has = λ y h. h }
  with x (z ∷ xs) rise apart = elim (which (key x) (key z) (apart z (inl refl))) [
    | inl less ↦ record {
      all = x ∷ z ∷ xs;
      is = IsPermutation-refl (x ∷ z ∷ xs);
      rise = (below less, rise);
      has = λ y h. h;
    }
    | inr more ↦ let rest = with x xs rise.1 (λ y h. apart y (inr h)) in record {
      all = z ∷ rest.all;
      is = IsPermutation-trans (x ∷ z ∷ xs) (z ∷ x ∷ xs) (z ∷ rest.all) (swapped x z xs) (IsPermutation-cons z (x ∷ xs) rest.all rest.is);
      rise = ((λ y h. elim (rest.has y h) [ inl e ↦ subst (λ (w : X). key z < key w) e more | inr g ↦ rise.0 y g ]), rest.rise);
      has = λ y h. elim h [
        | inl e ↦ inr (inl e)
        | inr g ↦ elim (rest.has y g) [ inl e ↦ inl e | inr k ↦ inr (inr k) ]
      ];
    }
  ]
    where
      below : key x < key z → (y : X) → Has (z ∷ xs) y → key x < key y
      below less y (inl e) = subst (λ (w : X). key x < key w) e less
      below less y (inr h) = less_trans (key x) (key z) (key y) less (rise.0 y h)

  pub record Sorted (xs : List X) : Type 0 where
    pub all : List X
    pub is : IsPermutation xs all
    pub rise : Rise all
    pub has : (y : X) → Has all y → Has xs y

  pub sorted : (xs : List X) → Apart xs → Sorted xs
  sorted [] apart = record { all = []; is = IsPermutation-refl []; rise = tt; has = λ y h. h }
  sorted (x ∷ xs) apart =
      let rest = sorted xs apart.1 in
      let one = with x rest.all rest.rise (λ y h. apart.0 y (rest.has y h)) in
      record {
        all = one.all;
        is = IsPermutation-trans (x ∷ xs) (x ∷ rest.all) one.all (IsPermutation-cons x xs rest.all rest.is) one.is;
        rise = one.rise;
        has = λ y h. elim (one.has y h) [ inl e ↦ inl e | inr g ↦ inr (rest.has y g) ];
      }

  all_of : (P : X → Type 0) (xs : List X) → ((y : X) → Has xs y → P y) → All P xs
  all_of P xs each k d below = each (get_or xs k d) (has_at xs k (get_or xs k d) (slice_get-get_or xs k d below))

  pub pairs_of : (R : X → X → Type 0) (xs : List X) → Rise xs → ((x y : X) → Has xs x → Has xs y → key x < key y → R x y) → AllPairs R xs
  pairs_of R [] rise each = λ i j d less below. absurd (none_below j below)
  pairs_of R (x ∷ xs) rise each =
      AllPairs-cons R x xs (all_of (R x) xs (λ y h. each x y (inl refl) (inr h) (rise.0 y h))) (pairs_of R xs rise.1 (λ a b g h less. each a b (inr g) (inr h) less))
