-- Keys that are cut behind a `/` stay in order.
use Rattle.std.proofs.Common.{◌≡◌, ◌∙◌, ◌⊎◌, ◌==◌, ◌+◌, ℕ, zero, suc, Bool, true, false, not, cond, List, [], ◌∷◌, Some, None, refl, sym, ap, subst, arith, inl, inr, drop, length, nat_lt, take}
use Rattle.std.specs.Cmp.{nat_cmp_is}
use Rattle.std.specs.Cmp.Lexicographic.{slice_cmp}
use Rattle.std.specs.FinMap.{nat_cmp-IsAntisymmetric}
use Rattle.std.specs.List.{position_or_len}
use Rattle.std.specs.Ordering.{nat_cmp, ordering_then}
use Rattle.std.specs.declared.cmp.Ordering.{Ordering}
use Rattle.std.specs.declared.cmp.Ordering.TheVariants.{Less, Equal, Greater}
use Rattle.std.proofs.lemmas.Bool.{ltb-false}
use Rattle.std.proofs.lemmas.List.{length-drop, take_all}
use Rattle.s3_service.specs.ServiceState.{Object}
use Rattle.s3_service.specs.Listing.{cut_at, name_of, text_of}

abbrev pub IsBelow : List ℕ → List ℕ → Type 0
IsBelow a b = slice_cmp nat_cmp a b ≡ Less

abbrev pub IsAtMost : List ℕ → List ℕ → Type 0
IsAtMost a b = (a ≡ b) ⊎ IsBelow a b

abbrev is_slash : ℕ → Bool
is_slash byte = byte == 47

-- a key up to the first `/` behind its first n bytes
abbrev cut : ℕ → List ℕ → List ℕ
cut zero [] = []
cut zero (x ∷ xs) = cond (is_slash x) (x ∷ []) (x ∷ cut zero xs)
cut (suc n) [] = []
cut (suc n) (x ∷ xs) = x ∷ cut n xs

-- ---- the same as the name's text

one_more : (n k : ℕ) (x : ℕ) (xs : List ℕ) → take (suc n + k + 1) (x ∷ xs) ≡ x ∷ take (n + k + 1) xs
one_more n k x xs = let e : suc n + k + 1 ≡ suc (n + k + 1) = omega arith in ap (λ (m : ℕ). take m (x ∷ xs)) e

take_one : (x : ℕ) (xs : List ℕ) → take 1 (x ∷ xs) ≡ x ∷ []
take_one x [] = refl
take_one x (y ∷ ys) = refl

-- where nothing stands in front
take_cut : (key : List ℕ) → take (position_or_len is_slash key + 1) key ≡ cut zero key
take_cut [] = refl
take_cut (x ∷ xs) = at_slash (is_slash x) (take_cut xs)
  where
    at_slash : (b : Bool) → take (position_or_len is_slash xs + 1) xs ≡ cut zero xs
        → take (cond (not b) (1 + position_or_len is_slash xs) 0 + 1) (x ∷ xs) ≡ cond b (x ∷ []) (x ∷ cut zero xs)
    at_slash true e = take_one x xs
    at_slash false e =
        let k : 1 + position_or_len is_slash xs + 1 ≡ suc (position_or_len is_slash xs + 1) = omega arith in
        ap (λ (m : ℕ). take m (x ∷ xs)) k ∙ ap (λ (ys : List ℕ). x ∷ ys) e

none_in_front : (k : ℕ) (key : List ℕ) → take (0 + k + 1) key ≡ take (k + 1) key
none_in_front k key = let e : 0 + k + 1 ≡ k + 1 = omega arith in ap (λ (m : ℕ). take m key) e

none_taken : (k : ℕ) → take {A = ℕ} k [] ≡ []
none_taken zero = refl
none_taken (suc k) = refl

cut-take : (n : ℕ) (key : List ℕ) → take (n + position_or_len is_slash (drop n key) + 1) key ≡ cut n key
cut-take zero [] = refl
cut-take zero (x ∷ xs) = none_in_front (position_or_len is_slash (x ∷ xs)) (x ∷ xs) ∙ take_cut (x ∷ xs)
cut-take (suc n) [] = none_taken (suc n + 0 + 1)
cut-take (suc n) (x ∷ xs) = one_more n (position_or_len is_slash (drop n xs)) x xs ∙ ap (λ (ys : List ℕ). x ∷ ys) (cut-take n xs)

cut_text : (n : ℕ) (entry : List ℕ × Object) (found : Bool) (k : ℕ) → nat_lt k (length (drop n entry.0)) ≡ found → text_of (cut_at n entry (cond found (Some k) None)) ≡ take (n + k + 1) entry.0
cut_text n entry true k e = refl
cut_text n entry false k e =
    let past = ltb-false _ _ e in
    let left = length-drop n entry.0 in
    sym (take_all (n + k + 1) entry.0 (omega (arith, past, left)))

pub text-cut : (prefix : List ℕ) (entry : List ℕ × Object) → text_of (name_of prefix true entry) ≡ cut (length prefix) entry.0
text-cut prefix entry =
    cut_text (length prefix) entry _ (position_or_len is_slash (drop (length prefix) entry.0)) refl ∙ cut-take (length prefix) entry.0

-- ---- in order

same_number : (x : ℕ) → nat_cmp x x ≡ Equal
same_number x = sym (nat_cmp_is x x Equal refl)

not_less : Greater ≡ Less → ⊥
not_less e = cc

below_cases : (x y : ℕ) (xs ys : List ℕ) → IsBelow (x ∷ xs) (y ∷ ys) → (nat_cmp x y ≡ Less) ⊎ ((x ≡ y) × IsBelow xs ys)
below_cases x y xs ys below = which (nat_cmp x y) refl below
  where
    which : (o : Ordering) → nat_cmp x y ≡ o → ordering_then o (slice_cmp nat_cmp xs ys) ≡ Less → (nat_cmp x y ≡ Less) ⊎ ((x ≡ y) × IsBelow xs ys)
    which Less e less = inl e
    which Equal e less = inr (nat_cmp-IsAntisymmetric x y e, less)
    which Greater e less = absurd (not_less less)

head_below : (x y : ℕ) (xs ys : List ℕ) → nat_cmp x y ≡ Less → IsBelow (x ∷ xs) (y ∷ ys)
head_below x y xs ys less = ap (λ (o : Ordering). ordering_then o (slice_cmp nat_cmp xs ys)) less

head_same : (x : ℕ) (xs ys : List ℕ) → IsAtMost xs ys → IsAtMost (x ∷ xs) (x ∷ ys)
head_same x xs ys (inl e) = inl (ap (λ (zs : List ℕ). x ∷ zs) e)
head_same x xs ys (inr below) = inr (ap (λ (o : Ordering). ordering_then o (slice_cmp nat_cmp xs ys)) (same_number x) ∙ below)

none_at_most : (xs : List ℕ) → IsAtMost [] xs
none_at_most [] = inl refl
none_at_most (x ∷ xs) = inr refl

-- what is cut begins as it did
begins : (x : ℕ) (xs : List ℕ) → (rest : List ℕ) × (cut zero (x ∷ xs) ≡ x ∷ rest)
begins x xs = which (is_slash x)
  where
    which : (b : Bool) → (rest : List ℕ) × (cond b (x ∷ []) (x ∷ cut zero xs) ≡ x ∷ rest)
    which true = ([], refl)
    which false = (cut zero xs, refl)

cut_same : (x : ℕ) (b : Bool) (xs ys : List ℕ) → IsAtMost xs ys → IsAtMost (cond b (x ∷ []) (x ∷ xs)) (cond b (x ∷ []) (x ∷ ys))
cut_same x true xs ys most = inl refl
cut_same x false xs ys most = head_same x xs ys most

no_less : (xs : List ℕ) → IsBelow xs [] → ⊥
no_less [] e = cc
no_less (x ∷ xs) e = cc

pub cut_at_most : (n : ℕ) (a b : List ℕ) → IsBelow a b → IsAtMost (cut n a) (cut n b)
cut_at_most zero [] b below = none_at_most (cut zero b)
cut_at_most zero (x ∷ xs) [] below = absurd (no_less (x ∷ xs) below)
cut_at_most zero (x ∷ xs) (y ∷ ys) below =
    elim (below_cases x y xs ys below) [
      | inl less ↦
          let first = begins x xs in
          let second = begins y ys in
          inr (ap (λ (us : List ℕ). slice_cmp nat_cmp us (cut zero (y ∷ ys))) first.1 ∙ ap (λ (vs : List ℕ). slice_cmp nat_cmp (x ∷ first.0) vs) second.1 ∙ head_below x y first.0 second.0 less)
      | inr same ↦
          subst (λ (z : ℕ). IsAtMost (cut zero (x ∷ xs)) (cut zero (z ∷ ys))) same.0 (cut_same x (is_slash x) (cut zero xs) (cut zero ys) (cut_at_most zero xs ys same.1))
    ]
cut_at_most (suc n) [] b below = none_at_most (cut (suc n) b)
cut_at_most (suc n) (x ∷ xs) [] below = absurd (no_less (x ∷ xs) below)
cut_at_most (suc n) (x ∷ xs) (y ∷ ys) below =
    elim (below_cases x y xs ys below) [
      | inl less ↦ inr (head_below x y (cut n xs) (cut n ys) less)
      | inr same ↦ subst (λ (z : ℕ). IsAtMost (x ∷ cut n xs) (z ∷ cut n ys)) same.0 (head_same x (cut n xs) (cut n ys) (cut_at_most n xs ys same.1))
    ]

-- the names of two keys stand as the keys do, or are one text
pub names_at_most : (prefix : List ℕ) (delimited : Bool) (a b : List ℕ × Object) → IsBelow a.0 b.0 → IsAtMost (text_of (name_of prefix delimited a)) (text_of (name_of prefix delimited b))
names_at_most prefix false a b below = inr below
names_at_most prefix true a b below =
    subst (λ (t : List ℕ). IsAtMost t (text_of (name_of prefix true b))) (sym (text-cut prefix a))
    (subst (λ (t : List ℕ). IsAtMost (cut (length prefix) a.0) t) (sym (text-cut prefix b)) (cut_at_most (length prefix) a.0 b.0 below))
