-- Maps at one key: what is there after a change.
use Rattle.shared_lemmas.proofs.Clashes.{none_is_some, some_is}
use Rattle.shared_lemmas.proofs.Orders.{equal_from_test}
use Rattle.std.proofs.Common.{[], ◌≡◌, ◌∙◌, ◌⊎◌, ℕ, Bool, true, false, cond, List, Option, Some, None, refl, sym, ap, inl, inr}
use Rattle.std.proofs.lemmas.Bool.{cases_Bool}
use Rattle.std.proofs.lemmas.List.{nil_from_length}
use Rattle.std.proofs.lemmas.Cmp.{tied_itself}
use Rattle.std.proofs.lemmas.Map.Text.{is_eq-slice_cmp}
use Rattle.std.specs.Str.{bytes_eq}
use Rattle.std.specs.Prelude.{IsNone}
use Rattle.std.specs.Ordering.{eq_by_cmp, nat_cmp}
use Rattle.std.specs.declared.cmp.Ordering.{Ordering}
use Rattle.std.specs.declared.cmp.Ordering.TheVariants.{Less}
use Rattle.std.specs.Cmp.{IsTotalOrder, eq_by_cmp_equiv}
use Rattle.std.specs.Cmp.Lexicographic.{slice_cmp, nat_list_cmp_total}
use Rattle.std.specs.FinMap.{entries, len-entries, len-empty, FinMap, get, insert, remove, empty, get-insert, get-remove, get-empty, IsAntisymmetric, slice_cmp-IsAntisymmetric, nat_cmp-IsAntisymmetric}

-- nothing and something are never found at once
pub not_both : {V : Type 0} (found : Option V) (w : V) → found ≡ None → found ≡ Some w → ⊥
not_both found w none some = none_is_some w (sym none ∙ some)

pub nothing_is : {V : Type 0} (found : Option V) → IsNone found → found ≡ None
nothing_is None h = refl
nothing_is (Some w) h = cc

pub is_nothing : {V : Type 0} (found : Option V) → found ≡ None → IsNone found
is_nothing None e = refl
is_nothing (Some w) e = absurd (none_is_some w (sym e))

pub found_in_empty : {K V : Type 0} (R : K → K → Ordering) (q : K) (w : V) → get (empty {X = V} {R = R}) q ≡ Some w → ⊥
found_in_empty R q w e = none_is_some w (sym (get-empty R q) ∙ e)

pub entries-empty : {K V : Type 0} (R : K → K → Ordering) → entries (empty {X = V} {R = R}) ≡ []
entries-empty {K} {V} R = nil_from_length _ (sym (len-entries (empty {X = V} {R = R})) ∙ len-empty R V)

module _ {K : Type 0} {R : K → K → Ordering} (total : IsTotalOrder R) (exact : IsAntisymmetric R) where
  -- two keys are one or differ
  pub key_decided : (x y : K) → (x ≡ y) ⊎ (x ≡ y → ⊥)
  key_decided x y = elim (cases_Bool (eq_by_cmp R x y)) [
    | inl e ↦ inl (exact x y (equal_from_test _ e))
    | inr e ↦ inr (λ same. let alike : eq_by_cmp R x y ≡ true = sym (ap (eq_by_cmp R x) same) ∙ (eq_by_cmp_equiv total).refl x in differ (eq_by_cmp R x y) alike e)
  ]
    where
      differ : (b : Bool) → b ≡ true → b ≡ false → ⊥
      differ b t f = cc

  pub other_key : (x y : K) → (x ≡ y → ⊥) → eq_by_cmp R x y ≡ false
  other_key x y apart = elim (cases_Bool (eq_by_cmp R x y)) [ inl e ↦ absurd (apart (exact x y (equal_from_test _ e))) | inr e ↦ e ]

  pub get-insert_same : {V : Type 0} (m : FinMap R V) (k : K) (v : V) → get (insert m k v) k ≡ Some v
  get-insert_same m k v = get-insert total m k v k ∙ ap (λ b. cond b (Some v) (get m k)) ((eq_by_cmp_equiv total).refl k)

  pub get-insert_other : {V : Type 0} (m : FinMap R V) (k : K) (v : V) (q : K) → (q ≡ k → ⊥) → get (insert m k v) q ≡ get m q
  get-insert_other m k v q apart = get-insert total m k v q ∙ ap (λ b. cond b (Some v) (get m q)) (other_key q k apart)

  pub get-remove_same : {V : Type 0} (m : FinMap R V) (k : K) → get (remove m k) k ≡ None
  get-remove_same m k = get-remove total m k k ∙ ap (λ b. cond b None (get m k)) ((eq_by_cmp_equiv total).refl k)

  pub get-remove_other : {V : Type 0} (m : FinMap R V) (k q : K) → (q ≡ k → ⊥) → get (remove m k) q ≡ get m q
  get-remove_other m k q apart = get-remove total m k q ∙ ap (λ b. cond b None (get m q)) (other_key q k apart)

  -- what stands at a key after an insertion is the new value, or what stood there
  pub found_after_insert : {V : Type 0} (m : FinMap R V) (k : K) (v : V) (q : K) (w : V) → get (insert m k v) q ≡ Some w → ((q ≡ k) × (v ≡ w)) ⊎ (get m q ≡ Some w)
  found_after_insert m k v q w e =
      elim (key_decided q k) [
        | inl same ↦ inl (same, some_is v w (sym (get-insert_same m k v) ∙ ap (get (insert m k v)) (sym same) ∙ e))
        | inr other ↦ inr (sym (get-insert_other m k v q other) ∙ e)
      ]

  -- what stands at a key after a removal stood there
  pub found_after_remove : {V : Type 0} (m : FinMap R V) (k q : K) (w : V) → get (remove m k) q ≡ Some w → get m q ≡ Some w
  found_after_remove m k q w e =
      elim (key_decided q k) [
        | inl same ↦ absurd (not_both (get (remove m k) q) w (ap (get (remove m k)) same ∙ get-remove_same m k) e)
        | inr other ↦ sym (get-remove_other m k q other) ∙ e
      ]

-- ---- keys that are texts

pub text_exact : IsAntisymmetric (slice_cmp nat_cmp)
text_exact = slice_cmp-IsAntisymmetric nat_cmp-IsAntisymmetric

pub text_decided : (x y : List ℕ) → (x ≡ y) ⊎ (x ≡ y → ⊥)
text_decided x y = key_decided nat_list_cmp_total text_exact x y

pub text_same : (x y : List ℕ) → eq_by_cmp (slice_cmp nat_cmp) x y ≡ true → x ≡ y
text_same x y e = text_exact x y (equal_from_test _ e)

pub same_bytes : (x y : List ℕ) → bytes_eq x y ≡ true → x ≡ y
same_bytes x y e = text_exact x y (equal_from_test _ (is_eq-slice_cmp x y ∙ e))

-- a text is not before itself
pub not_before_itself : (x : List ℕ) → slice_cmp nat_cmp x x ≡ Less → ⊥
not_before_itself x below = let tied = tied_itself nat_list_cmp_total x in absurd cc
