-- What the keys of a map show, one after another.
use Rattle.file_table.proofs.Keys.{or_cases, or_left, or_right, true_or_false}
use Rattle.s3_model.specs.Maps.{MapOf}
use Rattle.shared_lemmas.proofs.Maps.{text_exact}
use Rattle.std.proofs.Common.{◌≡◌, ◌∙◌, ◌⊎◌, ◌++◌, ◌↔◌, ℕ, Bool, true, false, cond, filter, List, [], ◌∷◌, IsSome, Bor, String, map, string_bytes, refl, sym, ap, subst, inl, inr}
use Rattle.std.specs.Cmp.{eq_by_cmp_equiv}
use Rattle.std.specs.Cmp.Lexicographic.{slice_cmp, nat_list_cmp_total}
use Rattle.std.specs.FinMap.{contains_key-keys, get, keys}
use Rattle.std.specs.List.{list_any}
use Rattle.std.specs.Ordering.{eq_by_cmp, is_eq, nat_cmp}
use Rattle.std.specs.declared.cmp.Ordering.{Ordering}
use Rattle.std.specs.declared.cmp.Ordering.TheVariants.{Less, Equal, Greater}

-- some key shows what is asked for
abbrev pub Shown : (List ℕ → Type 0) → List (List ℕ) → Type 0
Shown Shows [] = ⊥
Shown Shows (key ∷ keys) = Shows key ⊎ Shown Shows keys

module _ (Shows : List ℕ → Type 0) (name : List ℕ) where
  shown_append : (keys : List (List ℕ)) (key : List ℕ) → Shown Shows (keys ++ key ∷ []) → Shown Shows keys ⊎ Shows key
  shown_append [] key (inl here) = inr here
  shown_append [] key (inr never) = absurd never
  shown_append (k ∷ keys) key (inl here) = inl (inl here)
  shown_append (k ∷ keys) key (inr later) = elim (shown_append keys key later) [ inl was ↦ inl (inr was) | inr last ↦ inr last ]

  shown_before : (keys : List (List ℕ)) (key : List ℕ) → Shown Shows keys → Shown Shows (keys ++ key ∷ [])
  shown_before [] key never = absurd never
  shown_before (k ∷ keys) key (inl here) = inl here
  shown_before (k ∷ keys) key (inr later) = inr (shown_before keys key later)

  shown_last : (keys : List (List ℕ)) (key : List ℕ) → Shows key → Shown Shows (keys ++ key ∷ [])
  shown_last [] key named = inl named
  shown_last (k ∷ keys) key named = inr (shown_last keys key named)

  -- one more key
  pub shown_more : (first now next : MapOf Unit) (keys : List (List ℕ)) (key : List ℕ)
      → IsSome (get now name) ↔ (IsSome (get first name) ⊎ Shown Shows keys)
      → IsSome (get next name) ↔ (IsSome (get now name) ⊎ Shows key)
      → IsSome (get next name) ↔ (IsSome (get first name) ⊎ Shown Shows (keys ++ key ∷ []))
  shown_more first now next keys key had adds = (there, back)
    where
      there : IsSome (get next name) → IsSome (get first name) ⊎ Shown Shows (keys ++ key ∷ [])
      there h = elim (adds.0 h) [
        | inr named ↦ inr (shown_last keys key named)
        | inl was ↦ elim (had.0 was) [ inl before ↦ inl before | inr shown ↦ inr (shown_before keys key shown) ]
      ]

      back : (IsSome (get first name) ⊎ Shown Shows (keys ++ key ∷ [])) → IsSome (get next name)
      back (inl before) = adds.1 (inl (had.1 (inl before)))
      back (inr shown) = elim (shown_append keys key shown) [ inl was ↦ adds.1 (inl (had.1 (inr was))) | inr last ↦ adds.1 (inr last) ]

  -- none at first
  pub shown_none : (first : MapOf Unit) → IsSome (get first name) ↔ (IsSome (get first name) ⊎ Shown Shows [])
  shown_none first = (λ h. inl h, λ h. elim h [ inl was ↦ was | inr never ↦ absurd never ])

  from_test : (o : Ordering) → is_eq o ≡ true → o ≡ Equal
  from_test Less e = absurd (cc)
  from_test Equal e = refl
  from_test Greater e = absurd (cc)

  shown_key : (ks : List (List ℕ)) → Shown Shows ks → (k : List ℕ) × (list_any (eq_by_cmp (slice_cmp nat_cmp) k) ks ≡ true) × Shows k
  shown_key [] never = absurd never
  shown_key (k ∷ ks) (inl here) = (k, or_left (eq_by_cmp (slice_cmp nat_cmp) k k) (list_any (eq_by_cmp (slice_cmp nat_cmp) k) ks) ((eq_by_cmp_equiv nat_list_cmp_total).refl k), here)
  shown_key (k ∷ ks) (inr later) = let found = shown_key ks later in (found.0, or_right (eq_by_cmp (slice_cmp nat_cmp) found.0 k) (list_any (eq_by_cmp (slice_cmp nat_cmp) found.0) ks) found.1, found.2)

  kept_shown : (test : List ℕ → Bool) (ks : List (List ℕ)) → Shown Shows (filter test ks) → Shown Shows ks
  kept_shown test [] never = absurd never
  kept_shown test (k ∷ ks) shown = by (test k) shown (λ h. kept_shown test ks h)
    where
      by : (b : Bool) → Shown Shows (cond b (k ∷ filter test ks) (filter test ks)) → (Shown Shows (filter test ks) → Shown Shows ks) → Shown Shows (k ∷ ks)
      by true (inl here) rest = inl here
      by true (inr later) rest = inr (rest later)
      by false later rest = inr (rest later)

  shown_kept : (test : List ℕ → Bool) → ((key : List ℕ) → Shows key → test key ≡ true) → (ks : List (List ℕ)) → Shown Shows ks → Shown Shows (filter test ks)
  shown_kept test only [] never = absurd never
  shown_kept test only (k ∷ ks) shown = by (test k) refl shown (λ h. shown_kept test only ks h)
    where
      by : (b : Bool) → test k ≡ b → Shown Shows (k ∷ ks) → (Shown Shows ks → Shown Shows (filter test ks)) → Shown Shows (cond b (k ∷ filter test ks) (filter test ks))
      by true is (inl here) rest = inl here
      by true is (inr later) rest = inr (rest later)
      by false is (inl here) rest = absurd (true_or_false (test k) (only k here) is)
      by false is (inr later) rest = rest later

  key_shown : (ks : List (List ℕ)) (k : List ℕ) → list_any (eq_by_cmp (slice_cmp nat_cmp) k) ks ≡ true → Shows k → Shown Shows ks
  key_shown [] k h named = absurd (cc)
  key_shown (x ∷ ks) k h named =
      elim (or_cases (eq_by_cmp (slice_cmp nat_cmp) k x) (list_any (eq_by_cmp (slice_cmp nat_cmp) k) ks) h) [
        | inl here ↦ inl (subst Shows (text_exact k x (from_test _ here)) named)
        | inr later ↦ inr (key_shown ks k later named)
      ]

  -- all keys of a map that pass a test, where no other shows it
  pub shown_all : {V : Type 0} (m : MapOf V) (test : List ℕ → Bool) → ((key : List ℕ) → Shows key → test key ≡ true) → (first last : MapOf Unit)
      → IsSome (get last name) ↔ (IsSome (get first name) ⊎ Shown Shows (filter test (keys m))) → IsSome (get last name) ↔ (IsSome (get first name) ⊎ ((key : List ℕ) × IsSome (get m key) × Shows key))
  shown_all m test only first last had = (there, back)
    where
      there : IsSome (get last name) → IsSome (get first name) ⊎ ((key : List ℕ) × IsSome (get m key) × Shows key)
      there h = elim (had.0 h) [
        | inl was ↦ inl was
        | inr shown ↦ let found = shown_key (keys m) (kept_shown test (keys m) shown) in inr (found.0, contains_key-keys m found.0 ∙ found.1, found.2)
      ]

      back : (IsSome (get first name) ⊎ ((key : List ℕ) × IsSome (get m key) × Shows key)) → IsSome (get last name)
      back (inl was) = had.1 (inl was)
      back (inr (key, some, shows)) = had.1 (inr (shown_kept test only (keys m) (key_shown (keys m) key (sym (contains_key-keys m key) ∙ some) shows)))

  -- the keys were taken one after another
  pub shown_grown : (first now next : MapOf Unit) (keys grown : List (List ℕ)) (key : List ℕ) → grown ≡ keys ++ key ∷ []
      → IsSome (get now name) ↔ (IsSome (get first name) ⊎ Shown Shows keys)
      → IsSome (get next name) ↔ (IsSome (get now name) ⊎ Shows key)
      → IsSome (get next name) ↔ (IsSome (get first name) ⊎ Shown Shows grown)
  shown_grown first now next keys grown key is had adds = subst (λ (ks : List (List ℕ)). IsSome (get next name) ↔ (IsSome (get first name) ⊎ Shown Shows ks)) (sym is) (shown_more first now next keys key had adds)

-- the texts of the keys that an iterator over a map has yielded with their values
abbrev pub text_in : {Y V : Type 0} → Bor (String Y) × Bor V → List ℕ
text_in x = string_bytes x.0.now

pub entry_texts : {Y V : Type 0} (xs : List (Bor (String Y) × Bor V)) → map text_in xs ≡ map (λ (e : String Y × V). string_bytes e.0) (map (λ (x : Bor (String Y) × Bor V). (x.0.now, x.1.now)) xs)
entry_texts [] = refl
entry_texts (x ∷ xs) = ap (λ (ks : List (List ℕ)). text_in x ∷ ks) (entry_texts xs)

pub entry_texts_grown : {Y V : Type 0} (xs : List (Bor (String Y) × Bor V)) (x : Bor (String Y) × Bor V) → map text_in (xs ++ x ∷ []) ≡ map text_in xs ++ text_in x ∷ []
entry_texts_grown [] x = refl
entry_texts_grown (y ∷ xs) x = ap (λ (ks : List (List ℕ)). text_in y ∷ ks) (entry_texts_grown xs x)
