-- Maps from texts after a change, and whether some key passes a test.
use Rattle.shared_lemmas.proofs.Maps.{text_decided, text_exact, get-insert_same, get-insert_other, get-remove_same, get-remove_other}
use Rattle.std.proofs.Common.{◌≡◌, ◌∙◌, ◌⊎◌, ◌||◌, ℕ, Bool, true, false, List, [], ◌∷◌, Some, None, refl, sym, ap, subst, inl, inr}
use Rattle.std.specs.Cmp.{eq_by_cmp_equiv}
use Rattle.std.specs.Cmp.Lexicographic.{slice_cmp, nat_list_cmp_total}
use Rattle.std.specs.FinMap.{contains_key-keys, get, insert, keys, remove, same_map}
use Rattle.std.specs.List.{list_any}
use Rattle.std.specs.Option.{is_some}
use Rattle.std.specs.Ordering.{eq_by_cmp, is_eq, nat_cmp}
use Rattle.std.specs.declared.cmp.Ordering.{Ordering}
use Rattle.std.specs.declared.cmp.Ordering.TheVariants.{Less, Equal, Greater}
use Rattle.s3_model.specs.Maps.{MapOf}

-- ---- truth values

pub same_truth : (a b : Bool) → (a ≡ true → b ≡ true) → (b ≡ true → a ≡ true) → a ≡ b
same_truth true true f g = refl
same_truth true false f g = sym (f refl)
same_truth false true f g = g refl
same_truth false false f g = refl

pub or_left : (a b : Bool) → a ≡ true → (a || b) ≡ true
or_left true b h = refl
or_left false b h = absurd (cc)

pub or_right : (a b : Bool) → b ≡ true → (a || b) ≡ true
or_right true b h = refl
or_right false b h = h

pub or_cases : (a b : Bool) → (a || b) ≡ true → (a ≡ true) ⊎ (b ≡ true)
or_cases true b h = inl refl
or_cases false b h = inr h

pub or_assoc : (a b c : Bool) → ((a || b) || c) ≡ (a || (b || c))
or_assoc true b c = refl
or_assoc false b c = refl

pub true_or_false : (b : Bool) → b ≡ true → b ≡ false → ⊥
true_or_false b t f = cc

pub decided : (b : Bool) → (b ≡ true) ⊎ (b ≡ false)
decided true = inl refl
decided false = inr refl

-- ---- keys

equal_from_test : (o : Ordering) → is_eq o ≡ true → o ≡ Equal
equal_from_test Less e = absurd (cc)
equal_from_test Equal e = refl
equal_from_test Greater e = absurd (cc)

text_same : (q k : List ℕ) → eq_by_cmp (slice_cmp nat_cmp) q k ≡ true → q ≡ k
text_same q k e = text_exact q k (equal_from_test _ e)

held_any : (p : List ℕ → Bool) (q : List ℕ) (ks : List (List ℕ)) → list_any (eq_by_cmp (slice_cmp nat_cmp) q) ks ≡ true → p q ≡ true → list_any p ks ≡ true
held_any p q [] h pq = absurd (cc)
held_any p q (k ∷ ks) h pq =
    elim (or_cases _ _ h) [
      | inl e ↦ or_left _ _ (subst (λ (x : List ℕ). p x ≡ true) (text_same q k e) pq)
      | inr rest ↦ or_right _ _ (held_any p q ks rest pq)
    ]

any_held : (p : List ℕ → Bool) (ks : List (List ℕ)) → list_any p ks ≡ true → (k : List ℕ) × (p k ≡ true) × (list_any (eq_by_cmp (slice_cmp nat_cmp) k) ks ≡ true)
any_held p [] h = absurd (cc)
any_held p (k ∷ ks) h =
    elim (or_cases _ _ h) [
      | inl e ↦ (k, e, or_left _ _ ((eq_by_cmp_equiv nat_list_cmp_total).refl k))
      | inr rest ↦ let found = any_held p ks rest in (found.0, found.1, or_right _ _ found.2)
    ]

module _ {V : Type 0} (p : List ℕ → Bool) where
  -- a key that passes
  pub any_key : (m : MapOf V) → list_any p (keys m) ≡ true → (k : List ℕ) × (p k ≡ true) × (is_some (get m k) ≡ true)
  any_key m h = let found = any_held p (keys m) h in (found.0, found.1, contains_key-keys m found.0 ∙ found.2)

  pub key_any : (m : MapOf V) (k : List ℕ) → is_some (get m k) ≡ true → p k ≡ true → list_any p (keys m) ≡ true
  key_any m k some pk = held_any p k (keys m) (sym (contains_key-keys m k) ∙ some) pk

  pub any-insert : (m : MapOf V) (k : List ℕ) (v : V) → list_any p (keys (insert m k v)) ≡ (p k || list_any p (keys m))
  any-insert m k v = same_truth _ _ there back
    where
      there : list_any p (keys (insert m k v)) ≡ true → (p k || list_any p (keys m)) ≡ true
      there h =
          let found = any_key (insert m k v) h in
          elim (text_decided found.0 k) [
            | inl same ↦ or_left _ _ (subst (λ (x : List ℕ). p x ≡ true) same found.1)
            | inr other ↦ or_right _ _ (key_any m found.0 (sym (ap is_some (get-insert_other nat_list_cmp_total text_exact m k v found.0 other)) ∙ found.2) found.1)
          ]

      still : (q : List ℕ) → is_some (get m q) ≡ true → is_some (get (insert m k v) q) ≡ true
      still q some =
          elim (text_decided q k) [
            | inl same ↦ ap (λ (x : List ℕ). is_some (get (insert m k v) x)) same ∙ ap is_some (get-insert_same nat_list_cmp_total text_exact m k v)
            | inr other ↦ ap is_some (get-insert_other nat_list_cmp_total text_exact m k v q other) ∙ some
          ]

      back : (p k || list_any p (keys m)) ≡ true → list_any p (keys (insert m k v)) ≡ true
      back h =
          elim (or_cases _ _ h) [
            | inl here ↦ key_any (insert m k v) k (ap is_some (get-insert_same nat_list_cmp_total text_exact m k v)) here
            | inr any ↦ let found = any_key m any in key_any (insert m k v) found.0 (still found.0 found.2) found.1
          ]

  pub any-remove : (m : MapOf V) (k : List ℕ) → p k ≡ false → list_any p (keys (remove m k)) ≡ list_any p (keys m)
  any-remove m k fails = same_truth _ _ there back
    where
      there : list_any p (keys (remove m k)) ≡ true → list_any p (keys m) ≡ true
      there h =
          let found = any_key (remove m k) h in
          elim (text_decided found.0 k) [
            | inl same ↦ absurd (true_or_false (p k) (subst (λ (x : List ℕ). p x ≡ true) same found.1) fails)
            | inr other ↦ key_any m found.0 (sym (ap is_some (get-remove_other nat_list_cmp_total text_exact m k found.0 other)) ∙ found.2) found.1
          ]

      back : list_any p (keys m) ≡ true → list_any p (keys (remove m k)) ≡ true
      back h =
          let found = any_key m h in
          elim (text_decided found.0 k) [
            | inl same ↦ absurd (true_or_false (p k) (subst (λ (x : List ℕ). p x ≡ true) same found.1) fails)
            | inr other ↦ key_any (remove m k) found.0 (ap is_some (get-remove_other nat_list_cmp_total text_exact m k found.0 other) ∙ found.2) found.1
          ]

-- ---- maps that answer alike

by_keys : {V : Type 0} (m n : MapOf V) → ((q : List ℕ) → get m q ≡ get n q) → m ≡ n
by_keys m n alike = same_map nat_list_cmp_total text_exact m n alike

module _ {V : Type 0} (m : MapOf V) (k : List ℕ) where
  in_same : (v : V) → get (insert m k v) k ≡ Some v
  in_same v = get-insert_same nat_list_cmp_total text_exact m k v

  at_key : (n o : MapOf V) → get n k ≡ get o k → ((q : List ℕ) → (q ≡ k → ⊥) → get n q ≡ get o q) → n ≡ o
  at_key n o here there =
      by_keys n o (λ (q : List ℕ). elim (text_decided q k) [
        | inl same ↦ ap (get n) same ∙ here ∙ sym (ap (get o) same)
        | inr other ↦ there q other
      ])

  -- the later of two values at a key stands
  pub insert_twice : (a b : V) → insert (insert m k a) k b ≡ insert m k b
  insert_twice a b =
      at_key _ _ (get-insert_same nat_list_cmp_total text_exact (insert m k a) k b ∙ sym (in_same b)) (λ q other.
      get-insert_other nat_list_cmp_total text_exact (insert m k a) k b q other
      ∙ get-insert_other nat_list_cmp_total text_exact m k a q other
      ∙ sym (get-insert_other nat_list_cmp_total text_exact m k b q other))

  -- the value that stood there is put back
  pub insert_back : (a v : V) → get m k ≡ Some v → insert (insert m k a) k v ≡ m
  insert_back a v was =
      at_key _ _ (get-insert_same nat_list_cmp_total text_exact (insert m k a) k v ∙ sym was) (λ q other.
      get-insert_other nat_list_cmp_total text_exact (insert m k a) k v q other
      ∙ get-insert_other nat_list_cmp_total text_exact m k a q other)

  pub insert_again : (v : V) → get m k ≡ Some v → insert m k v ≡ m
  insert_again v was = at_key _ _ (in_same v ∙ sym was) (λ q other. get-insert_other nat_list_cmp_total text_exact m k v q other)

  -- a key that was new is taken out
  pub remove_new : (v : V) → get m k ≡ None → remove (insert m k v) k ≡ m
  remove_new v was =
      at_key _ _ (get-remove_same nat_list_cmp_total text_exact (insert m k v) k ∙ sym was) (λ q other.
      get-remove_other nat_list_cmp_total text_exact (insert m k v) k q other
      ∙ get-insert_other nat_list_cmp_total text_exact m k v q other)

  -- a value that is taken out and put back
  pub rename_same : (v : V) → get m k ≡ Some v → insert (remove m k) k v ≡ m
  rename_same v was =
      at_key _ _ (get-insert_same nat_list_cmp_total text_exact (remove m k) k v ∙ sym was) (λ q other.
      get-insert_other nat_list_cmp_total text_exact (remove m k) k v q other
      ∙ get-remove_other nat_list_cmp_total text_exact m k q other)

  -- what stood at the destination of a renamed value does not matter
  pub rename_new : (temp : List ℕ) (e v : V) → insert (remove (insert m k e) temp) k v ≡ insert (remove m temp) k v
  rename_new temp e v =
      at_key _ _ (get-insert_same nat_list_cmp_total text_exact (remove (insert m k e) temp) k v ∙ sym (get-insert_same nat_list_cmp_total text_exact (remove m temp) k v)) (λ q other.
      get-insert_other nat_list_cmp_total text_exact (remove (insert m k e) temp) k v q other
      ∙ removed q other
      ∙ sym (get-insert_other nat_list_cmp_total text_exact (remove m temp) k v q other))
    where
      removed : (q : List ℕ) → (q ≡ k → ⊥) → get (remove (insert m k e) temp) q ≡ get (remove m temp) q
      removed q other =
          elim (text_decided q temp) [
            | inl same ↦ ap (get (remove (insert m k e) temp)) same ∙ get-remove_same nat_list_cmp_total text_exact (insert m k e) temp ∙ sym (get-remove_same nat_list_cmp_total text_exact m temp) ∙ sym (ap (get (remove m temp)) same)
            | inr apart ↦ get-remove_other nat_list_cmp_total text_exact (insert m k e) temp q apart
                ∙ get-insert_other nat_list_cmp_total text_exact m k e q other
                ∙ sym (get-remove_other nat_list_cmp_total text_exact m temp q apart)
          ]
