-- Folders of a path that are listed one after another.
use Rattle.file_table.proofs.Fronts.{below_cases, front_below, slash_below}
use Rattle.file_table.proofs.Keys.{or_cases, or_left, or_right, same_truth}
use Rattle.std.proofs.Common.{◌≡◌, ◌∙◌, ◌⊎◌, ◌||◌, ◌++◌, ◌<◌, ◌+◌, ℕ, suc, Bool, true, false, cond, List, [], ◌∷◌, Option, Some, Result, Ok, Err, length, take, drop, get_or, refl, sym, ap, subst, inl, inr, arith}
use Rattle.std.specs.Str.{bytes_eq}
use Rattle.std.proofs.Math.Seq.{get_or-append_seam, split_at, take-append_seam}
use Rattle.std.proofs.lemmas.List.{length-append}
use Rattle.std.proofs.lemmas.Slice.Eq.{bytes_eq-Decides}
use Rattle.s3_model.specs.Files.{is_below, is_listed}
use Rattle.s3_model.specs.Maps.{MapOf}
use Rattle.text_maps.proofs.TextMaps.{same_test}
use Rattle.file_table.specs.Folders.{AddsFolders, IsIndex}
use Rattle.std.proofs.lemmas.List.Folds.{list_any-append}
use Rattle.std.specs.Cmp.Lexicographic.{slice_cmp, nat_list_cmp_total}
use Rattle.std.specs.FinMap.{empty, get, get-empty, get-insert, insert}
use Rattle.std.specs.Option.{is_some}
use Rattle.std.specs.Ordering.{nat_cmp}
use Rattle.std.specs.Prelude.{OnErr}

same_bytes : (x y : List ℕ) → bytes_eq x y ≡ true → x ≡ y
same_bytes x y h = (bytes_eq-Decides x y).0 h

eq_bytes : (x y : List ℕ) → x ≡ y → bytes_eq x y ≡ true
eq_bytes x y e = (bytes_eq-Decides x y).1 e

-- all that is listed in the end
pub listed_all : (path : List ℕ) (old new : List (List ℕ)) (size : ℕ) → size ≡ length path
    → ((f : List ℕ) → is_listed new f ≡ true → (is_below f path ≡ true) ⊎ (is_listed old f ≡ true))
    → ((f : List ℕ) → is_listed old f ≡ true → is_listed new f ≡ true)
    → ((front back : List ℕ) → path ≡ front ++ 47 ∷ back → length front < size → (is_listed new front ≡ true) × (is_listed new (front ++ 47 ∷ []) ≡ true))
    → (f : List ℕ) → is_listed new f ≡ (is_below f path || is_listed old f)
listed_all path old new size is only kept each f = same_truth (is_listed new f) (is_below f path || is_listed old f) there back
  where
    there : is_listed new f ≡ true → (is_below f path || is_listed old f) ≡ true
    there h = elim (only f h) [ inl below ↦ or_left (is_below f path) (is_listed old f) below | inr was ↦ or_right (is_below f path) (is_listed old f) was ]

    front_inside : (front rest : List ℕ) → path ≡ front ++ 47 ∷ rest → length front < size
    front_inside front rest e = let all = ap (λ (bytes : List ℕ). length bytes) e in let parts = length-append front (47 ∷ rest) in omega arith

    of_front : (front rest : List ℕ) → path ≡ front ++ 47 ∷ rest → (f ≡ front) ⊎ (f ≡ front ++ 47 ∷ []) → is_listed new f ≡ true
    of_front front rest e (inl same) = subst (λ (x : List ℕ). is_listed new x ≡ true) (sym same) (each front rest e (front_inside front rest e)).0
    of_front front rest e (inr same) = subst (λ (x : List ℕ). is_listed new x ≡ true) (sym same) (each front rest e (front_inside front rest e)).1

    back : (is_below f path || is_listed old f) ≡ true → is_listed new f ≡ true
    back h =
        elim (or_cases (is_below f path) (is_listed old f) h) [
          | inr was ↦ kept f was
          | inl below ↦ let found = below_cases f path below in of_front found.0 found.1 found.2 found.3
        ]

-- the front up to a place with a `/`
module _ (path : List ℕ) (at : ℕ) (inside : at < length path) (slash : get_or path at 0 ≡ 47) where
  split : path ≡ take at path ++ 47 ∷ drop (suc at) path
  split = split_at path at 0 inside ∙ ap (λ (b : ℕ). take at path ++ b ∷ drop (suc at) path) slash

  front_is : is_below (take at path) path ≡ true
  front_is = ap (λ (bytes : List ℕ). is_below (take at path) bytes) split ∙ front_below (take at path) (drop (suc at) path)

  slash_is : is_below (take at path ++ 47 ∷ []) path ≡ true
  slash_is = ap (λ (bytes : List ℕ). is_below (take at path ++ 47 ∷ []) bytes) split ∙ slash_below (take at path) (drop (suc at) path)

  -- without its `/` alone
  pub only_front : (old new : List (List ℕ)) → ((f : List ℕ) → is_listed new f ≡ (bytes_eq (take at path) f || is_listed old f)) → AddsFolders path old new
  only_front old new added = record {
    kept = λ f h. added f ∙ or_right (bytes_eq (take at path) f) (is_listed old f) h;
    only = λ f h. elim (or_cases (bytes_eq (take at path) f) (is_listed old f) (sym (added f) ∙ h)) [
      | inl same ↦ inl (ap (λ (x : List ℕ). is_below x path) (sym (same_bytes (take at path) f same)) ∙ front_is)
      | inr was ↦ inr was
    ];
  }

-- one more place with a `/`
module _ (path : List ℕ) (old now next : List (List ℕ)) (at : ℕ) (inside : at < length path) (slash : get_or path at 0 ≡ 47)
    (added : (f : List ℕ) → is_listed next f ≡ (bytes_eq (take at path ++ 47 ∷ []) f || bytes_eq (take at path) f || is_listed now f)) where
  abbrev long : List ℕ → Bool
  long f = bytes_eq (take at path ++ 47 ∷ []) f

  abbrev short : List ℕ → Bool
  short f = bytes_eq (take at path) f

  by_long : (f : List ℕ) → long f ≡ true → is_listed next f ≡ true
  by_long f h = added f ∙ or_left (long f || short f) (is_listed now f) (or_left (long f) (short f) h)

  by_short : (f : List ℕ) → short f ≡ true → is_listed next f ≡ true
  by_short f h = added f ∙ or_left (long f || short f) (is_listed now f) (or_right (long f) (short f) h)

  by_now : (f : List ℕ) → is_listed now f ≡ true → is_listed next f ≡ true
  by_now f h = added f ∙ or_right (long f || short f) (is_listed now f) h

  pub only_next : ((f : List ℕ) → is_listed now f ≡ true → (is_below f path ≡ true) ⊎ (is_listed old f ≡ true)) → (f : List ℕ) → is_listed next f ≡ true → (is_below f path ≡ true) ⊎ (is_listed old f ≡ true)
  only_next only f h =
      elim (or_cases (long f || short f) (is_listed now f) (sym (added f) ∙ h)) [
        | inr was ↦ only f was
        | inl either ↦ elim (or_cases (long f) (short f) either) [
          | inl same ↦ inl (ap (λ (x : List ℕ). is_below x path) (sym (same_bytes (take at path ++ 47 ∷ []) f same)) ∙ slash_is path at inside slash)
          | inr same ↦ inl (ap (λ (x : List ℕ). is_below x path) (sym (same_bytes (take at path) f same)) ∙ front_is path at inside slash)
        ]
      ]

  pub kept_next : ((f : List ℕ) → is_listed old f ≡ true → is_listed now f ≡ true) → (f : List ℕ) → is_listed old f ≡ true → is_listed next f ≡ true
  kept_next kept f h = by_now f (kept f h)

  pub each_next : ((front back : List ℕ) → path ≡ front ++ 47 ∷ back → length front < at → (is_listed now front ≡ true) × (is_listed now (front ++ 47 ∷ []) ≡ true))
      → (front back : List ℕ) → path ≡ front ++ 47 ∷ back → length front < at + 1 → (is_listed next front ≡ true) × (is_listed next (front ++ 47 ∷ []) ≡ true)
  each_next each front back e up_to =
      elim (less_or_here (length front) at up_to) [
        | inl earlier ↦ let both = each front back e earlier in (by_now front both.0, by_now (front ++ 47 ∷ []) both.1)
        | inr here ↦ (by_short front (eq_bytes (take at path) front (cut here)), by_long (front ++ 47 ∷ []) (eq_bytes (take at path ++ 47 ∷ []) (front ++ 47 ∷ []) (ap (λ (bytes : List ℕ). bytes ++ 47 ∷ []) (cut here))))
      ]
    where
      less_or_here : (n m : ℕ) → n < m + 1 → (n < m) ⊎ (n ≡ m)
      less_or_here n m h = grind arith

      cut : length front ≡ at → take at path ≡ front
      cut here = ap (λ (n : ℕ). take n path) (sym here) ∙ ap (λ (bytes : List ℕ). take (length front) bytes) e ∙ take-append_seam front (47 ∷ back)

-- one more place without
pub each_past : (path : List ℕ) (P : List ℕ → Type 0) (at : ℕ) → (get_or path at 0 ≡ 47 → ⊥)
    → ((front back : List ℕ) → path ≡ front ++ 47 ∷ back → length front < at → P front)
    → (front back : List ℕ) → path ≡ front ++ 47 ∷ back → length front < at + 1 → P front
each_past path P at other each front back e up_to =
    elim (less_or_here (length front) at up_to) [
      | inl earlier ↦ each front back e earlier
      | inr here ↦ absurd (other (ap (λ (n : ℕ). get_or path n 0) (sym here) ∙ ap (λ (bytes : List ℕ). get_or bytes (length front) 0) e ∙ get_or-append_seam front 47 back 0))
    ]
  where
    less_or_here : (n m : ℕ) → n < m + 1 → (n < m) ⊎ (n ≡ m)
    less_or_here n m h = grind arith

pub on_err : {A E : Type 0} {P Q : Type 0} (r : Result A E) → (P → Q) → OnErr r P → OnErr r Q
on_err (Ok a) f h = tt
on_err (Err e) f h = f h

-- ---- lists with an index

pub index_none : (paths : List (List ℕ)) (index : MapOf Unit) → paths ≡ [] → index ≡ empty → IsIndex paths index
index_none paths index none is path =
    ap (λ (m : MapOf Unit). is_some (get m path)) is ∙ ap (λ (o : Option Unit). is_some o) (get-empty (slice_cmp nat_cmp) path) ∙ ap (λ (ps : List (List ℕ)). is_listed ps path) (sym none)

pub index_pushed : (paths grown : List (List ℕ)) (index next : MapOf Unit) (path : List ℕ) (unit : Unit) → IsIndex paths index → next ≡ insert index path unit → grown ≡ paths ++ path ∷ [] → IsIndex grown next
index_pushed paths grown index next path unit was put is q =
    ap (λ (m : MapOf Unit). is_some (get m q)) put
    ∙ ap (λ (o : Option Unit). is_some o) (get-insert nat_list_cmp_total index path unit q)
    ∙ ap (λ (b : Bool). is_some (cond b (Some unit) (get index q))) (sym (same_test path q))
    ∙ by (bytes_eq path q)
    ∙ sym (list_any-append (λ (p : List ℕ). bytes_eq p q) paths (path ∷ []))
    ∙ ap (λ (ps : List (List ℕ)). is_listed ps q) (sym is)
  where
    or_false : (b : Bool) → (b || false) ≡ b
    or_false true = refl
    or_false false = refl

    by : (b : Bool) → is_some (cond b (Some unit) (get index q)) ≡ (is_listed paths q || (b || false))
    by true = sym (or_right (is_listed paths q) true refl)
    by false = was q ∙ sym (or_false (is_listed paths q))
