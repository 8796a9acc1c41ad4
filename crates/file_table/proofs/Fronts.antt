-- The folders of a path, by its fronts that end before a `/`.
use Rattle.file_table.proofs.Keys.{decided}
use Rattle.std.proofs.Common.{◌≡◌, ◌∙◌, ◌⊎◌, ◌++◌, ℕ, Bool, true, false, List, [], ◌∷◌, drop, nat_eq, if◌then◌else◌, refl, sym, ap, inl, inr}
use Rattle.std.specs.Cmp.{nat_eq_equiv}
use Rattle.std.specs.List.{starts_with}
use Rattle.std.proofs.lemmas.Bool.{and_parts, and_from, eqb-true}
use Rattle.std.proofs.lemmas.List.{append_assoc, append_cancel_left}
use Rattle.s3_model.specs.Files.{ends_in_slash, folder_path, is_below}

starts_split : (path front : List ℕ) → starts_with nat_eq path front ≡ true → (rest : List ℕ) × (path ≡ front ++ rest)
starts_split path [] h = (path, refl)
starts_split [] (f ∷ front) h = absurd (cc)
starts_split (p ∷ path) (f ∷ front) h =
    let parts = and_parts (nat_eq f p) (starts_with nat_eq path front) h in
    let below = starts_split path front parts.1 in
    (below.0, ap (λ (b : ℕ). b ∷ path) (sym (eqb-true _ _ parts.0)) ∙ ap (λ (bytes : List ℕ). f ∷ bytes) below.1)

pub starts_front : (front rest : List ℕ) → starts_with nat_eq (front ++ rest) front ≡ true
starts_front [] rest = refl
starts_front (f ∷ front) rest = and_from _ _ (nat_eq_equiv.refl f) (starts_front front rest)

pub ends_split : (path : List ℕ) → ends_in_slash path ≡ true → (front : List ℕ) × (path ≡ front ++ 47 ∷ [])
ends_split [] h = absurd (cc)
ends_split (b ∷ []) h = ([], ap (λ (x : ℕ). x ∷ []) (eqb-true _ _ h))
ends_split (b ∷ next ∷ rest) h = let found = ends_split (next ∷ rest) h in (b ∷ found.0, ap (λ (bytes : List ℕ). b ∷ bytes) found.1)

pub ends_slash : (front : List ℕ) → ends_in_slash (front ++ 47 ∷ []) ≡ true
ends_slash [] = refl
ends_slash (b ∷ []) = refl
ends_slash (b ∷ next ∷ front) = ends_slash (next ∷ front)

pub path_by : (folder : List ℕ) (ends : Bool) → ends_in_slash folder ≡ ends → folder_path folder ≡ (if ends then folder else (folder ++ 47 ∷ []))
path_by folder ends e = ap (λ (b : Bool). if b then folder else (folder ++ 47 ∷ [])) e

-- a path goes on from a folder's path, and so from a front of its own that ends before a `/`
pub below_cases : (folder path : List ℕ) → is_below folder path ≡ true
    → (front : List ℕ) × (back : List ℕ) × (path ≡ front ++ 47 ∷ back) × ((folder ≡ front) ⊎ (folder ≡ front ++ 47 ∷ []))
below_cases folder path below =
    elim (decided (ends_in_slash folder)) [
      | inl closed ↦
          let front = ends_split folder closed in
          let rest = starts_split path folder (sym (ap (starts_with nat_eq path) (path_by folder true closed)) ∙ below) in
          (front.0, rest.0, rest.1 ∙ ap (λ (bytes : List ℕ). bytes ++ rest.0) front.1 ∙ simp append_assoc, inr front.1)
      | inr unclosed ↦
          let rest = starts_split path (folder ++ 47 ∷ []) (sym (ap (starts_with nat_eq path) (path_by folder false unclosed)) ∙ below) in
          (folder, rest.0, rest.1 ∙ simp append_assoc, inl refl)
    ]

-- such a front, with its `/` and without, is a folder that the path lies below
pub slash_below : (front back : List ℕ) → is_below (front ++ 47 ∷ []) (front ++ 47 ∷ back) ≡ true
slash_below front back =
    ap (starts_with nat_eq (front ++ 47 ∷ back)) (path_by (front ++ 47 ∷ []) true (ends_slash front))
    ∙ ap (λ (bytes : List ℕ). starts_with nat_eq bytes (front ++ 47 ∷ [])) (sym (simp append_assoc))
    ∙ starts_front (front ++ 47 ∷ []) back

pub front_below : (front back : List ℕ) → is_below front (front ++ 47 ∷ back) ≡ true
front_below front back =
    elim (decided (ends_in_slash front)) [
      | inl closed ↦ ap (starts_with nat_eq (front ++ 47 ∷ back)) (path_by front true closed) ∙ starts_front front (47 ∷ back)
      | inr unclosed ↦
          ap (starts_with nat_eq (front ++ 47 ∷ back)) (path_by front false unclosed)
          ∙ ap (λ (bytes : List ℕ). starts_with nat_eq bytes (front ++ 47 ∷ [])) (sym (simp append_assoc))
          ∙ starts_front (front ++ 47 ∷ []) back
    ]

-- a path that does not go on from a folder's path
pub path_not : (folder path rest : List ℕ) (n : ℕ) → path ≡ folder ++ drop n path → rest ≡ drop n path → ends_in_slash folder ≡ false → ((r : List ℕ) → rest ≡ 47 ∷ r → ⊥)
    → (r : List ℕ) → path ≡ folder_path folder ++ r → ⊥
path_not folder path rest n split is unclosed never r below =
    never r (append_cancel_left folder rest (47 ∷ r) (ap (λ (bytes : List ℕ). folder ++ bytes) is ∙ sym split ∙ below ∙ ap (λ (bytes : List ℕ). bytes ++ r) (path_by folder false unclosed) ∙ append_assoc folder (47 ∷ []) r))
