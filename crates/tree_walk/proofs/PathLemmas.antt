-- Paths of a tree.
use Rattle.shared_lemmas.proofs.Lists.{no_cons}
use Rattle.std.proofs.Common.{◌≡◌, ◌∙◌, ◌++◌, ◌≢◌, ◌==◌, ◌<◌, ◌||◌, ◌&&◌, ◌⊎◌, ℕ, Bool, true, false, not, List, [], ◌∷◌, length, refl, sym, ap, inl, inr, arith, if◌then◌else◌}
use Rattle.std.specs.List.{list_any}
use Rattle.std.proofs.lemmas.Bool.{eqb-true}
use Rattle.std.proofs.lemmas.List.{append_assoc, length-append}
use Rattle.s3_model.specs.Files.{ends_in_slash, folder_path}
use Rattle.local_files.specs.Names.{IsName}
use Rattle.tree_walk.specs.Trees.{bare, child, path_at, place_of}

-- ---- what the functions make

pub child_joined : (folder name : List ℕ) → (folder ≡ [] → ⊥) → folder ++ 47 ∷ name ≡ child folder name
child_joined [] name some = absurd (some refl)
child_joined (byte ∷ folder) name some = refl

pub child_bare : (folder name : List ℕ) → folder ≡ [] → name ≡ child folder name
child_bare [] name none = refl
child_bare (byte ∷ folder) name none = absurd (no_cons byte folder none)

pub place_bare : (root folder : List ℕ) → folder ≡ [] → bare root ≡ place_of root folder
place_bare root [] none = refl
place_bare root (byte ∷ folder) none = absurd (no_cons byte folder none)

pub place_below : (root folder : List ℕ) → (folder ≡ [] → ⊥) → path_at root folder ≡ place_of root folder
place_below root [] some = absurd (some refl)
place_below root (byte ∷ folder) some = refl

pub at_slash : (root below : List ℕ) → ends_in_slash root ≡ true → root ++ below ≡ path_at root below
at_slash root below ends = ap (λ (b : Bool). (if b then root else (root ++ 47 ∷ [])) ++ below) (sym ends)

pub at_none : (root below : List ℕ) → ends_in_slash root ≡ false → root ++ 47 ∷ below ≡ path_at root below
at_none root below ends = sym (append_assoc root (47 ∷ []) below) ∙ ap (λ (b : Bool). (if b then root else (root ++ 47 ∷ [])) ++ below) (sym ends)

-- ---- names do not end in `/`

first_false : (a b : Bool) → (a || b) ≡ false → a ≡ false
first_false true b h = h
first_false false b h = refl

second_false : (a b : Bool) → (a || b) ≡ false → b ≡ false
second_false true b h = absurd (cc)
second_false false b h = h

name_ends : (name : List ℕ) → list_any (λ (byte : ℕ). byte == 47) name ≡ false → ends_in_slash name ≡ false
name_ends [] none = refl
name_ends (byte ∷ []) none = first_false (byte == 47) false none
name_ends (byte ∷ next ∷ name) none = name_ends (next ∷ name) (second_false (byte == 47) _ none)

ends_append : (front back : List ℕ) → (back ≡ [] → ⊥) → ends_in_slash (front ++ back) ≡ ends_in_slash back
ends_append [] back some = refl
ends_append (byte ∷ []) [] some = absurd (some refl)
ends_append (byte ∷ []) (next ∷ back) some = refl
ends_append (byte ∷ next ∷ front) back some = ends_append (next ∷ front) back some

pub child_ends : (folder name : List ℕ) → IsName name → ends_in_slash (child folder name) ≡ false
child_ends [] name named = name_ends name named.1
child_ends (byte ∷ folder) name named =
    ends_append (byte ∷ folder) (47 ∷ name) (no_cons 47 name) ∙ ends_append (47 ∷ []) name named.0 ∙ name_ends name named.1

pub child_some : (folder name : List ℕ) → IsName name → child folder name ≡ [] → ⊥
child_some [] name named none = named.0 none
child_some (byte ∷ folder) name named none = no_cons byte (folder ++ 47 ∷ name) none

some_length : (name : List ℕ) → (name ≡ [] → ⊥) → 0 < length name
some_length [] some = absurd (some refl)
some_length (byte ∷ name) some = omega arith

pub child_longer : (folder name : List ℕ) → IsName name → length folder < length (child folder name)
child_longer [] name named = some_length name named.0
child_longer (byte ∷ folder) name named = let both = length-append (byte ∷ folder) (47 ∷ name) in omega arith

-- ---- the root without its final `/`

split_last : (root : List ℕ) → ends_in_slash root ≡ true → (front : List ℕ) × (root ≡ front ++ 47 ∷ [])
split_last [] h = absurd (cc)
split_last (byte ∷ []) h = ([], ap (λ (b : ℕ). b ∷ []) (eqb-true byte 47 h))
split_last (byte ∷ next ∷ root) h = let rest = split_last (next ∷ root) h in (byte ∷ rest.0, ap (λ (bytes : List ℕ). byte ∷ bytes) rest.1)

not_last : (byte : ℕ) → (byte == 47) ≡ false → (if (47 == 47) && not (byte == 47) then byte ∷ [] else byte ∷ 47 ∷ []) ≡ byte ∷ []
not_last byte other = ap (λ (b : Bool). if (47 == 47) && not b then byte ∷ [] else byte ∷ 47 ∷ []) other

pub bare_front : (front : List ℕ) → front ≢ [] → ends_in_slash front ≡ false → front ≡ bare (front ++ 47 ∷ [])
bare_front [] some open_end = absurd (some refl)
bare_front (byte ∷ []) some open_end = sym (not_last byte open_end)
bare_front (byte ∷ next ∷ []) some open_end = ap (λ (bytes : List ℕ). byte ∷ bytes) (bare_front (next ∷ []) (no_cons next []) open_end)
bare_front (byte ∷ next ∷ more ∷ front) some open_end = ap (λ (bytes : List ℕ). byte ∷ bytes) (bare_front (next ∷ more ∷ front) (no_cons next (more ∷ front)) open_end)

both_last : (byte : ℕ) → (byte == 47) ≡ true → (if (47 == 47) && not (byte == 47) then byte ∷ [] else byte ∷ 47 ∷ []) ≡ byte ∷ 47 ∷ []
both_last byte same = ap (λ (b : Bool). if (47 == 47) && not b then byte ∷ [] else byte ∷ 47 ∷ []) same

bare_double : (front : List ℕ) → ends_in_slash front ≡ true → front ++ 47 ∷ [] ≡ bare (front ++ 47 ∷ [])
bare_double [] closed = refl
bare_double (byte ∷ []) closed = sym (both_last byte closed)
bare_double (byte ∷ next ∷ []) closed = ap (λ (bytes : List ℕ). byte ∷ bytes) (bare_double (next ∷ []) closed)
bare_double (byte ∷ next ∷ more ∷ front) closed = ap (λ (bytes : List ℕ). byte ∷ bytes) (bare_double (next ∷ more ∷ front) closed)

other_last : (byte last : ℕ) → (last == 47) ≡ false → (if (last == 47) && not (byte == 47) then byte ∷ [] else byte ∷ last ∷ []) ≡ byte ∷ last ∷ []
other_last byte last other = ap (λ (b : Bool). if b && not (byte == 47) then byte ∷ [] else byte ∷ last ∷ []) other

bare_open : (root : List ℕ) → ends_in_slash root ≡ false → root ≡ bare root
bare_open [] open_end = refl
bare_open (byte ∷ []) open_end = refl
bare_open (byte ∷ last ∷ []) open_end = sym (other_last byte last open_end)
bare_open (byte ∷ next ∷ more ∷ root) open_end = ap (λ (bytes : List ℕ). byte ∷ bytes) (bare_open (next ∷ more ∷ root) open_end)

-- the root stays where nothing or another `/` stands before its final one, and where it has none
pub bare_stays : (root front : List ℕ) → root ≡ front ++ 47 ∷ [] → (front ≡ []) ⊎ (ends_in_slash front ≡ true) → root ≡ bare root
bare_stays root front is (inl none) = let alone = is ∙ ap (λ (bytes : List ℕ). bytes ++ 47 ∷ []) none in alone ∙ sym (ap bare alone)
bare_stays root front is (inr closed) = is ∙ bare_double front closed ∙ sym (ap bare is)

pub bare_goes : (root front : List ℕ) → root ≡ front ++ 47 ∷ [] → front ≢ [] → ends_in_slash front ≡ false → front ≡ bare root
bare_goes root front is some open_end = bare_front front some open_end ∙ sym (ap bare is)

pub bare_none : (root : List ℕ) → ((front : List ℕ) → root ≡ front ++ 47 ∷ [] → ⊥) → root ≡ bare root
bare_none root never = by (ends_in_slash root) refl
  where
    by : (b : Bool) → ends_in_slash root ≡ b → root ≡ bare root
    by true closed = let found = split_last root closed in absurd (never found.0 found.1)
    by false open_end = bare_open root open_end

ends_slash : (front : List ℕ) → ends_in_slash (front ++ 47 ∷ []) ≡ true
ends_slash [] = refl
ends_slash (byte ∷ []) = refl
ends_slash (byte ∷ next ∷ front) = ends_slash (next ∷ front)

pub path_ends : (path : List ℕ) → ends_in_slash path ≡ true → folder_path path ≡ path
path_ends path closed = ap (λ (b : Bool). if b then path else (path ++ 47 ∷ [])) closed

path_open : (path : List ℕ) → ends_in_slash path ≡ false → folder_path path ≡ path ++ 47 ∷ []
path_open path open_end = ap (λ (b : Bool). if b then path else (path ++ 47 ∷ [])) open_end

-- it is the same folder
bare_path : (root : List ℕ) → folder_path (bare root) ≡ folder_path root
bare_path root = by (ends_in_slash root) refl
  where
    front_path : (front : List ℕ) → (b : Bool) → ends_in_slash front ≡ b → front ≢ [] → root ≡ front ++ 47 ∷ [] → folder_path (bare root) ≡ folder_path root
    front_path front true closed some is = ap folder_path (sym (bare_stays root front is (inr closed)))
    front_path front false open_end some is =
        ap folder_path (sym (bare_goes root front is some open_end)) ∙ path_open front open_end ∙ sym is ∙ sym (path_ends root (ap ends_in_slash is ∙ ends_slash front))

    by_front : (front : List ℕ) → root ≡ front ++ 47 ∷ [] → folder_path (bare root) ≡ folder_path root
    by_front [] is = ap folder_path (sym (bare_stays root [] is (inl refl)))
    by_front (byte ∷ front) is = front_path (byte ∷ front) (ends_in_slash (byte ∷ front)) refl (no_cons byte front) is

    by : (b : Bool) → ends_in_slash root ≡ b → folder_path (bare root) ≡ folder_path root
    by true closed = let found = split_last root closed in by_front found.0 found.1
    by false open_end = ap folder_path (sym (bare_open root open_end))

-- ---- the path of a name in a folder

pub place_child : (root folder name : List ℕ) → ends_in_slash folder ≡ false → folder_path (place_of root folder) ++ name ≡ path_at root (child folder name)
place_child root [] name open_end = ap (λ (front : List ℕ). front ++ name) (bare_path root)
place_child root (byte ∷ folder) name open_end =
    sym (at_none (path_at root (byte ∷ folder)) name (ends_append (folder_path root) (byte ∷ folder) (no_cons byte folder) ∙ open_end))
    ∙ append_assoc (folder_path root) (byte ∷ folder) (47 ∷ name)

-- ---- empty texts

pub bytes_none : (bytes : List ℕ) → (length bytes == 0) ≡ true → bytes ≡ []
bytes_none [] none = refl
bytes_none (byte ∷ bytes) none = absurd (longer (eqb-true (length (byte ∷ bytes)) 0 none))
  where
    longer : length (byte ∷ bytes) ≡ 0 → ⊥
    longer e = omega arith

pub bytes_some : (bytes : List ℕ) → (length bytes == 0) ≡ false → bytes ≢ []
bytes_some bytes some none = true_false (sym (ap (λ (b : List ℕ). length b == 0) none) ∙ some)
  where
    true_false : true ≡ false → ⊥
    true_false e = cc
