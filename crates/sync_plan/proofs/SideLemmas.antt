-- The names of a side ascend where its entries do.
use Rattle.std.proofs.Common.{◌≡◌, ◌∙◌, ◌≤◌, ℕ, Bool, true, false, not, cond, List, [], ◌∷◌, ◌++◌, IsTrue, refl, sym, ap, length, drop, filter, map, nat_eq, arith}
use Rattle.std.specs.Cmp.Lexicographic.{slice_cmp}
use Rattle.std.specs.List.{AllByRecursion, starts_with}
use Rattle.std.specs.List.Sorted.{IsStrictlySortedBy}
use Rattle.std.specs.Ordering.{nat_cmp}
use Rattle.std.specs.declared.cmp.Ordering.TheVariants.{Less}
use Rattle.std.proofs.lemmas.List.Elements.{All-head, All-tail}
use Rattle.s3_model.specs.declared.places.Entry.{Entry}
use Rattle.s3_model.specs.declared.places.Place.{Place}
use Rattle.s3_model.specs.declared.places.Place.TheVariants as place
use Rattle.list_walk.specs.Pages.{AllBeginWith}
use Rattle.s3_model.specs.Entries.{IsAscending, keys_of}
use Rattle.merged_names.specs.Merging.{AllAbove, Ascend}
use Rattle.merged_names.proofs.Orders.{behind_prefix as ordered_behind}
use Rattle.sync_plan.specs.Errands.{AreEntries, behind, is_marker, named, names_of, relative}
use Rattle.sync_plan.proofs.PrefixLemmas.{behind_of, split}

module _ (of_place : Place) (front : List ℕ) where
  -- its key is the front and its relative path
  abbrev IsBehind : Entry → Type 0
  IsBehind entry = entry.key ≡ front ++ behind of_place entry.key

  same_order : (entry other : Entry) → IsBehind entry → IsBehind other → slice_cmp nat_cmp (behind of_place entry.key) (behind of_place other.key) ≡ slice_cmp nat_cmp entry.key other.key
  same_order entry other here there =
      sym (ordered_behind front (behind of_place entry.key) (behind of_place other.key))
      ∙ ap (λ (key : List ℕ). slice_cmp nat_cmp key (front ++ behind of_place other.key)) (sym here)
      ∙ ap (λ (key : List ℕ). slice_cmp nat_cmp entry.key key) (sym there)

  names_above : (entry : Entry) (entries : List Entry) → IsBehind entry → AllByRecursion IsBehind entries → AllByRecursion (λ key. slice_cmp nat_cmp entry.key key ≡ Less) (keys_of entries) → AllAbove (behind of_place entry.key) (names_of of_place true entries)
  unfolding names_of
  names_above entry [] here all above = tt
  names_above entry (next ∷ entries) here all above =
      elim (is_marker next) as (λ (b : Bool). AllAbove (behind of_place entry.key) (map (named of_place true) (cond (not b) (next ∷ filter (λ e. not (is_marker e)) entries) (filter (λ e. not (is_marker e)) entries)))) [
        | true ↦ names_above entry entries here all.1 above.1
        | false ↦ (same_order entry next here all.0 ∙ above.0, names_above entry entries here all.1 above.1)
      ]

  many_ascend : (entries : List Entry) → AllByRecursion IsBehind entries → IsAscending (keys_of entries) → Ascend (names_of of_place true entries)
  unfolding names_of IsStrictlySortedBy
  many_ascend [] all ascend = tt
  many_ascend (entry ∷ entries) all ascend =
      elim (is_marker entry) as (λ (b : Bool). Ascend (map (named of_place true) (cond (not b) (entry ∷ filter (λ e. not (is_marker e)) entries) (filter (λ e. not (is_marker e)) entries)))) [
        | true ↦ many_ascend entries all.1 ascend.1
        | false ↦ (names_above entry entries all.0 all.1 ascend.0, many_ascend entries all.1 ascend.1)
      ]

  -- the same with the folder markers
  all_above : (entry : Entry) (entries : List Entry) → IsBehind entry → AllByRecursion IsBehind entries → AllByRecursion (λ key. slice_cmp nat_cmp entry.key key ≡ Less) (keys_of entries) → AllAbove (behind of_place entry.key) (map (named of_place true) entries)
  all_above entry [] here all above = tt
  all_above entry (next ∷ entries) here all above = (same_order entry next here all.0 ∙ above.0, all_above entry entries here all.1 above.1)

  all_ascend : (entries : List Entry) → AllByRecursion IsBehind entries → IsAscending (keys_of entries) → Ascend (map (named of_place true) entries)
  unfolding IsStrictlySortedBy
  all_ascend [] all ascend = tt
  all_ascend (entry ∷ entries) all ascend = (all_above entry entries all.0 all.1 ascend.0, all_ascend entries all.1 ascend.1)

listed : (bucket prefix : List ℕ) (entries : List Entry) → AllBeginWith prefix (keys_of entries) → AllByRecursion (IsBehind (place.Object bucket prefix) prefix) entries
listed bucket prefix [] below = tt
listed bucket prefix (entry ∷ entries) below =
    let begun : starts_with nat_eq entry.key prefix ≡ true = All-head (λ (name : List ℕ). IsTrue (starts_with nat_eq name prefix)) entry.key (keys_of entries) below in
    let parts = split prefix entry.key begun in (
      parts ∙ ap (λ (rest : List ℕ). prefix ++ rest) (sym (behind_of prefix entry.key (drop (length prefix) entry.key) parts)),
      listed bucket prefix entries (All-tail (λ (name : List ℕ). IsTrue (starts_with nat_eq name prefix)) entry.key (keys_of entries) below),
    )

walked : (root : List ℕ) (entries : List Entry) → AllByRecursion (IsBehind (place.File root) []) entries
walked root [] = tt
walked root (entry ∷ entries) = (refl, walked root entries)

single_ascends : (of_place : Place) (entries : List Entry) → length entries ≤ 1 → Ascend (names_of of_place false entries)
unfolding names_of
single_ascends of_place [] one = tt
single_ascends of_place (entry ∷ []) one =
    elim (is_marker entry) as (λ (b : Bool). Ascend (map (named of_place false) (cond (not b) (entry ∷ []) []))) [ true ↦ tt | false ↦ (tt, tt) ]
single_ascends of_place (entry ∷ next ∷ entries) one = absurd (omega arith)

pub names_ascend : (of_place : Place) (many : Bool) (entries : List Entry) → AreEntries of_place many entries → Ascend (names_of of_place many entries)
names_ascend of_place false entries are = single_ascends of_place entries (are.single refl)
names_ascend (place.Object bucket prefix) true entries are = many_ascend (place.Object bucket prefix) prefix entries (listed bucket prefix entries are.below) are.ascending
names_ascend (place.File root) true entries are = many_ascend (place.File root) [] entries (walked root entries) are.ascending

pub no_names_ascend : (of_place : Place) (many : Bool) → Ascend (names_of of_place many [])
unfolding names_of
no_names_ascend of_place many = tt

single_name : (of_place : Place) (entries : List Entry) → length entries ≤ 1 → Ascend (map (named of_place false) entries)
single_name of_place [] one = tt
single_name of_place (entry ∷ []) one = (tt, tt)
single_name of_place (entry ∷ next ∷ entries) one = absurd (omega arith)

pub all_names_ascend : (of_place : Place) (many : Bool) (entries : List Entry) → AreEntries of_place many entries → Ascend (map (named of_place many) entries)
all_names_ascend of_place false entries are = single_name of_place entries (are.single refl)
all_names_ascend (place.Object bucket prefix) true entries are = all_ascend (place.Object bucket prefix) prefix entries (listed bucket prefix entries are.below) are.ascending
all_names_ascend (place.File root) true entries are = all_ascend (place.File root) [] entries (walked root entries) are.ascending

-- ---- the first entry of a side

pub no_entries : (of_place : Place) (many : Bool) (entries : List Entry) → length entries ≡ 0 → names_of of_place many entries ≡ []
unfolding names_of
no_entries of_place many [] e = refl
no_entries of_place many (entry ∷ entries) e = absurd (omega arith)

pub first_marker : (of_place : Place) (many : Bool) (entry : Entry) (later entries : List Entry) → entries ≡ entry ∷ later → is_marker entry ≡ true → names_of of_place many entries ≡ names_of of_place many later
unfolding names_of
first_marker of_place many entry later entries e marked =
    ap (names_of of_place many) e
    ∙ ap (λ (b : Bool). map (named of_place many) (cond (not b) (entry ∷ filter (λ e. not (is_marker e)) later) (filter (λ e. not (is_marker e)) later))) marked

pub first_name : (of_place : Place) (many : Bool) (entry : Entry) (later entries : List Entry) (path : List ℕ) → entries ≡ entry ∷ later → is_marker entry ≡ false → path ≡ relative of_place many entry
    → names_of of_place many entries ≡ (path, entry) ∷ names_of of_place many later
unfolding names_of
first_name of_place many entry later entries path e plain is_path =
    ap (names_of of_place many) e
    ∙ ap (λ (b : Bool). map (named of_place many) (cond (not b) (entry ∷ filter (λ e. not (is_marker e)) later) (filter (λ e. not (is_marker e)) later))) plain
    ∙ ap (λ (p : List ℕ). (p, entry) ∷ names_of of_place many later) (sym is_path)
