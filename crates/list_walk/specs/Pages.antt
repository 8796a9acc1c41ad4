-- What the pages of a listing give together, and why a page is refused (Amazon S3 API, ListObjectsV2).
use Rattle.std.specs.Prelude.{◌≡◌, ◌+◌, ◌-◌, ◌<◌, ◌≤◌, ◌==◌, ◌&&◌, ◌||◌, ◌++◌, ℕ, Bool, true, false, not, List, [], ◌∷◌}
use Rattle.std.specs.Prelude.{Option, Some, None, All, IsTrue, IsSome, fold, length, nat_eq, nat_lt, nat_le}
use Rattle.std.specs.Prelude.{slice_get, if◌then◌else◌}
use Rattle.std.specs.Cmp.Lexicographic.{slice_cmp}
use Rattle.std.specs.List.{starts_with}
use Rattle.std.specs.Option.{option_or, is_none}
use Rattle.std.specs.Ordering.{nat_cmp, is_lt}
use Rattle.s3_model.specs.Entries.{IsAscending, keys_of}
use Rattle.s3_model.specs.declared.answers.Listed.{Listed}
use Rattle.s3_model.specs.declared.faults.BadListing.{BadListing}
use Rattle.s3_model.specs.declared.faults.BadListing.TheVariants.{Order, Outside, NoToken, EmptyPages, TooMany}
use Rattle.s3_model.specs.declared.places.Entry.{Entry}
use Rattle.s3_model.specs.declared.requests.Ask.{Ask}
use Rattle.s3_model.specs.declared.requests.Ask.TheVariants as ask

abbrev pub AllBeginWith : List ℕ → List (List ℕ) → Type 0
AllBeginWith prefix names = All (λ name. IsTrue (starts_with nat_eq name prefix)) names

-- what pages have together; `empty` counts those at the end, in a row, that have no entry
pub record Gathered : Type 0 where
  pub entries : List Entry
  pub prefixes : List (List ℕ)
  pub empty : ℕ

abbrev pub nothing : Gathered
nothing = record { entries = []; prefixes = []; empty = 0 }

-- keys and prefixes alike count as entries
abbrev pub total_of : Gathered → ℕ
total_of gathered = length gathered.entries + length gathered.prefixes

abbrev pub count_of : Listed → ℕ
count_of page = length page.entries.items + length page.prefixes.items

abbrev pub gathered_with : Gathered → Listed → Gathered
gathered_with before page =
    record {
      entries = before.entries ++ page.entries.items;
      prefixes = before.prefixes ++ page.prefixes.items;
      empty = if count_of page == 0 then before.empty + 1 else 0;
    }

abbrev pub gathered_from : List Listed → Gathered
gathered_from pages = fold gathered_with nothing pages

-- ---- why a page is refused

abbrev pub last_of : List (List ℕ) → Option (List ℕ)
last_of names = slice_get names (length names - 1)

-- a name that is not above the one before it; one that does not begin with the prefix; either, in this order
abbrev pub order_fault : Option (List ℕ) → List ℕ → Option BadListing
order_fault None name = None
order_fault (Some before) name = if is_lt (slice_cmp nat_cmp before name) then None else Some (Order before name)

abbrev pub prefix_fault : List ℕ → List ℕ → Option BadListing
prefix_fault prefix name = if starts_with nat_eq name prefix then None else Some (Outside name)

abbrev pub name_fault : List ℕ → Option (List ℕ) → List ℕ → Option BadListing
name_fault prefix before name = option_or (order_fault before name) (prefix_fault prefix name)

-- the first such name of these, each behind the one before it
abbrev pub names_fault : List ℕ → Option (List ℕ) → List (List ℕ) → Option BadListing
names_fault prefix before [] = None
names_fault prefix before (name ∷ names) =
    option_or (name_fault prefix before name) (names_fault prefix (Some name) names)

-- the page as a whole: more and no token, 1,000 pages in a row without an entry, more than 1,000,000 entries
abbrev pub whole_fault : Gathered → Listed → Option BadListing
whole_fault before page =
    if page.more && is_none page.token then Some NoToken
    else (if nat_le 1000 (gathered_with before page).empty then Some EmptyPages
    else (if nat_lt 1000000 (total_of (gathered_with before page)) then Some TooMany else None))

abbrev pub keys_fault : List ℕ → Gathered → Listed → Option BadListing
keys_fault prefix before page = names_fault prefix (last_of (keys_of before.entries)) (keys_of page.entries.items)

abbrev pub prefixes_fault : List ℕ → Gathered → Listed → Option BadListing
prefixes_fault prefix before page = names_fault prefix (last_of before.prefixes) page.prefixes.items

-- The first refusal of a page of the listing of a prefix, behind what was gathered: its keys, its prefixes, the whole.
abbrev pub refusal_of : List ℕ → Gathered → Listed → Option BadListing
refusal_of prefix before page =
    option_or (keys_fault prefix before page) (option_or (prefixes_fault prefix before page) (whole_fault before page))

-- what pages that were taken have: names that ascend and begin with the prefix, within the limits
pub record IsSound (prefix : List ℕ) (gathered : Gathered) : Type 0 where
  pub keys_ascend : IsAscending (keys_of gathered.entries)
  pub keys_within : AllBeginWith prefix (keys_of gathered.entries)
  pub prefixes_ascend : IsAscending gathered.prefixes
  pub prefixes_within : AllBeginWith prefix gathered.prefixes
  pub few_empty : gathered.empty < 1000
  pub few_entries : total_of gathered ≤ 1000000

-- of these pages of the listing of that prefix the last is refused, behind those before it
abbrev pub IsRefusedPage : List ℕ → List Listed → Type 0
IsRefusedPage prefix pages =
    (before : List Listed) × (page : Listed) × (pages ≡ before ++ page ∷ [])
    × IsSome (refusal_of prefix (gathered_from before) page)

-- ---- the walk

-- the listing of a prefix in a bucket: what it gathered, the token of its last page, and whether it is over
pub record Walk : Type 0 where
  pub bucket : List ℕ
  pub prefix : List ℕ
  pub delimited : Bool
  pub gathered : Gathered
  pub token : Option (List ℕ)
  pub over : Bool

abbrev pub new_walk : List ℕ → List ℕ → Bool → Walk
new_walk bucket prefix delimited =
    record { bucket = bucket; prefix = prefix; delimited = delimited; gathered = nothing; token = None; over = false }

-- a page without more behind it is the last
abbrev pub with_page : Walk → Listed → Walk
with_page walk page =
    record walk { gathered = gathered_with walk.gathered page; token = page.token; over = walk.over || not page.more }

abbrev pub ended : Walk → Walk
ended walk = record walk { over = true }

abbrev pub next_ask : Walk → Option Ask
next_ask walk = if walk.over then None else Some (ask.List walk.bucket walk.prefix walk.delimited walk.token)
