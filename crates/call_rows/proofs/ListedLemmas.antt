use Rattle.std.proofs.Common.{◌≡◌, ◌≤◌, ℕ, Bool, true, false, List, Option, Some, None, subst, length}
use Rattle.list_walk.specs.Pages.{AllBeginWith}
use Rattle.s3_model.specs.Entries.{IsAscending, keys_of}
use Rattle.call_rows.specs.Sides.{IsListedAt, IsListedBy}
use Rattle.s3_model.specs.declared.places.Entry.{Entry}
use Rattle.s3_model.specs.declared.places.Place.{Place}
use Rattle.s3_model.specs.declared.places.Place.TheVariants as place
use Rattle.shared_lemmas.proofs.Clashes.{true_is_false}
use Rattle.sync_plan.specs.Errands.{AreBelow, AreEntries, AreEntriesAt}

-- what is listed by a place stands below it
pub listed_below : (at : Place) → (prefix : List ℕ) → (entries : List Entry) → IsListedBy at prefix
    → AllBeginWith prefix (keys_of entries) → AreBelow at entries
listed_below (place.Object bucket key) prefix entries is all = subst (λ (k : List ℕ). AllBeginWith k (keys_of entries)) is all
listed_below (place.File path) prefix entries is all = tt

pub entries_at : (at : Place) → (prefix : List ℕ) → (many : Bool) → (entries : List Entry) → IsListedBy at prefix
    → IsAscending (keys_of entries) → AllBeginWith prefix (keys_of entries) → (many ≡ false → length entries ≤ 1)
    → AreEntries at many entries
entries_at at prefix many entries is ascending all single =
    record { ascending = ascending; below = listed_below at prefix entries is all; single = single }

pub entries_at_dest : (at : Option Place) → (prefix : List ℕ) → (entries : List Entry) → IsListedAt at prefix
    → IsAscending (keys_of entries) → AllBeginWith prefix (keys_of entries) → AreEntriesAt at true entries
entries_at_dest None prefix entries is ascending all = tt
entries_at_dest (Some at) prefix entries is ascending all = entries_at at prefix true entries is ascending all (λ no. absurd (true_is_false no))
