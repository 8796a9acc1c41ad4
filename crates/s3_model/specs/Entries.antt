-- Names in order, and the entries of a listing or of a folder by their keys.
use Rattle.std.specs.Prelude.{ℕ, List, map}
use Rattle.std.specs.Cmp.Lexicographic.{slice_cmp}
use Rattle.std.specs.List.Sorted.{IsStrictlySortedBy}
use Rattle.std.specs.Ordering.{nat_cmp}
use Rattle.s3_model.specs.declared.places.Entry.{Entry}

abbrev pub keys_of : List Entry → List (List ℕ)
keys_of entries = map (λ (entry : Entry). entry.key) entries

-- byte order, each name once
abbrev pub IsAscending : List (List ℕ) → Type 0
IsAscending names = IsStrictlySortedBy (slice_cmp nat_cmp) names
