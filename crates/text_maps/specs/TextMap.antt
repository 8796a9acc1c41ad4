-- A map from texts, as the entries of a tree with owned keys.
use Rattle.std.specs.Prelude.{ℕ, Bool, List, map, String, string_bytes}
use Rattle.std.specs.Cmp.Lexicographic.{slice_cmp}
use Rattle.std.specs.FinMap.{from_entries}
use Rattle.std.specs.Ordering.{nat_cmp, is_le}
use Rattle.s3_model.specs.Maps.{MapOf}

-- the entries, with the bytes of each key
abbrev pub text_entries : {Y V : Type 0} → List (String Y × V) → List (List ℕ × V)
text_entries entries = map (λ e. (string_bytes e.0, e.1)) entries

abbrev pub text_map : {Y V : Type 0} → List (String Y × V) → MapOf V
text_map entries = from_entries (text_entries entries)

-- whether a text is not before another, in byte order
abbrev pub is_from : List ℕ → List ℕ → Bool
is_from start text = is_le (slice_cmp nat_cmp start text)
