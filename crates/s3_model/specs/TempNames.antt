-- The names of temporary files, which stand beside the destination of a download until it is whole.
use Rattle.std.specs.Prelude.{◌≡◌, ◌-◌, ◌==◌, ◌&&◌, ◌||◌, ◌++◌, ℕ, Bool, List, length, drop, codes, nat_le, slice_index, slice_range}
use Rattle.std.specs.Int.{is_in_range}
use Rattle.std.specs.List.{AllPass, list_all}
use Rattle.std.specs.Str.{bytes_eq}

-- a digit or a letter from `a` to `f`
abbrev pub is_lower_hex : ℕ → Bool
is_lower_hex byte = is_in_range 48 57 byte || is_in_range 97 102 byte

-- sixteen bytes are `.`, eight lower-case hex digits and `.s3part`
abbrev pub is_temp_ending : List ℕ → Bool
is_temp_ending ending = slice_index ending 0 == 46 && list_all is_lower_hex (slice_range ending 1 9)
    && bytes_eq (drop 9 ending) (codes ".s3part")

abbrev pub is_temp_name : List ℕ → Bool
is_temp_name name = nat_le 16 (length name) && is_temp_ending (drop (length name - 16) name)

-- the same in other words
abbrev pub IsTempName : List ℕ → Type 0
IsTempName name = (stem : List ℕ) × (digits : List ℕ) × (name ≡ stem ++ codes "." ++ digits ++ codes ".s3part")
    × (length digits ≡ 8) × AllPass is_lower_hex digits
