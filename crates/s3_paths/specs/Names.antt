-- The names of a transfer's two sides, and which of them are left out.
use Rattle.std.specs.Prelude.{◌==◌, ◌||◌, ◌++◌, ℕ, Bool, List, Option, Some, None, length, codes, nat_eq, nat_lt}
use Rattle.std.specs.Prelude.{if◌then◌else◌}
use Rattle.std.specs.List.{list_any, ends_with, slice_split}
use Rattle.std.specs.Str.{bytes_eq}
use Rattle.s3_model.specs.declared.faults.KeySkip.{KeySkip}
use Rattle.s3_model.specs.declared.faults.KeySkip.TheVariants.{EmptyName, Dots, TempLike, LongKey}
use Rattle.s3_model.specs.TempNames.{is_temp_name}
use Rattle.s3_paths.specs.Uris.{is_slash}

-- what stands before, between and after the `/` of a path
abbrev pub components : List ℕ → List (List ℕ)
components path = slice_split is_slash path

abbrev pub is_empty_name : List ℕ → Bool
is_empty_name name = length name == 0

abbrev pub is_dot_name : List ℕ → Bool
is_dot_name name = bytes_eq name (codes ".") || bytes_eq name (codes "..")

-- why the file of a relative path is left out
abbrev pub name_skip : List ℕ → Option KeySkip
name_skip path =
    if list_any is_empty_name (components path) then Some EmptyName
    else if list_any is_dot_name (components path) then Some Dots
    else if list_any is_temp_name (components path) then Some TempLike
    else None

-- a path below a local folder
abbrev pub local_path : List ℕ → List ℕ → List ℕ
local_path root path = if ends_with nat_eq root (codes "/") then root ++ path else root ++ codes "/" ++ path

-- why a key is left out
abbrev pub key_skip : List ℕ → Option KeySkip
key_skip key =
    if length key == 0 then Some EmptyName else if nat_lt 1024 (length key) then Some (LongKey (length key)) else None
