-- Files and folders, as they are where their content is seen.
use Rattle.std.specs.Prelude.{◌++◌, ◌||◌, ◌==◌, ℕ, Bool, false, List, [], ◌∷◌, map, filter, length, drop, nat_eq, if◌then◌else◌}
use Rattle.std.specs.List.{starts_with, list_any}
use Rattle.std.specs.Str.{bytes_eq}
use Rattle.std.specs.FinMap.{keys}
use Rattle.s3_model.specs.Maps.{MapOf}

-- a file's bytes and its time, in microseconds since 1970
pub record HeldFile : Type 0 where
  pub bytes : List ℕ
  pub micros : ℕ

-- the files by path, the folders that are empty, what is neither file nor folder, and how many names of a folder are no
-- text
pub record FileStore : Type 0 where
  pub held : MapOf HeldFile
  pub empty_folders : List (List ℕ)
  pub others : List (List ℕ)
  pub unnamed : MapOf ℕ

abbrev pub ends_in_slash : List ℕ → Bool
ends_in_slash [] = false
ends_in_slash (byte ∷ []) = byte == 47
ends_in_slash (byte ∷ next ∷ bytes) = ends_in_slash (next ∷ bytes)

-- a folder's path with its final `/`
abbrev pub folder_path : List ℕ → List ℕ
folder_path path = if ends_in_slash path then path else path ++ 47 ∷ []

-- a path lies below a folder where it goes on from the folder's path
abbrev pub is_below : List ℕ → List ℕ → Bool
is_below folder path = starts_with nat_eq path (folder_path folder)

abbrev pub is_listed : List (List ℕ) → List ℕ → Bool
is_listed paths path = list_any (λ (p : List ℕ). bytes_eq p path) paths

-- a folder has a file below it, or is empty
abbrev pub is_folder : FileStore → List ℕ → Bool
is_folder store path = list_any (is_below path) (keys store.held) || is_listed store.empty_folders path

-- the paths below a root, as they go on from it, in byte order
abbrev pub tree : FileStore → List ℕ → List (List ℕ)
tree store root = map (drop (length (folder_path root))) (filter (is_below root) (keys store.held))
