-- The names in a folder.
use Rattle.std.specs.Prelude.{◌≡◌, ◌≢◌, ◌==◌, ◌⊎◌, ◌++◌, ◌↔◌, ℕ, false, true, List, [], Some, IsSome, Contains, slice_get}
use Rattle.std.specs.FinMap.{get}
use Rattle.std.specs.List.{list_any}
use Rattle.s3_model.specs.Files.{FileStore, folder_path, is_folder, is_listed}

-- a text without `/` that is not empty
abbrev pub IsName : List ℕ → Type 0
IsName name = (name ≢ []) × (list_any (λ (byte : ℕ). byte == 47) name ≡ false)

-- a file, a folder or something else stands at a path
abbrev pub IsThere : FileStore → List ℕ → Type 0
IsThere store path = IsSome (get store.held path) ⊎ (is_folder store path ≡ true) ⊎ (is_listed store.others path ≡ true)

-- The names in a folder: those at which something stands, each once, in any order.
pub record AreNames (store : FileStore) (folder : List ℕ) (names : List (List ℕ)) : Type 0 where
  pub there : (name : List ℕ) → Contains names name ↔ (IsName name × IsThere store (folder_path folder ++ name))
  pub once : (i j : ℕ) (name : List ℕ) → slice_get names i ≡ Some name → slice_get names j ≡ Some name → i ≡ j
