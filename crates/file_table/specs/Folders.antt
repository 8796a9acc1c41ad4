-- Lists of folders.
use Rattle.std.specs.Prelude.{◌≡◌, ◌⊎◌, ℕ, true, List}
use Rattle.std.specs.FinMap.{get}
use Rattle.std.specs.Option.{is_some}
use Rattle.s3_model.specs.Files.{is_below, is_listed}
use Rattle.s3_model.specs.Maps.{MapOf}

-- the map has exactly the paths that are listed
abbrev pub IsIndex : List (List ℕ) → MapOf Unit → Type 0
IsIndex paths index = (path : List ℕ) → is_some (get index path) ≡ is_listed paths path

-- what was listed still is, and only folders of the path came to it
pub record AddsFolders (path : List ℕ) (old new : List (List ℕ)) : Type 0 where
  pub kept : (folder : List ℕ) → is_listed old folder ≡ true → is_listed new folder ≡ true
  pub only : (folder : List ℕ) → is_listed new folder ≡ true
      → (is_below folder path ≡ true) ⊎ (is_listed old folder ≡ true)
