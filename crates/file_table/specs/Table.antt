-- What calls make of files and folders in memory.
use Rattle.std.specs.Prelude.{◌≡◌, ◌⊎◌, ℕ, List, Some, IsSome}
use Rattle.std.specs.FinMap.{get, insert, remove}
use Rattle.s3_model.specs.Files.{FileStore, HeldFile, is_folder}
use Rattle.s3_model.specs.Maps.{MapOf}

-- files and folders as they were
pub record AreAlike (old new : FileStore) : Type 0 where
  pub held : new.held ≡ old.held
  pub folders : (folder : List ℕ) → is_folder new folder ≡ is_folder old folder
  pub others : new.others ≡ old.others
  pub unnamed : new.unnamed ≡ old.unnamed

-- the file at one path takes the place of that at another
abbrev pub Moves : (temp dest : List ℕ) → (old new : MapOf HeldFile) → Type 0
Moves temp dest old new = (file : HeldFile) × (get old temp ≡ Some file) × (new ≡ insert (remove old temp) dest file)

-- a file stands at the path, as before or a new one
abbrev pub HasPlace : (path : List ℕ) → (old new : MapOf HeldFile) → Type 0
HasPlace path old new = IsSome (get new path)
    × ((new ≡ old) ⊎ ((file : HeldFile) × (new ≡ insert old path file)))
