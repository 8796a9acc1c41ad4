-- What calls make of files and folders, and what stands in their way.
use Rattle.std.specs.Prelude.{◌≡◌, ◌<◌, ◌⊎◌, ◌||◌, ℕ, Bool, false, true, List, None, Ok, IsSome, length, take}
use Rattle.std.specs.Prelude.{slice_index}
use Rattle.std.specs.FinMap.{get}
use Rattle.s3_model.specs.Files.{FileStore, HeldFile, is_below, is_folder}
use Rattle.s3_model.specs.Maps.{MapOf}
use Rattle.local_files.specs.Calls.{Call, Leads, MakeTemp, Rename}

-- a file stands where the path has a folder: its path is the first n bytes
abbrev pub IsFileAbove : MapOf HeldFile → List ℕ → ℕ → Type 0
IsFileAbove held path n = (n < length path) × (slice_index path n ≡ 47) × IsSome (get held (take n path))

-- the first n bytes of a destination name what is in its way: a folder at its place, or a file above it
abbrev pub IsInTheWay : FileStore → List ℕ → ℕ → Type 0
IsInTheWay store dest n = ((n ≡ length dest) × (is_folder store dest ≡ true)) ⊎ IsFileAbove store.held dest n

-- nothing is in the way of the destination
abbrev pub IsFree : FileStore → List ℕ → Type 0
IsFree store dest = (is_folder store dest ≡ false) × ((n : ℕ) → IsFileAbove store.held dest n → ⊥)

-- a folder is made where a file is put below it
abbrev pub puts_below : Call → List ℕ → Bool
puts_below (MakeTemp dest (Ok temp)) folder = is_below folder temp
puts_below (Rename temp dest None) folder = is_below folder dest
puts_below call folder = false

-- What a call makes of files and folders. Folders stay when nothing is below them any more. Of a disk nothing is seen,
-- and there a temporary file that could not be made may leave folders that were made for it.
pub record Changes (call : Call) (old new : FileStore) : Type 0 where
  pub held : Leads call old.held new.held
  pub folders : (folder : List ℕ) → is_folder new folder ≡ (puts_below call folder || is_folder old folder)
  pub others : new.others ≡ old.others
  pub unnamed : new.unnamed ≡ old.unnamed
