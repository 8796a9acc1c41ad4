-- What a walk has found so far.
use Rattle.std.specs.Prelude.{◌⊎◌, ◌≡◌, ◌≢◌, ◌≤◌, ◌<◌, ◌++◌, ℕ, false, List, [], ◌∷◌, Some, IsSome, Contains}
use Rattle.std.specs.Prelude.{length, slice_get}
use Rattle.std.specs.FinMap.{get, insert, keys}
use Rattle.std.specs.Option.{unwrap_or}
use Rattle.s3_model.specs.Maps.{MapOf}
use Rattle.s3_model.specs.declared.places.Entry.{Entry}
use Rattle.s3_model.specs.Files.{FileStore, HeldFile, ends_in_slash}
use Rattle.local_files.specs.Names.{IsName, IsThere}
use Rattle.s3_outside.specs.Files.{shape_at}
use Rattle.s3_outside.specs.FileCalls.{unnamed_in}
use Rattle.s3_outside.specs.declared.files.Shape.{Shape}
use Rattle.s3_outside.specs.declared.files.Shape.TheVariants as shape
use Rattle.tree_walk.specs.Trees.{child, depth, path_at, place_of}
use Rattle.tree_walk.specs.declared.found.Found.{Found}
use Rattle.tree_walk.specs.declared.found.Look.{Look}
use Rattle.s3_model.specs.declared.faults.WalkFault.{WalkFault}
use Rattle.s3_model.specs.declared.faults.WalkFault.TheVariants as fault

-- a path was found with that shape
abbrev pub IsFound : Found → List ℕ → Shape → Type 0
IsFound found path (shape.File size micros) = get found.files path ≡ Some (record { size = size; micros = micros })
IsFound found path shape.Folder = Contains found.folders.items path
IsFound found path shape.Other = IsSome (get found.others path)
IsFound found path shape.Absent = Unit {0}

abbrev pub Recorded : FileStore → (root : List ℕ) → Found → List ℕ → Type 0
Recorded store root found path = IsFound found path (shape_at store (path_at root path))

-- the entry of a file that was found
abbrev pub entry_in : MapOf Look → List ℕ → Entry
entry_in files path =
    let look = unwrap_or (get files path) (record { size = 0; micros = 0 }) in
    record { key = path; size = look.size; etag = []; micros = look.micros }

-- a path is added
abbrev pub Adds : List ℕ → Shape → (old new : Found) → Type 0
Adds path (shape.File size micros) old new =
    (new.files ≡ insert old.files path (record { size = size; micros = micros }))
    × (new.others ≡ old.others) × (new.unnamed ≡ old.unnamed) × (new.folders.items ≡ old.folders.items)
Adds path shape.Folder old new = (new.files ≡ old.files) × (new.others ≡ old.others) × (new.unnamed ≡ old.unnamed)
    × (new.folders.items ≡ old.folders.items ++ path ∷ []) × (depth path ≤ 128)
Adds path shape.Other old new = (new.files ≡ old.files) × (new.others ≡ insert old.others path tt)
    × (new.unnamed ≡ old.unnamed) × (new.folders.items ≡ old.folders.items)
Adds path shape.Absent old new = new ≡ old

-- why a path was not added: a folder is too deep, or with the path there are too many files
abbrev pub IsOver : List ℕ → Shape → (old new : Found) → WalkFault → Type 0
IsOver path what old new fault.TooDeep = (what ≡ shape.Folder) × (128 < depth path)
IsOver path what old new fault.TooMany = Adds path what old new × (1000000 < length (keys new.files))
IsOver path what old new fault.Files = ⊥
IsOver path what old new fault.Memory = Unit {0}

-- no more files were found than a tree may have
abbrev pub IsFew : Found → Type 0
IsFew found = length (keys found.files) ≤ 1000000

-- all that was found is there
pub record IsSound (store : FileStore) (root : List ℕ) (found : Found) : Type 0 where
  pub files : (path : List ℕ) → IsSome (get found.files path) → (path ≢ []) × (file : HeldFile)
      × (get store.held (path_at root path) ≡ Some file)
      × (get found.files path ≡ Some (record { size = length file.bytes; micros = file.micros }))
  pub others : (path : List ℕ) → IsSome (get found.others path)
      → (path ≢ []) × (shape_at store (path_at root path) ≡ shape.Other)
  pub folders : (path : List ℕ) → Contains found.folders.items path
      → ((path ≡ []) ⊎ (shape_at store (path_at root path) ≡ shape.Folder))
      × (ends_in_slash path ≡ false) × (depth path ≤ 128)
  pub counts : (path : List ℕ) → IsSome (get found.unnamed path) → Contains found.folders.items path
      × (get found.unnamed path ≡ Some (unnamed_in store (place_of root path)))

-- what stands in a folder was found, and its names that are no text were counted
pub record IsVisited (store : FileStore) (root : List ℕ) (found : Found) (folder : List ℕ) : Type 0 where
  pub is : shape_at store (place_of root folder) ≡ shape.Folder
  pub through : (name : List ℕ) → IsName name → IsThere store (path_at root (child folder name))
      → Recorded store root found (child folder name)
  pub counted : get found.unnamed folder ≡ Some (unnamed_in store (place_of root folder))

-- what was found stays found
pub record Grows (store : FileStore) (root : List ℕ) (old new : Found) : Type 0 where
  pub kept : (path : List ℕ) → Recorded store root old path → Recorded store root new path
  pub folders : (more : List (List ℕ)) × (new.folders.items ≡ old.folders.items ++ more)
  pub counts : (path : List ℕ) → IsSome (get old.unnamed path) → get new.unnamed path ≡ get old.unnamed path

-- some names of a folder were looked at
pub record IsPartway (store : FileStore) (root folder : List ℕ) (names : List (List ℕ)) (old new : Found) : Type 0 where
  pub sound : IsSound store root new
  pub grows : Grows store root old new
  pub found : (name : List ℕ) → Contains names name → Recorded store root new (child folder name)

-- a folder was visited
pub record Visits (store : FileStore) (root folder : List ℕ) (old new : Found) : Type 0 where
  pub sound : IsSound store root new
  pub grows : Grows store root old new
  pub visited : IsVisited store root new folder

-- the first folders of those found were visited
pub record IsOnTheWay (store : FileStore) (root : List ℕ) (count : ℕ) (found : Found) : Type 0 where
  pub sound : IsSound store root found
  pub begun : Contains found.folders.items []
  pub visited : (k : ℕ) (folder : List ℕ) → k < count → slice_get found.folders.items k ≡ Some folder
      → IsVisited store root found folder

-- all folders of the tree were visited
pub record IsComplete (store : FileStore) (root : List ℕ) (found : Found) : Type 0 where
  pub sound : IsSound store root found
  pub begun : shape_at store (place_of root []) ≡ shape.Folder → Contains found.folders.items []
  pub visited : (folder : List ℕ) → Contains found.folders.items folder → IsVisited store root found folder
