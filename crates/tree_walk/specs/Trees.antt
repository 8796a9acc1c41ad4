-- The tree of files below a root, and what a walk over it answers.
use Rattle.std.specs.Prelude.{◌≡◌, ◌≢◌, ◌≤◌, ◌<◌, ◌⊎◌, ◌++◌, ◌+◌, ◌-◌, ◌^◌, ◌==◌, ◌&&◌, ◌↔◌, ℕ, false}
use Rattle.std.specs.Prelude.{true, not, if◌then◌else◌, List, [], ◌∷◌, Option, Some}
use Rattle.std.specs.Prelude.{None, Result, IsSome, Contains, length, min}
use Rattle.std.specs.FinMap.{get}
use Rattle.std.specs.List.{AllByRecursion, count_by, sum_by}
use Rattle.s3_model.specs.Counts.{Rose}
use Rattle.s3_model.specs.Entries.{IsAscending, keys_of}
use Rattle.s3_model.specs.Files.{FileStore, HeldFile, ends_in_slash, folder_path, is_folder, is_listed, tree}
use Rattle.s3_model.specs.declared.places.Entry.{Entry}
use Rattle.local_files.specs.Names.{IsName}
use Rattle.s3_outside.specs.Files.{SeenFiles, shape_at}
use Rattle.s3_outside.specs.FileCalls.{unnamed_in}
use Rattle.s3_outside.specs.declared.files.FileNote.{FileNote}
use Rattle.s3_outside.specs.declared.files.FileNote.TheVariants as note
use Rattle.s3_outside.specs.declared.files.Shape.{Shape}
use Rattle.s3_outside.specs.declared.files.Shape.TheVariants as shape
use Rattle.s3_outside.specs.declared.wire.Failed.{Failed}
use Rattle.s3_model.specs.declared.faults.WalkFault.{WalkFault}
use Rattle.s3_model.specs.declared.faults.WalkFault.TheVariants as fault

-- ---- paths below a root

-- the path of what stands below a root
abbrev pub path_at : (root below : List ℕ) → List ℕ
path_at root below = folder_path root ++ below

-- The root as a folder is looked up: without its final `/`, unless nothing or another `/` stands before that.
abbrev pub bare : List ℕ → List ℕ
bare [] = []
bare (byte ∷ []) = byte ∷ []
bare (byte ∷ last ∷ []) = if last == 47 && not (byte == 47) then byte ∷ [] else byte ∷ last ∷ []
bare (byte ∷ next ∷ more ∷ root) = byte ∷ bare (next ∷ more ∷ root)

-- the path of a folder of the tree, where the root itself is the empty one
abbrev pub place_of : (root folder : List ℕ) → List ℕ
place_of root [] = bare root
place_of root (byte ∷ folder) = path_at root (byte ∷ folder)

-- the path of a name in a folder of the tree
abbrev pub child : (folder name : List ℕ) → List ℕ
child [] name = name
child (byte ∷ folder) name = (byte ∷ folder) ++ 47 ∷ name

-- how many names a path has
abbrev pub depth : List ℕ → ℕ
depth path = count_by (λ (byte : ℕ). byte == 47) path + 1

-- ---- what stands below a root

-- the root, where it is a folder, or a folder below it
abbrev pub IsFolderIn : FileStore → (root folder : List ℕ) → Type 0
IsFolderIn store root folder = (shape_at store (place_of root folder) ≡ shape.Folder) × (ends_in_slash folder ≡ false)

-- a file, something else, or a folder, which is named without a final `/`
abbrev pub Stands : FileStore → (root path : List ℕ) → Type 0
Stands store root path = IsSome (get store.held (path_at root path))
    ⊎ (is_listed store.others (path_at root path) ≡ true)
    ⊎ ((is_folder store (path_at root path) ≡ true) × (ends_in_slash path ≡ false))

-- Files as a disk has them: what stands below the root has a name in a folder of the tree.
pub record IsOrderly (store : FileStore) (root : List ℕ) : Type 0 where
  pub named : (path : List ℕ) → path ≢ [] → Stands store root path
      → (folder : List ℕ) × (name : List ℕ) × (path ≡ child folder name) × IsName name × IsFolderIn store root folder
  pub bare : get store.held (path_at root []) ≡ None

-- a folder more than 128 names below the root
abbrev pub HasDeepFolder : FileStore → (root : List ℕ) → Type 0
HasDeepFolder store root = (path : List ℕ) × IsFolderIn store root path × (128 < depth path)

-- a tree that is refused is too deep or has too many files; the other faults tell nothing of it
abbrev pub IsRefused : FileStore → (root : List ℕ) → WalkFault → Type 0
IsRefused store root fault.TooDeep = HasDeepFolder store root
IsRefused store root fault.TooMany = 1000000 < length (tree store root)
IsRefused store root other = Unit {0}

-- ---- what a walk answers

-- the size and the time of the file that an entry names
pub record Describes (store : FileStore) (root : List ℕ) (entry : Entry) : Type 0 where
  pub file : HeldFile
  pub held : get store.held (path_at root entry.key) ≡ Some file
  pub size : entry.size ≡ length file.bytes
  pub micros : entry.micros ≡ file.micros
  pub etag : entry.etag ≡ []

-- how many names are no text in all folders of the tree, each folder once, up to the last number
pub record CountsUnnamed (store : FileStore) (root : List ℕ) (count : ℕ) : Type 0 where
  pub folders : List (List ℕ)
  pub once : IsAscending folders
  pub all : (folder : List ℕ) → Contains folders folder ↔ IsFolderIn store root folder
  pub sum : count ≡ min (sum_by (λ folder. unnamed_in store (place_of root folder)) folders) (2 ^ 64 - 1)

-- The tree: its files in byte order, what is neither file nor folder in byte order, and the count of names that are no
-- text. No folder is more than 128 names below the root.
pub record IsWalked (store : FileStore) (root : List ℕ)
    (entries : List Entry) (others : List (List ℕ)) (unnamed : ℕ) : Type 0 where
  pub keys : keys_of entries ≡ tree store root
  pub files : AllByRecursion (Describes store root) entries
  pub few : length entries ≤ 1000000
  pub others_once : IsAscending others
  pub others_all : (path : List ℕ)
      → Contains others path ↔ ((path ≢ []) × (shape_at store (path_at root path) ≡ shape.Other))
  pub counted : CountsUnnamed store root unnamed
  pub shallow : (path : List ℕ) → IsFolderIn store root path → depth path ≤ 128

-- a call that looks at a path, or asks for the names in a folder
abbrev pub IsLook : FileNote → Type 0
IsLook (note.Kind path answer) = Unit {0}
IsLook (note.Names folder fault) = Unit {0}
IsLook other = ⊥

-- The files stayed as they were, and only such calls were made, as far as they are seen. What is seen ends only where
-- the count of faults rose.
abbrev pub OnlyLooks : (old new : Option SeenFiles) → (before after : ℕ) → Type 0
OnlyLooks None None before after = Unit {0}
OnlyLooks None (Some new) before after = ⊥
OnlyLooks (Some old) None before after = Rose before after
OnlyLooks (Some old) (Some new) before after = (new.store ≡ old.store)
    × (more : List FileNote) × (new.calls ≡ old.calls ++ more) × AllByRecursion IsLook more

-- what is no folder is looked at, and no other call is made, as far as files are seen
abbrev pub LooksOnce : (path : List ℕ) → (old new : Option SeenFiles) → Type 0
LooksOnce path None new = Unit {0}
LooksOnce path (Some old) None = Unit {0}
LooksOnce path (Some old) (Some new) = shape_at old.store path ≢ shape.Folder
    → (answer : Result Shape Failed) × (new.calls ≡ old.calls ++ note.Kind path answer ∷ [])
