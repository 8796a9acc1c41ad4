-- The local file that is copied up: the calls on it, and its bytes.
use Rattle.std.specs.Prelude.{◌≡◌, ◌≤◌, ◌<◌, ◌++◌, ℕ, List, [], ◌∷◌, Option, Some, None, length, take}
use Rattle.std.specs.Prelude.{drop, filter_map}
use Rattle.std.specs.FinMap.{get}
use Rattle.s3_model.specs.Files.{FileStore, HeldFile}
use Rattle.local_files.specs.Calls.{Call}
use Rattle.s3_outside.specs.FileCalls.{call_of}
use Rattle.s3_outside.specs.Files.{SeenFiles}
use Rattle.s3_outside.specs.declared.files.FileNote.{FileNote}
use Rattle.s3_outside.specs.declared.files.FileNote.TheVariants as note

-- the calls ask for this path alone
abbrev pub AskFor : List ℕ → List FileNote → Type 0
AskFor path [] = Unit {0}
AskFor path (note.Kind asked answer ∷ calls) = (asked ≡ path) × AskFor path calls
AskFor path (note.ReadAt asked at room answer ∷ calls) = (asked ≡ path) × AskFor path calls
AskFor path (other ∷ calls) = ⊥

-- the calls that changed files, in order, as the files tell them
abbrev pub calls_between : (was now : SeenFiles) → List Call
calls_between was now = filter_map call_of (drop (length was.calls) now.calls)

-- the files are the same, and no call was made that changes any
abbrev pub AreLeft : (was now : SeenFiles) → Type 0
AreLeft was now = (now.store ≡ was.store) × (calls_between was now ≡ [])

-- the files are the same after the call, as far as they are still seen
abbrev pub Keeps : Option SeenFiles → Option SeenFiles → Type 0
Keeps before None = Unit {0}
Keeps None (Some after) = ⊥
Keeps (Some before) (Some after) = after.store ≡ before.store

-- The files are the same after the calls, which asked for this path alone, as far as they are still seen.
abbrev pub LooksAt : List ℕ → Option SeenFiles → Option SeenFiles → Type 0
LooksAt path before None = Unit {0}
LooksAt path None (Some after) = ⊥
LooksAt path (Some before) (Some after) =
    (after.store ≡ before.store) × (calls : List FileNote) × (after.calls ≡ before.calls ++ calls) × AskFor path calls

-- the first bytes of the file, if there is one
abbrev pub AreFirstBytes : FileStore → List ℕ → List ℕ → Type 0
AreFirstBytes store path bytes = (file : HeldFile) → get store.held path ≡ Some file
    → (bytes ≡ take (length bytes) file.bytes) × (length bytes ≤ length file.bytes)

-- the file, if there is one, has fewer bytes
abbrev pub HasFewer : FileStore → List ℕ → ℕ → Type 0
HasFewer store path size = (file : HeldFile) → get store.held path ≡ Some file → length file.bytes < size
