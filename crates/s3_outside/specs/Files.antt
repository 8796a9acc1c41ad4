-- What the calls on files answer, and what they leave in the list of calls.
use Rattle.std.specs.Prelude.{◌≡◌, ◌++◌, ◌<◌, ◌≤◌, ◌⊎◌, ℕ, List, [], ◌∷◌, Option, Some, None, Result, length, take}
use Rattle.std.specs.Prelude.{drop, if◌then◌else◌}
use Rattle.std.specs.FinMap.{get}
use Rattle.s3_model.specs.Files.{FileStore, HeldFile, is_folder, is_listed}
use Rattle.s3_outside.specs.declared.files.Shape.{Shape}
use Rattle.s3_outside.specs.declared.files.Shape.TheVariants as shape
use Rattle.s3_outside.specs.declared.files.FileNote.{FileNote}
use Rattle.s3_outside.specs.declared.files.FileNote.TheVariants as note
use Rattle.s3_outside.specs.declared.wire.Failed.{Failed}

-- the files, and the calls on them in order
pub record SeenFiles : Type 0 where
  pub store : FileStore
  pub calls : List FileNote

abbrev pub called : FileNote → SeenFiles → SeenFiles
called call files = record files { calls = files.calls ++ call ∷ [] }

abbrev pub asked_kind : List ℕ → Result Shape Failed → SeenFiles → SeenFiles
asked_kind path answer = called (note.Kind path answer)

abbrev pub asked_bytes : List ℕ → ℕ → ℕ → Result ℕ Failed → SeenFiles → SeenFiles
asked_bytes path at room answer = called (note.ReadAt path at room answer)

abbrev pub shape_of_rest : FileStore → List ℕ → Shape
shape_of_rest store path =
    if is_folder store path then shape.Folder else if is_listed store.others path then shape.Other else shape.Absent

abbrev pub shape_of : FileStore → List ℕ → Option HeldFile → Shape
shape_of store path None = shape_of_rest store path
shape_of store path (Some file) = shape.File (length file.bytes) file.micros

-- what stands at a path
abbrev pub shape_at : FileStore → List ℕ → Shape
shape_at store path = shape_of store path (get store.held path)

-- so many bytes of the file from that place stand in front, and none only where there is no room or the file has no
-- more
pub record Reads (store : FileStore) (path : List ℕ) (at : ℕ) (into : List ℕ) (count : ℕ) : Type 0 where
  pub file : HeldFile
  pub held : get store.held path ≡ Some file
  pub bytes : take count into ≡ take count (drop at file.bytes)
  pub inside : count ≤ length (drop at file.bytes)
  pub progress : (0 < count) ⊎ (into ≡ []) ⊎ (drop at file.bytes ≡ [])
