-- Files that are put together from ranges.
use Rattle.std.specs.Prelude.{◌≡◌, ◌≢◌, ◌≤◌, ◌<◌, ◌+◌, ◌⊎◌, ℕ, List, Option, Some}
use Rattle.std.specs.Prelude.{Contains, Result, Ok, Err, length, take, drop}
use Rattle.std.specs.FinMap.{get}
use Rattle.s3_model.specs.Files.{HeldFile}
use Rattle.s3_model.specs.Maps.{MapOf}
use Rattle.s3_outside.specs.Files.{SeenFiles}
use Rattle.s3_outside.specs.FileCalls.{IsMade}
use Rattle.s3_outside.specs.declared.files.FileFault.{FileFault}
use Rattle.s3_outside.specs.declared.files.FileFault.TheVariants as fault
use Rattle.s3_outside.specs.declared.files.FileNote.TheVariants as note

-- an assembly: its temporary file, its destination, and how many bytes it will have
pub record Assembling : Type 0 where
  pub temp : List ℕ
  pub dest : List ℕ
  pub size : ℕ

-- a range that was placed: its place and its bytes
abbrev pub Range : Type 0
Range = ℕ × List ℕ

-- the bytes have the range at its place
abbrev pub HasRange : List ℕ → Range → Type 0
HasRange bytes range = (range.0 + length range.1 ≤ length bytes)
    × (take (length range.1) (drop range.0 bytes) ≡ range.1)

abbrev pub HasAll : List ℕ → List Range → Type 0
HasAll bytes ranges = (range : Range) → Contains ranges range → HasRange bytes range

-- a range of that length at that place has no byte in common with those
abbrev pub IsApart : List Range → (at count : ℕ) → Type 0
IsApart ranges at count = (range : Range) → Contains ranges range
    → (range.0 + length range.1 ≤ at) ⊎ (at + count ≤ range.0)

-- the temporary file has all ranges that were placed, and no byte past the size
pub record Holds (assembly : Assembling) (ranges : List Range) (held : MapOf HeldFile) : Type 0 where
  pub file : HeldFile
  pub there : get held assembly.temp ≡ Some file
  pub inside : length file.bytes ≤ assembly.size
  pub all : HasAll file.bytes ranges

-- The ranges in order of place: they are the bytes, each at its place, and leave none out.
pub record AreInOrder (ranges : List Range) (size : ℕ) (bytes : List ℕ) : Type 0 where
  pub whole : length bytes ≡ size
  pub each : HasAll bytes ranges
  pub covers : (place : ℕ) → place < size
      → (range : Range) × Contains ranges range × (range.0 ≤ place) × (place < range.0 + length range.1)

-- nothing changed but the temporary file
abbrev pub SparesOthers : (temp : List ℕ) → (old new : MapOf HeldFile) → Type 0
SparesOthers temp old new = (path : List ℕ) → path ≢ temp → get new path ≡ get old path

-- as far as files are seen before and after
abbrev pub BothSeen : (old new : Option SeenFiles) → (SeenFiles → SeenFiles → Type 0) → Type 0
BothSeen (Some old) (Some new) P = P old new
BothSeen old new P = Unit {0}

-- the file at a path has these bytes
abbrev pub HasBytes : MapOf HeldFile → List ℕ → List ℕ → Type 0
HasBytes held path bytes = (file : HeldFile) × (get held path ≡ Some file) × (file.bytes ≡ bytes)

-- No temporary file was made: memory ran out, no call was made and all is as it was, or a call was made that failed so.
abbrev pub IsUnmade : List ℕ → FileFault → (old new : Option SeenFiles) → (before after : ℕ) → Type 0
IsUnmade dest why old new before after = ((why ≡ fault.Memory) × (new ≡ old) × (after ≡ before))
    ⊎ IsMade (note.MakeTemp dest (Err why)) old new before after

-- why a destination was not replaced, without the assembly that came back
abbrev pub refusal_of : Result Unit (Assembling × FileFault) → Result Unit FileFault
refusal_of (Ok done) = Ok done
refusal_of (Err back) = Err back.1
