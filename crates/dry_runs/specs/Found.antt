-- What stands at a local source.
use Rattle.std.specs.Prelude.{◌≡◌, ◌≤◌, ℕ, Bool, true, false, List, [], ◌∷◌, Option, Some, None, IfSome, length}
use Rattle.std.specs.Prelude.{if◌then◌else◌}
use Rattle.std.specs.List.{AllByRecursion}
use Rattle.s3_model.specs.ContentTypes.{last_name}
use Rattle.s3_model.specs.Counts.{Rose}
use Rattle.s3_model.specs.Entries.{IsAscending, keys_of}
use Rattle.s3_model.specs.declared.faults.PlanFault.{PlanFault}
use Rattle.s3_model.specs.declared.faults.PlanFault.TheVariants as refused
use Rattle.s3_model.specs.declared.faults.WalkFault.{WalkFault}
use Rattle.s3_model.specs.declared.faults.WalkFault.TheVariants as walk
use Rattle.s3_model.specs.declared.places.Entry.{Entry}
use Rattle.s3_model.specs.declared.tasks.Warning.{Warning}
use Rattle.s3_model.specs.declared.tasks.Warning.TheVariants as warning
use Rattle.s3_outside.specs.Files.{SeenFiles, shape_at}
use Rattle.s3_outside.specs.declared.files.Shape.{Shape}
use Rattle.s3_outside.specs.declared.files.Shape.TheVariants as shape
use Rattle.tree_walk.specs.Trees.{Describes, IsOrderly, IsRefused, IsWalked}
use Rattle.run_report.specs.declared.run.Fatal.{Fatal}
use Rattle.run_report.specs.declared.run.Fatal.TheVariants as fatal
use Rattle.dry_runs.specs.Looked.{looked_in}

-- the files before and after planning, as far as they are seen, with their counts of faults
pub record FilesSeen : Type 0 where
  pub was : Option SeenFiles
  pub now : Option SeenFiles
  pub faults_before : ℕ
  pub faults_after : ℕ

abbrev pub files_seen : (was now : Option SeenFiles) → (faults_before faults_after : ℕ) → FilesSeen
files_seen was now faults_before faults_after = record {
  was = was;
  now = now;
  faults_before = faults_before;
  faults_after = faults_after;
}

-- that stood at the path before, where the files were seen
abbrev pub Stood : FilesSeen → (path : List ℕ) → Shape → Type 0
Stood files path stands = IfSome files.was (λ seen. shape_at seen.store path ≡ stands)

-- ---- a tree

-- The files below a local folder, each with its size and its time, and warnings of what is no file and of names that
-- are no text. Where the files are as a disk has them, it is the tree.
pub record HoldsTree (files : Option SeenFiles) (root : List ℕ) (entries : List Entry) (looked : List Warning)
    : Type 0 where
  pub ascending : IsAscending (keys_of entries)
  pub few : length entries ≤ 1000000
  pub described : IfSome files (λ seen. AllByRecursion (Describes seen.store root) entries)
  pub others : List (List ℕ)
  pub unnamed : ℕ
  pub warned : looked ≡ looked_in root others unnamed
  pub whole : IfSome files (λ seen. IsOrderly seen.store root → IsWalked seen.store root entries others unnamed)

-- how a fault of a walk ends a run
abbrev pub walk_fatal : WalkFault → Fatal
walk_fatal walk.Memory = fatal.Memory
walk_fatal other = fatal.Walk other

-- a call on the files failed, or the tree is refused
abbrev pub IsTreeFault : FilesSeen → (root : List ℕ) → Fatal → Type 0
IsTreeFault files root fatal.Memory = Unit {0}
IsTreeFault files root (fatal.Walk walk.Files) = Rose files.faults_before files.faults_after
IsTreeFault files root (fatal.Walk walk.Memory) = ⊥
IsTreeFault files root (fatal.Walk fault) = IfSome files.now (λ seen. IsRefused seen.store root fault)
IsTreeFault files root why = ⊥

-- ---- one name, or a tree

-- many names want a folder, and else it is none
abbrev pub source_fault : (many : Bool) → (path : List ℕ) → Shape → Option PlanFault
source_fault many path shape.Absent = Some (refused.NoSource path)
source_fault many path shape.Folder = if many then None else Some (refused.IsFolder path)
source_fault many path stands = if many then Some (refused.NotFolder path) else None

abbrev pub file_entry : (path : List ℕ) → (size micros : ℕ) → Entry
file_entry path size micros = record { key = last_name path; size = size; etag = []; micros = micros }

-- a file is its one entry; what is neither file nor folder is none, and is warned of
abbrev pub HoldsOne : (path : List ℕ) → Shape → List Entry → (looked : List Warning) → Type 0
HoldsOne path (shape.File size micros) entries looked = (entries ≡ file_entry path size micros ∷ []) × (looked ≡ [])
HoldsOne path shape.Other entries looked = (entries ≡ []) × (looked ≡ warning.NotAFile path ∷ [])
HoldsOne path stands entries looked = ⊥

-- the entries of a local source, and what looking at it warns of
pub record HoldsSource (files : FilesSeen) (many : Bool) (path : List ℕ) (entries : List Entry) (looked : List Warning)
    : Type 0 where
  pub stands : Shape
  pub stood : Stood files path stands
  pub fits : source_fault many path stands ≡ None
  pub one : many ≡ false → HoldsOne path stands entries looked
  pub tree : many ≡ true → HoldsTree files.now path entries looked

-- What stood there is none that is wanted, or a call on the files failed; or many names were wanted, a folder stood
-- there, and its tree is refused.
abbrev pub IsSourceFault : FilesSeen → (many : Bool) → (path : List ℕ) → Fatal → Type 0
IsSourceFault files many path fatal.Memory = Unit {0}
IsSourceFault files many path (fatal.Walk walk.Files) = Rose files.faults_before files.faults_after
IsSourceFault files many path (fatal.Plan fault) =
    (stands : Shape) × Stood files path stands × (source_fault many path stands ≡ Some fault)
IsSourceFault files many path (fatal.Walk fault) =
    (many ≡ true) × Stood files path shape.Folder × IsTreeFault files path (fatal.Walk fault)
IsSourceFault files many path why = ⊥
