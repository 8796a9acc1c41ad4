-- What local files show a planning: what stands at a path, and the tree below a folder.
use Rattle.std.specs.Prelude.{◌≡◌, ◌≤◌, ℕ, Bool, true, List, [], ◌∷◌, Option, IfSome, length}
use Rattle.std.specs.List.{AllByRecursion}
use Rattle.command_errands.specs.Sources.{local_source}
use Rattle.command_errands.specs.declared.sources.LocalSource.{LocalSource}
use Rattle.command_errands.specs.declared.sources.LocalSource.TheVariants as source
use Rattle.planning_questions.specs.declared.halt.Halt.TheVariants as halt
use Rattle.s3_model.specs.Counts.{Rose}
use Rattle.s3_model.specs.Entries.{IsAscending, keys_of}
use Rattle.s3_model.specs.declared.faults.WalkFault.TheVariants as walk
use Rattle.s3_model.specs.declared.places.Entry.{Entry}
use Rattle.s3_model.specs.declared.tasks.Warning.{Warning}
use Rattle.s3_model.specs.declared.tasks.Warning.TheVariants as warning
use Rattle.s3_outside.specs.Files.{SeenFiles, shape_at}
use Rattle.s3_outside.specs.declared.files.Shape.{Shape}
use Rattle.s3_outside.specs.declared.files.Shape.TheVariants as shape
use Rattle.tree_walk.specs.Trees.{Describes, IsOrderly, IsRefused, IsWalked}
use Rattle.service_plans.specs.Looked.{looked_in}
use Rattle.service_plans.specs.declared.halted.Halted.{Halted}
use Rattle.service_plans.specs.declared.halted.Halted.TheVariants as halted

-- the files behind a planning, as far as they are seen, which changed nothing of them; and the counts of faults before
-- it and behind it
pub record FilesSeen : Type 0 where
  pub seen : Option SeenFiles
  pub faults_before : ℕ
  pub faults_after : ℕ

abbrev pub files_seen : (seen : Option SeenFiles) → (faults_before faults_after : ℕ) → FilesSeen
files_seen seen faults_before faults_after =
    record { seen = seen; faults_before = faults_before; faults_after = faults_after }

-- that stands at the path, where the files are seen
abbrev pub StandsAt : FilesSeen → (path : List ℕ) → Shape → Type 0
StandsAt files path stands = IfSome files.seen (λ now. shape_at now.store path ≡ stands)

-- a call on the files failed
abbrev pub HasFailed : FilesSeen → Type 0
HasFailed files = Rose files.faults_before files.faults_after

-- ---- a tree

-- The files below a local folder, each with its size and its time, and warnings of what is no file and of names that
-- are no text. Where the files are as a disk has them, it is the tree.
pub record HoldsTree (files : FilesSeen) (root : List ℕ) (entries : List Entry) (looked : List Warning) : Type 0 where
  pub ascending : IsAscending (keys_of entries)
  pub few : length entries ≤ 1000000
  pub described : IfSome files.seen (λ now. AllByRecursion (Describes now.store root) entries)
  pub others : List (List ℕ)
  pub unnamed : ℕ
  pub warned : looked ≡ looked_in root others unnamed
  pub whole : IfSome files.seen (λ now. IsOrderly now.store root → IsWalked now.store root entries others unnamed)

-- a call on the files failed, or the tree is refused
abbrev pub IsTreeFault : FilesSeen → (root : List ℕ) → Halted → Type 0
IsTreeFault files root (halted.Asked halt.Memory) = Unit {0}
IsTreeFault files root (halted.Walk walk.Files) = HasFailed files
IsTreeFault files root (halted.Walk walk.Memory) = ⊥
IsTreeFault files root (halted.Walk fault) = IfSome files.seen (λ now. IsRefused now.store root fault)
IsTreeFault files root why = ⊥

-- ---- a source

-- the entries of a source that is no folder, and what looking at it warns of: what is neither file nor folder is none
abbrev pub IsHeldAlone : LocalSource → List Entry → (looked : List Warning) → Type 0
IsHeldAlone (source.File entry) entries looked = (entries ≡ entry ∷ []) × (looked ≡ [])
IsHeldAlone (source.NotAFile named) entries looked = (entries ≡ []) × (looked ≡ warning.NotAFile named ∷ [])
IsHeldAlone other entries looked = ⊥

-- or the tree below the folder
abbrev pub IsHeldAs : LocalSource → FilesSeen → (path : List ℕ) → List Entry → (looked : List Warning) → Type 0
IsHeldAs source.Folder files path entries looked = HoldsTree files path entries looked
IsHeldAs one files path entries looked = IsHeldAlone one entries looked

-- it is refused, or memory ran out for it
abbrev pub IsOneFault : LocalSource → Halted → Type 0
IsOneFault one (halted.Asked halt.Memory) = Unit {0}
IsOneFault one (halted.Plan fault) = one ≡ source.Refused fault
IsOneFault one why = ⊥

-- the entries of a local source, by what stands there
pub record HoldsSource (files : FilesSeen) (many : Bool) (path : List ℕ) (entries : List Entry) (looked : List Warning)
    : Type 0 where
  pub stands : Shape
  pub stood : StandsAt files path stands
  pub held : IsHeldAs (local_source many path stands) files path entries looked

-- What stands there is no source, or a call on the files failed; or there are to be many names, a folder stands there,
-- and its tree is refused.
abbrev pub IsSourceFault : FilesSeen → (many : Bool) → (path : List ℕ) → Halted → Type 0
IsSourceFault files many path (halted.Asked halt.Memory) = Unit {0}
IsSourceFault files many path (halted.Walk walk.Files) = HasFailed files
IsSourceFault files many path (halted.Plan fault) =
    (stands : Shape) × StandsAt files path stands × (local_source many path stands ≡ source.Refused fault)
IsSourceFault files many path (halted.Walk fault) =
    (many ≡ true) × StandsAt files path shape.Folder × IsTreeFault files path (halted.Walk fault)
IsSourceFault files many path why = ⊥
