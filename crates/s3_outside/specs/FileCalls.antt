-- What the calls on files other than looking and reading answer, and what they leave.
use Rattle.std.specs.Prelude.{◌≡◌, ◌≤◌, ◌++◌, ◌∷◌, ℕ, List, [], Option, Some, None, Result, Ok, Err, IsCharBoundary}
use Rattle.std.specs.Prelude.{IfSome, is_ok, length, take, drop, codes}
use Rattle.std.specs.Option.{unwrap_or}
use Rattle.std.specs.FinMap.{get}
use Rattle.std.specs.List.{AllPass}
use Rattle.s3_model.specs.Counts.{Rose}
use Rattle.s3_model.specs.Files.{FileStore}
use Rattle.s3_model.specs.TempNames.{is_lower_hex}
use Rattle.local_files.specs.Calls.{Call, DropTemp, Fault, MakeTemp, Remove, Rename, Stamp, WriteAt, folder_of}
use Rattle.local_files.specs.Calls as calls
use Rattle.local_files.specs.Changes.{Changes, IsInTheWay}
use Rattle.s3_outside.specs.Files.{SeenFiles, called}
use Rattle.s3_outside.specs.declared.files.FileFault.{FileFault}
use Rattle.s3_outside.specs.declared.files.FileFault.TheVariants as fault
use Rattle.s3_outside.specs.declared.files.FileNote.{FileNote}
use Rattle.s3_outside.specs.declared.files.FileNote.TheVariants as note
use Rattle.s3_outside.specs.declared.files.Temp.{Temp}

-- ---- answers

-- a fault of the disk comes only where the count rose
abbrev pub HasRisen : (before after : ℕ) → FileFault → Type 0
HasRisen before after fault.Failed = Rose before after
HasRisen before after other = Unit {0}

-- something in the way is named by the first bytes of the destination, up to the end of a character
abbrev pub NamesFront : List ℕ → FileFault → Type 0
NamesFront dest (fault.Blocked n) = (n ≤ length dest) × IsCharBoundary dest n
NamesFront dest other = Unit {0}

-- and it is in the way
abbrev pub HasObstacle : FileStore → List ℕ → FileFault → Type 0
HasObstacle store dest (fault.Blocked n) = IsInTheWay store dest n
HasObstacle store dest other = Unit {0}

-- it names so many bytes, if it names something in the way
abbrev pub IsBlockedAt : ℕ → FileFault → Type 0
IsBlockedAt length (fault.Blocked n) = n ≡ length
IsBlockedAt length fault.Failed = Unit {0}
IsBlockedAt length fault.Memory = ⊥

abbrev pub IsBlocked : FileFault → Type 0
IsBlocked (fault.Blocked n) = Unit {0}
IsBlocked other = ⊥

-- how many names of a folder are no text
abbrev pub unnamed_in : FileStore → List ℕ → ℕ
unnamed_in store folder = unwrap_or (get store.unnamed folder) 0

-- ---- temporary files

-- the longest front of a name of at most 239 bytes that ends a character
pub record IsStem (name stem : List ℕ) : Type 0 where
  pub count : ℕ
  pub front : stem ≡ take count name
  pub short : count ≤ 239
  pub whole : IsCharBoundary name count
  pub longest : (n : ℕ) → n ≤ 239 → IsCharBoundary name n → n ≤ count

-- the path of a temporary file: that of its destination, with its name cut, `.`, eight lower-case hex digits and
-- `.s3part`
pub record IsTempPath (dest temp : List ℕ) : Type 0 where
  pub stem : List ℕ
  pub digits : List ℕ
  pub path : temp ≡ folder_of dest ++ stem ++ codes "." ++ digits ++ codes ".s3part"
  pub cut : IsStem (drop (length (folder_of dest)) dest) stem
  pub eight : length digits ≡ 8
  pub hex : AllPass is_lower_hex digits

-- ---- what a call leaves

abbrev pub fault_of : FileFault → Fault
fault_of fault.Failed = calls.Failed
fault_of (fault.Blocked n) = calls.Blocked n
fault_of fault.Memory = calls.Memory

abbrev pub result_of : Result (List ℕ) FileFault → Result (List ℕ) Fault
result_of (Ok path) = Ok path
result_of (Err why) = Err (fault_of why)

abbrev pub why_not : Result Unit FileFault → Option Fault
why_not (Ok done) = None
why_not (Err why) = Some (fault_of why)

-- the call that a note tells, where it is one that changes files
abbrev pub call_of : FileNote → Option Call
call_of (note.MakeTemp dest answer) = Some (MakeTemp dest (result_of answer))
call_of (note.WriteAt temp at bytes answer) = Some (WriteAt temp at bytes (is_ok answer))
call_of (note.Rename temp dest answer) = Some (Rename temp dest (why_not answer))
call_of (note.DropTemp temp answer) = Some (DropTemp temp (is_ok answer))
call_of (note.Remove path answer) = Some (Remove path (is_ok answer))
call_of (note.Stamp path micros answer) = Some (Stamp path micros (is_ok answer))
call_of other = None

abbrev pub fault_in : {T : Type 0} → Result T FileFault → Option FileFault
fault_in (Ok found) = None
fault_in (Err why) = Some why

abbrev pub path_of : Result Temp FileFault → Result (List ℕ) FileFault
path_of (Ok temp) = Ok temp.path
path_of (Err why) = Err why

abbrev pub answer_of : Result Unit (Temp × FileFault) → Result Unit FileFault
answer_of (Ok done) = Ok done
answer_of (Err back) = Err back.1

abbrev pub asked_names : {T : Type 0} → List ℕ → Result T FileFault → SeenFiles → SeenFiles
asked_names folder answer = called (note.Names folder (fault_in answer))

-- the call stands in the list, and changed the files as such a call does
pub record HasMade (told : FileNote) (old new : SeenFiles) : Type 0 where
  pub calls : new.calls ≡ old.calls ++ told ∷ []
  pub files : IfSome (call_of told) (λ call. Changes call old.store new.store)

-- the same, as far as files are seen; where memory for what is seen ran out, a fault is counted
abbrev pub IsMade : FileNote → (old new : Option SeenFiles) → (before after : ℕ) → Type 0
IsMade told None None before after = Unit {0}
IsMade told None (Some new) before after = ⊥
IsMade told (Some old) None before after = Rose before after
IsMade told (Some old) (Some new) before after = HasMade told old new
