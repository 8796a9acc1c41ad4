-- Calls that change local files, with their answers: what each makes of the files, and what it leaves where it failed.
use Rattle.std.specs.Prelude.{◌≡◌, ◌≢◌, ◌⊎◌, ◌+◌, ◌-◌, ◌++◌, ◌==◌, ℕ, Bool, true, false, List, [], ◌∷◌, Option, Some}
use Rattle.std.specs.Prelude.{None, Result, Ok, IsSome, length, take, drop, replicate, if◌then◌else◌}
use Rattle.std.specs.FinMap.{get, insert, remove}
use Rattle.std.specs.List.{list_any}
use Rattle.s3_model.specs.Files.{HeldFile}
use Rattle.s3_model.specs.Maps.{MapOf}
use Rattle.s3_model.specs.TempNames.{is_temp_name}

-- ---- calls

-- why a call did not succeed: a fault of the disk, something that stands in the way of the destination, named by the
-- first `length` bytes of its path, or memory that ran out
pub data Fault : Type 0 where
  Failed : Fault
  Blocked : (length : ℕ) → Fault
  Memory : Fault

-- A call with its answer: the path of the temporary file or why none was made, whether the call succeeded, or why the
-- file was not renamed.
pub data Call : Type 0 where
  MakeTemp : (dest : List ℕ) → (answer : Result (List ℕ) Fault) → Call
  WriteAt : (temp : List ℕ) → (at : ℕ) → (bytes : List ℕ) → (fine : Bool) → Call
  Rename : (temp : List ℕ) → (dest : List ℕ) → (fault : Option Fault) → Call
  DropTemp : (temp : List ℕ) → (fine : Bool) → Call
  Remove : (path : List ℕ) → (fine : Bool) → Call
  Stamp : (path : List ℕ) → (micros : ℕ) → (fine : Bool) → Call

-- ---- what a call makes of the files

-- a path up to its last `/`
abbrev pub folder_of : List ℕ → List ℕ
folder_of [] = []
folder_of (byte ∷ path) = if list_any (λ (b : ℕ). b == 47) (byte ∷ path) then byte ∷ folder_of path else []

-- another path in the folder of the destination, with the name of a temporary file
abbrev pub IsTempFor : List ℕ → List ℕ → Type 0
IsTempFor dest temp = (temp ≢ dest) × (folder_of temp ≡ folder_of dest) × (is_temp_name temp ≡ true)

-- bytes written over others from an offset on, with zeros up to that offset where they end before it
abbrev pub written_at : ℕ → List ℕ → List ℕ → List ℕ
written_at at bytes old = take at (old ++ replicate (at - length old) 0) ++ bytes ++ drop (at + length bytes) old

-- A file has these bytes at that path, with some time, and all else is as it was.
abbrev pub Puts : List ℕ → List ℕ → MapOf HeldFile → MapOf HeldFile → Type 0
Puts path bytes old new = (micros : ℕ) × (new ≡ insert old path (record { bytes = bytes; micros = micros }))

-- The files before and after a call. A call that failed leaves them as they were; only a write that failed may leave
-- any bytes in its temporary file, where that is there.
abbrev pub Leads : Call → MapOf HeldFile → MapOf HeldFile → Type 0
Leads (MakeTemp dest (Ok temp)) old new = IsTempFor dest temp × (get old temp ≡ None) × Puts temp [] old new
Leads (WriteAt temp at bytes true) old new = (file : HeldFile) × (get old temp ≡ Some file)
    × Puts temp (written_at at bytes file.bytes) old new
Leads (WriteAt temp at bytes false) old new = (new ≡ old)
    ⊎ (IsSome (get old temp) × (any : List ℕ) × Puts temp any old new)
Leads (Rename temp dest None) old new = (file : HeldFile) × (get old temp ≡ Some file)
    × (new ≡ insert (remove old temp) dest file)
Leads (DropTemp temp true) old new = new ≡ remove old temp
Leads (Remove path true) old new = new ≡ remove old path
Leads (Stamp path micros true) old new = (file : HeldFile) × (get old path ≡ Some file)
    × (new ≡ insert old path (record file { micros = micros }))
Leads call old new = new ≡ old

-- ---- runs of calls

-- a call that was made, and the files after it
pub record CallStep : Type 0 where
  pub call : Call
  pub held : MapOf HeldFile

-- calls one after another, from these files on
abbrev pub IsCallRun : MapOf HeldFile → List CallStep → Type 0
IsCallRun old [] = Unit {0}
IsCallRun old (step ∷ steps) = Leads step.call old step.held × IsCallRun step.held steps

-- the files after the last of them
abbrev pub held_after : MapOf HeldFile → List CallStep → MapOf HeldFile
held_after old [] = old
held_after old (step ∷ steps) = held_after step.held steps
