-- Tasks whose destination is a file, and files that are moved: which calls on files a run makes for them, and when.
use Rattle.std.specs.Prelude.{◌≡◌, ◌≢◌, ◌⊎◌, ◌≤◌, ◌++◌, ℕ, Bool, true, false, List, [], ◌∷◌, Option, Some, None, Ok}
use Rattle.std.specs.Prelude.{IsSome, Contains, AllPairs, length, map, slice_get}
use Rattle.std.specs.FinMap.{get}
use Rattle.s3_model.specs.declared.answers.Class.{Class}
use Rattle.s3_model.specs.declared.answers.Class.TheVariants as class
use Rattle.s3_model.specs.declared.answers.Reply.{Reply}
use Rattle.s3_model.specs.declared.answers.Reply.TheVariants as reply
use Rattle.s3_model.specs.declared.places.Place.TheVariants as place
use Rattle.s3_model.specs.declared.requests.Ask.{Ask}
use Rattle.s3_model.specs.declared.requests.Op.TheVariants as op
use Rattle.s3_model.specs.declared.tasks.Kind.{Kind}
use Rattle.s3_model.specs.declared.tasks.Kind.TheVariants as kind
use Rattle.s3_model.specs.declared.tasks.Task.{Task}
use Rattle.s3_model.specs.Files.{HeldFile}
use Rattle.s3_model.specs.Maps.{MapOf}
use Rattle.s3_model.specs.Parts.{HasPieces, piece_range}
use Rattle.s3_model.specs.Talks.{Talk}
use Rattle.s3_model.specs.TempNames.{is_temp_name}
use Rattle.run_promise.specs.Dispatches.{IsCompletedWell, ShowsIn}
use Rattle.job_terms.specs.Dispatches.{Attempt, Dispatched, last_of}
use Rattle.run_promise.specs.Endings.{Excused, IsLeft, IsUntimed}
use Rattle.job_terms.specs.Ops.{deciding}
use Rattle.run_promise.specs.Schedule.{HasReply, IsBefore, IsFailed, Setting, is_small}
use Rattle.job_terms.specs.Jobs.{job_of}
use Rattle.local_files.specs.Calls.{Call, CallStep, DropTemp, Fault, MakeTemp, Remove, Rename, Stamp, WriteAt}
use Rattle.local_files.specs.Calls.{IsCallRun, held_after}

-- ---- the calls of a run

-- a call that was made for a task, and how many events of the journal stood before it
pub record TaskCall : Type 0 where
  pub task : ℕ
  pub events_before : ℕ
  pub step : CallStep

abbrev pub steps_of : List TaskCall → List CallStep
steps_of calls = map (λ (c : TaskCall). c.step) calls

-- the files after calls
abbrev pub files_after : MapOf HeldFile → List TaskCall → MapOf HeldFile
files_after held calls = held_after held (steps_of calls)

-- Which calls a task makes. A download makes, writes, renames or drops its temporary file, and sets the time of its
-- destination. The removal of a file removes it, and an upload that moves its file removes this.
abbrev pub IsCallFor : Task → Kind → Call → Type 0
IsCallFor task kind.Download (MakeTemp dest answer) = task.dest ≡ place.File dest
IsCallFor task kind.Download (WriteAt temp at bytes fine) = Unit {0}
IsCallFor task kind.Download (Rename temp dest fault) = task.dest ≡ place.File dest
IsCallFor task kind.Download (DropTemp temp fine) = Unit {0}
IsCallFor task kind.Download (Stamp path micros fine) = (task.dest ≡ place.File path) × (micros ≡ task.micros)
IsCallFor task kind.RemoveFile (Remove path fine) = task.dest ≡ place.File path
IsCallFor task kind.Upload (Remove path fine) = (task.moves ≡ true) × (task.source ≡ Some (place.File path))
IsCallFor task of_kind call = ⊥

-- Which call of a task may come after which: one temporary file, each offset written once, one rename, and nothing
-- after a failed call but the drop.
abbrev pub MayFollow : (earlier later : Call) → Type 0
MayFollow (MakeTemp dest (Ok temp)) (WriteAt same at bytes fine) = same ≡ temp
MayFollow (MakeTemp dest (Ok temp)) (Rename same to fault) = same ≡ temp
MayFollow (MakeTemp dest (Ok temp)) (DropTemp same fine) = same ≡ temp
MayFollow (MakeTemp dest (Ok temp)) (Stamp path micros fine) = Unit {0}
MayFollow (WriteAt temp at bytes true) (WriteAt same other more fine) = other ≢ at
MayFollow (WriteAt temp at bytes true) (Rename same dest fault) = Unit {0}
MayFollow (WriteAt temp at bytes true) (DropTemp same fine) = Unit {0}
MayFollow (WriteAt temp at bytes true) (Stamp path micros fine) = Unit {0}
MayFollow (WriteAt temp at bytes false) (DropTemp same fine) = Unit {0}
MayFollow (Rename temp dest (Some fault)) (DropTemp same fine) = Unit {0}
MayFollow (Rename temp dest None) (Stamp path micros fine) = Unit {0}
MayFollow earlier later = ⊥

-- it drops a temporary file or sets the time of a renamed one
abbrev pub IsTidying : Call → Type 0
IsTidying (DropTemp temp fine) = Unit {0}
IsTidying (Stamp path micros fine) = Unit {0}
IsTidying call = ⊥

-- it works on that temporary file
abbrev pub UsesTemp : Call → List ℕ → Type 0
UsesTemp (WriteAt temp at bytes fine) path = temp ≡ path
UsesTemp (Rename temp dest fault) path = temp ≡ path
UsesTemp (DropTemp temp fine) path = temp ≡ path
UsesTemp call path = ⊥

-- ---- calls that were made

-- the call came after these, and whatever came next
abbrev pub ComesAfter : List TaskCall → List TaskCall → TaskCall → Type 0
ComesAfter calls front c = (back : List TaskCall) × (calls ≡ front ++ c ∷ back)

-- a temporary file was made for the task
abbrev pub IsMade : List TaskCall → ℕ → List ℕ → Type 0
IsMade calls n temp =
    (c : TaskCall) × Contains calls c × (c.task ≡ n) × (dest : List ℕ) × (c.step.call ≡ MakeTemp dest (Ok temp))

-- its destination was replaced
abbrev pub IsRenamed : List TaskCall → ℕ → Type 0
IsRenamed calls n =
    (c : TaskCall) × Contains calls c × (c.task ≡ n) × (temp : List ℕ) × (dest : List ℕ)
    × (c.step.call ≡ Rename temp dest None)

abbrev pub IsDropped : List TaskCall → ℕ → Type 0
IsDropped calls n =
    (c : TaskCall) × Contains calls c × (c.task ≡ n) × (temp : List ℕ) × (fine : Bool)
    × (c.step.call ≡ DropTemp temp fine)

abbrev pub IsStamped : List TaskCall → ℕ → Type 0
IsStamped calls n =
    (c : TaskCall) × Contains calls c × (c.task ≡ n) × (path : List ℕ) × (micros : ℕ) × (fine : Bool)
    × (c.step.call ≡ Stamp path micros fine)

-- the drop of that temporary file failed
abbrev pub HasFailedDrop : List TaskCall → List ℕ → Type 0
HasFailedDrop calls temp = (c : TaskCall) × Contains calls c × (c.step.call ≡ DropTemp temp false)

-- the time of that file could not be set
abbrev pub HasFailedStamp : List TaskCall → List ℕ → Type 0
HasFailedStamp calls path =
    (c : TaskCall) × Contains calls c × (micros : ℕ) × (c.step.call ≡ Stamp path micros false)

-- the file that it was to remove was removed
abbrev pub IsRemoved : List TaskCall → ℕ → Type 0
IsRemoved calls n = (c : TaskCall) × Contains calls c × (c.task ≡ n) × (path : List ℕ)
    × (c.step.call ≡ Remove path true)

-- ---- the plan

-- a task of the plan with that file as its destination
abbrev pub IsTaskTo : List Task → ℕ → Task → List ℕ → Type 0
IsTaskTo tasks n task path = (slice_get tasks n ≡ Some task) × (task.dest ≡ place.File path)

-- a task of the plan that moves that file
abbrev pub IsMoveOf : List Task → ℕ → Task → List ℕ → Type 0
IsMoveOf tasks n task path = (slice_get tasks n ≡ Some task) × (task.moves ≡ true)
    × (task.source ≡ Some (place.File path))

-- What a plan makes sure of.
pub record AreFilesApart (held : MapOf HeldFile) (tasks : List Task) : Type 0 where
  -- no two tasks have one destination
  pub destinations : (m n : ℕ) (a b : Task) (path : List ℕ) → IsTaskTo tasks m a path → IsTaskTo tasks n b path → m ≡ n
  -- no destination is a file that is moved, and no file is moved twice
  pub sources : (m n : ℕ) (a b : Task) (path : List ℕ) → IsMoveOf tasks m a path → IsTaskTo tasks n b path → ⊥
  pub moved_once : (m n : ℕ) (a b : Task) (path : List ℕ) → IsMoveOf tasks m a path → IsMoveOf tasks n b path → m ≡ n
  -- only an upload moves a file, and a plan that moves files downloads nothing
  pub uploads : (n : ℕ) (task : Task) (path : List ℕ) → IsMoveOf tasks n task path → task.kind ≡ kind.Upload
  pub one_way : (m n : ℕ) (a b : Task) (path : List ℕ) → IsMoveOf tasks m a path → slice_get tasks n ≡ Some b
      → b.kind ≡ kind.Download → ⊥
  -- a download to a path with the name of a temporary file is the only one
  pub names : (m n : ℕ) (a b : Task) (path : List ℕ) → IsTaskTo tasks m a path → slice_get tasks n ≡ Some b
      → a.kind ≡ kind.Download → b.kind ≡ kind.Download → is_temp_name path ≡ true → m ≡ n
  -- a file that is to be removed is there
  pub there : (n : ℕ) (task : Task) (path : List ℕ) → IsTaskTo tasks n task path → task.kind ≡ kind.RemoveFile
      → IsSome (get held path)

-- offset and length of what a Get of that number is to bring: the whole, or a piece
abbrev pub IsRangeIn : Bool → (size piece count number at length_of : ℕ) → Type 0
IsRangeIn true size piece count number at length_of = (number ≡ 0) × (at ≡ 0) × (length_of ≡ size)
IsRangeIn false size piece count number at length_of = (1 ≤ number) × (number ≤ count)
    × (piece_range size piece number ≡ (at, length_of))

abbrev pub IsRange : Setting → Task → (number at length_of : ℕ) → Type 0
IsRange s task number at length_of =
    (piece : ℕ) × (count : ℕ) × HasPieces s.config s.limits task.kind task.size piece count
    × IsRangeIn (is_small s task) task.size piece count number at length_of

-- each range of a download was written to that temporary file
pub record AreWritten (s : Setting) (calls : List TaskCall) (n : ℕ) (task : Task) (temp : List ℕ) : Type 0 where
  pub piece : ℕ
  pub count : ℕ
  pub pieces : HasPieces s.config s.limits task.kind task.size piece count
  pub each : (number at length_of : ℕ) → IsRangeIn (is_small s task) task.size piece count number at length_of
      → (w : TaskCall) × Contains calls w × (w.task ≡ n) × (bytes : List ℕ) × (w.step.call ≡ WriteAt temp at bytes true)

-- a run as files see it: what it began with, what its warnings except, its dispatched requests, and its calls on files
pub record FileRun : Type 0 where
  pub setting : Setting
  pub excused : Excused
  pub dispatched : List Dispatched
  -- the same in the order of their coming
  pub coming : List Dispatched
  pub calls : List TaskCall

-- `Shows ask limit talk class bytes`: the talk has that class for the ask, and its answer that body
module _ (Shows : Ask → ℕ → Talk → Class → List ℕ → Type 0) where
  -- a Get of the task came before that place of the journal with what was asked for: these bytes, which belong there
  pub record IsBody (s : Setting) (dispatched : List Dispatched) (n : ℕ) (task : Task) (before at : ℕ) (bytes : List ℕ)
      : Type 0 where
    pub get : Dispatched
    pub known : Contains dispatched get
    pub number : ℕ
    pub is_get : get.dispatch.job ≡ job_of n op.Get number
    pub came : IsBefore get.dispatch.came_at before
    pub well : IsCompletedWell Shows get
    pub attempt : Attempt
    pub is_last : last_of get.dispatch.attempts ≡ Some attempt
    pub status : ℕ
    pub told : Option (ℕ × ℕ × ℕ)
    pub size : ℕ
    pub shows : ShowsIn Shows get attempt (class.Success (reply.Got status told size)) bytes
    pub range : IsRange s task number at (length bytes)

  -- the request that decides a task came before that place of the journal with success
  abbrev pub IsDecidedBefore : Setting → List Dispatched → ℕ → Task → ℕ → Type 0
  IsDecidedBefore s dispatched n task before =
      (c : Dispatched) × Contains dispatched c × (c.dispatch.job ≡ job_of n (deciding task.kind (is_small s task)) 0)
      × IsBefore c.dispatch.came_at before
      × ((answered : Reply) × HasReply Shows c (last_of c.dispatch.attempts) answered)

  -- a request of the task failed before that place of the journal
  abbrev pub HasFailedBefore : Setting → List Dispatched → ℕ → ℕ → Type 0
  HasFailedBefore s coming n before = (failed : Dispatched) × IsFailed Shows s coming failed
      × (failed.dispatch.job.task ≡ Some n) × IsBefore failed.dispatch.came_at before

  -- What the calls on files of a run keep to.
  pub record AreFileCalls (s : Setting) (excused : Excused) (dispatched coming : List Dispatched)
      (calls : List TaskCall) : Type 0 where
    -- each is one that its task makes; they stand in the order of the journal; and a dry run makes none
    pub named : (c : TaskCall) → Contains calls c → (task : Task) × (slice_get s.tasks c.task ≡ Some task)
        × IsCallFor task task.kind c.step.call
    pub in_order : AllPairs (λ (a b : TaskCall). a.events_before ≤ b.events_before) calls
    pub dry : s.dryrun ≡ true → calls ≡ []
    -- those of one task follow each other as they may
    pub order : (front : List TaskCall) (earlier later : TaskCall) → ComesAfter calls front later
        → Contains front earlier → earlier.task ≡ later.task
        → MayFollow earlier.step.call later.step.call
    -- after the run was cancelled, or a request of the task failed, it only tidies up
    pub stops : (c : TaskCall) → Contains calls c
        → IsBefore s.cancelled_at c.events_before ⊎ HasFailedBefore s coming c.task c.events_before
        → IsTidying c.step.call
    -- a temporary file is made before it is used, and before any Get of its task is given
    pub made : (front : List TaskCall) (c : TaskCall) (temp : List ℕ) → ComesAfter calls front c
        → UsesTemp c.step.call temp → IsMade front c.task temp
    pub made_first : (get : Dispatched) (n number : ℕ) → Contains dispatched get
        → get.dispatch.job ≡ job_of n op.Get number
        → (c : TaskCall) × Contains calls c × (c.task ≡ n) × (dest : List ℕ) × (temp : List ℕ)
        × (c.step.call ≡ MakeTemp dest (Ok temp))
        × (c.events_before ≤ get.dispatch.given_at)
    -- what is written is the body of a Get of the task, at its offset
    pub writes : (c : TaskCall) (task : Task) (temp : List ℕ) (at : ℕ) (bytes : List ℕ) (fine : Bool) → Contains calls c
        → slice_get s.tasks c.task ≡ Some task → c.step.call ≡ WriteAt temp at bytes fine
        → IsBody s dispatched c.task task c.events_before at bytes
    -- the file is renamed only once each range was written
    pub renames : (front : List TaskCall) (c : TaskCall) (task : Task) (temp dest : List ℕ) (fault : Option Fault)
        → ComesAfter calls front c
        → slice_get s.tasks c.task ≡ Some task → c.step.call ≡ Rename temp dest fault
        → AreWritten s front c.task task temp
    -- a renamed file, and no other, has its time set; where this failed a warning says so, and nowhere else
    pub stamps : (n : ℕ) → IsRenamed calls n → IsStamped calls n
    pub stamps_last : (front : List TaskCall) (c : TaskCall) (path : List ℕ) (micros : ℕ) (fine : Bool)
        → ComesAfter calls front c
        → c.step.call ≡ Stamp path micros fine → IsRenamed front c.task
    pub untimed : (c : TaskCall) (path : List ℕ) (micros : ℕ) → Contains calls c → c.step.call ≡ Stamp path micros false
        → IsUntimed excused path
    pub untimed_only : (path : List ℕ) → Contains excused.untimed path → HasFailedStamp calls path
    -- a temporary file is renamed or dropped; where the drop failed a warning says so, and nowhere else
    pub drops : (n : ℕ) (temp : List ℕ) → IsMade calls n temp → IsRenamed calls n ⊎ IsDropped calls n
    pub left : (c : TaskCall) (temp : List ℕ) → Contains calls c → c.step.call ≡ DropTemp temp false
        → IsLeft excused temp
    pub left_only : (temp : List ℕ) → Contains excused.left temp → HasFailedDrop calls temp
    -- a moved file is removed only after the success that decides its task
    pub moves_last : (c : TaskCall) (task : Task) (path : List ℕ) (fine : Bool) → Contains calls c
        → slice_get s.tasks c.task ≡ Some task
        → task.kind ≡ kind.Upload → c.step.call ≡ Remove path fine
        → IsDecidedBefore s dispatched c.task task c.events_before
    -- the Delete of a downloaded object is given only after the file was renamed
    pub deletes_last : (delete : Dispatched) (n : ℕ) (task : Task) → Contains dispatched delete
        → delete.dispatch.job.task ≡ Some n
        → delete.dispatch.job.op ≡ op.Delete → slice_get s.tasks n ≡ Some task → task.kind ≡ kind.Download
        → (c : TaskCall) × Contains calls c × (c.task ≡ n) × (temp : List ℕ) × (dest : List ℕ)
        × (c.step.call ≡ Rename temp dest None)
        × (c.events_before ≤ delete.dispatch.given_at)

  -- the calls keep to their clauses, follow from the files at the start, and the plan is apart
  pub record AreCalls (run : FileRun) : Type 0 where
    pub keep : AreFileCalls run.setting run.excused run.dispatched run.coming run.calls
    pub runs : IsCallRun run.setting.held (steps_of run.calls)
    pub apart : AreFilesApart run.setting.held run.setting.tasks
