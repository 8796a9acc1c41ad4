-- What the calls on files of a run leave of the files.
use Rattle.std.specs.Prelude.{◌≡◌, ◌⊎◌, ◌++◌, ℕ, Bool, List, Option, Some, None, Contains}
use Rattle.std.specs.FinMap.{get}
use Rattle.s3_model.specs.declared.answers.Class.{Class}
use Rattle.s3_model.specs.declared.outcomes.Event.{Event}
use Rattle.s3_model.specs.declared.requests.Ask.{Ask}
use Rattle.s3_model.specs.declared.tasks.Kind.TheVariants as kind
use Rattle.s3_model.specs.declared.tasks.Task.{Task}
use Rattle.s3_model.specs.Files.{HeldFile}
use Rattle.s3_model.specs.Talks.{Talk}
use Rattle.s3_service.specs.ServiceState.{State}
use Rattle.job_terms.specs.Dispatches.{Dispatched}
use Rattle.run_promise.specs.Endings.{Excused, HasContent, IsLeft, IsUntimed}
use Rattle.run_promise.specs.Schedule.{Setting}
use Rattle.run_promise.specs.Traces.{Step}
use Rattle.run_promise.specs.Truthful.{IsTouchedFile}
use Rattle.local_files.specs.Calls.{IsCallRun, WriteAt}
use Rattle.run_promise.specs.Runs.{Run, moments}
use Rattle.world_laws.specs.Tasks.{HasSourceObject, IsScheduled, IsTraceOf}
use Rattle.run_promise.specs.FileCalls.{AreFileCalls, AreFilesApart, HasFailedDrop, HasFailedStamp, IsDecidedBefore, FileRun, AreCalls}
use Rattle.run_promise.specs.FileCalls.{IsMade, IsMoveOf, IsRemoved, IsRenamed, IsTaskTo, TaskCall, files_after, steps_of}

-- the file at a path: when the run begins, after some of its calls, and after all of them
abbrev pub at_first : FileRun → List ℕ → Option HeldFile
at_first run path = get run.setting.held path

abbrev pub after_calls : FileRun → List TaskCall → List ℕ → Option HeldFile
after_calls run part path = get (files_after run.setting.held part) path

abbrev pub in_the_end : FileRun → List ℕ → Option HeldFile
in_the_end run path = after_calls run run.calls path

-- a temporary file that stayed: its drop failed, and a warning names it or memory ran out for that warning
abbrev pub HasStayed : FileRun → List ℕ → Type 0
HasStayed run temp = HasFailedDrop run.calls temp × IsLeft run.excused temp

-- a file whose time could not be set, and a warning names it or memory ran out for that warning
abbrev pub HasOtherTime : FileRun → List ℕ → Type 0
HasOtherTime run path = HasFailedStamp run.calls path × IsUntimed run.excused path

-- the same run, as a trace of a service shows it, with no page that was refused by its content
abbrev pub with_trace : FileRun → List Event → State → List Step → Run
with_trace run journal start trace =
    record {
      start = start;
      trace = trace;
      journal = journal;
      dispatched = run.dispatched;
      refused_page = None;
    }

-- What holds of the destination of a download, whatever its Gets brought.
pub record IsKeptSafe (run : FileRun) (n : ℕ) (task : Task) (path : List ℕ) : Type 0 where
  -- it is as at the start until its temporary file was renamed
  pub old : (part late : List TaskCall) → run.calls ≡ part ++ late → ¬ (IsRenamed part n)
      → after_calls run part path ≡ at_first run path
  -- where that was, a file is there in the end, with the planned time, unless setting it failed
  pub timed : IsRenamed run.calls n
      → (file : HeldFile) × (in_the_end run path ≡ Some file)
      × ((file.micros ≡ task.micros) ⊎ HasOtherTime run path)
  -- no call writes to it
  pub unopened : (c : TaskCall) (at : ℕ) (bytes : List ℕ) (fine : Bool) → Contains run.calls c
      → c.step.call ≡ WriteAt path at bytes fine → ⊥
  -- no temporary file of it stays but one whose drop failed
  pub tidy : (temp : List ℕ) → IsMade run.calls n temp → (in_the_end run temp ≡ None) ⊎ HasStayed run temp

-- What holds of a file that no task is to change.
pub record IsUntouched (run : FileRun) (path : List ℕ) : Type 0 where
  -- after each call it is as at the start, or nothing was there and a task made its temporary file there
  pub throughout : (part late : List TaskCall) → run.calls ≡ part ++ late
      → (after_calls run part path ≡ at_first run path)
      ⊎ ((n : ℕ) × IsMade part n path × (at_first run path ≡ None))
  -- in the end it is as at the start, or nothing was there and a temporary file stayed
  pub ended : (in_the_end run path ≡ at_first run path) ⊎ (HasStayed run path × (at_first run path ≡ None))

-- From its rename on it has what its source had at some moment under the planned ETag.
abbrev pub IsDownloaded : FileRun → List State → ℕ → Task → List ℕ → Type 0
IsDownloaded run moments n task path = (part late : List TaskCall) → run.calls ≡ part ++ late → IsRenamed part n
    → (file : HeldFile) × (after_calls run part path ≡ Some file)
    × HasContent run.setting.held moments task.etag task.source file.bytes

-- `Shows ask limit talk class bytes`: the talk has that class for the ask, and its answer that body
module _ (Shows : Ask → ℕ → Talk → Class → List ℕ → Type 0) where
  -- the task made one of these calls after the success that decides it
  abbrev pub IsCalledOnceDecided : FileRun → List TaskCall → ℕ → Task → Type 0
  IsCalledOnceDecided run part n task = (c : TaskCall) × Contains part c × (c.task ≡ n)
      × IsDecidedBefore Shows run.setting run.dispatched n task c.events_before

  -- ---- the laws

  -- Every file is a destination, the source of a move, or untouched.
  abbrev pub FilesStay : Type 0
  FilesStay = (run : FileRun) → AreCalls Shows run → (path : List ℕ)
      → IsTouchedFile run.setting.tasks path ⊎ IsUntouched run path

  -- After a removal that went well the file is absent, unless a temporary file that stayed has its name; until then it
  -- is as before.
  abbrev pub FileIsRemoved : Type 0
  FileIsRemoved = (run : FileRun) → AreCalls Shows run → (n : ℕ) (task : Task) (path : List ℕ)
      → IsTaskTo run.setting.tasks n task path → task.kind ≡ kind.RemoveFile
      → (IsRemoved run.calls n → (in_the_end run path ≡ None) ⊎ HasStayed run path)
      × ((part late : List TaskCall) → run.calls ≡ part ++ late → ¬ (IsRemoved part n)
      → after_calls run part path ≡ at_first run path)

  -- The file of a move is gone after its removal went well, and until then as before; and it goes only after the
  -- success that decides its task.
  abbrev pub FileIsMoved : Type 0
  FileIsMoved = (run : FileRun) → AreCalls Shows run → (n : ℕ) (task : Task) (path : List ℕ)
      → IsMoveOf run.setting.tasks n task path
      → (IsRemoved run.calls n → in_the_end run path ≡ None)
      × ((part late : List TaskCall) → run.calls ≡ part ++ late → ¬ (IsRemoved part n)
      → after_calls run part path ≡ at_first run path)
      × ((part late : List TaskCall) → run.calls ≡ part ++ late → (after_calls run part path ≡ at_first run path)
      ⊎ IsCalledOnceDecided run part n task)

  -- A download leaves its destination as it was until it is renamed, and no temporary file but one whose drop failed.
  abbrev pub FileIsKeptSafe : Type 0
  FileIsKeptSafe = (run : FileRun) → AreCalls Shows run → (n : ℕ) (task : Task) (path : List ℕ)
      → IsTaskTo run.setting.tasks n task path → task.kind ≡ kind.Download → IsKeptSafe run n task path

  -- Over every honest trace of the same dispatched requests, what is renamed has the content of its source.
  abbrev pub FileIsDownloaded : Type 0
  FileIsDownloaded = (run : FileRun) (over : Run) → over.dispatched ≡ run.dispatched → AreCalls Shows run
      → IsScheduled Shows run.setting over.journal run.dispatched run.coming → IsTraceOf Shows run.setting over
      → (n : ℕ) (task : Task) (path : List ℕ) → IsTaskTo run.setting.tasks n task path → task.kind ≡ kind.Download
      → HasSourceObject (moments over) task → IsDownloaded run (moments over) n task path
