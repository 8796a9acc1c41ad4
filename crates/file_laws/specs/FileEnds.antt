-- Tasks whose destination is a file end as their outcomes say, and moved files go only where their tasks are done.
use Rattle.std.specs.Prelude.{◌≡◌, ◌⊎◌, ℕ, false, List, Some, Err, Contains, slice_get}
use Rattle.s3_model.specs.declared.answers.Class.{Class}
use Rattle.s3_model.specs.declared.outcomes.Cause.{Cause}
use Rattle.s3_model.specs.declared.outcomes.Cause.TheVariants as cause
use Rattle.s3_model.specs.declared.outcomes.FileCall.{FileCall}
use Rattle.s3_model.specs.declared.outcomes.FileCall.TheVariants as call
use Rattle.s3_model.specs.declared.outcomes.Outcome.{Outcome}
use Rattle.s3_model.specs.declared.outcomes.Outcome.TheVariants as outcome
use Rattle.s3_model.specs.declared.places.Place.TheVariants as place
use Rattle.s3_model.specs.declared.requests.Ask.{Ask}
use Rattle.s3_model.specs.declared.tasks.Kind.{Kind}
use Rattle.s3_model.specs.declared.tasks.Kind.TheVariants as kind
use Rattle.s3_model.specs.declared.tasks.Task.{Task}
use Rattle.s3_model.specs.Talks.{Talk}
use Rattle.job_terms.specs.Dispatches.{Dispatched}
use Rattle.run_promise.specs.Endings.{IsEnded}
use Rattle.run_promise.specs.Outcomes.{HasOutcome}
use Rattle.run_promise.specs.Traces.{Step}
use Rattle.run_promise.specs.Truthful.{OtherFilesStay, Shown, run_shown}
use Rattle.run_promise.specs.Runs.{HasEndedBy, Run, moments}
use Rattle.local_files.specs.Calls.{Blocked, Call, Failed, MakeTemp, Remove, Rename, WriteAt}
use Rattle.run_promise.specs.FileOutcomes.{IsFileLeft, IsByFiles, HasFailedAct, IsDestChanged, IsShownByCalls, IsMoveShown}
use Rattle.world_laws.specs.Promises.{AreFilesLeft}
use Rattle.world_laws.specs.Tasks.{HasSourceObject, IsScheduled, IsTraceOf, MayBeNew, scene_after, scene_before}
use Rattle.run_promise.specs.FileCalls.{AreCalls, FileRun}
use Rattle.run_promise.specs.FileCalls.{IsMoveOf, IsRemoved, IsRenamed, TaskCall, files_after}

-- ---- what calls show

-- a call of that kind failed
abbrev pub IsFailedCall : FileCall → Call → Type 0
IsFailedCall call.Create (MakeTemp dest (Err Failed)) = Unit {0}
IsFailedCall call.Write (WriteAt temp at bytes false) = Unit {0}
IsFailedCall call.Rename (Rename temp dest (Some Failed)) = Unit {0}
IsFailedCall call.Remove (Remove path false) = Unit {0}
IsFailedCall of_call other = ⊥

-- something stood in the way, which the first `length` bytes of the destination name
abbrev pub IsBlockedCall : ℕ → Call → Type 0
IsBlockedCall length (MakeTemp dest (Err (Blocked front))) = front ≡ length
IsBlockedCall length (Rename temp dest (Some (Blocked front))) = front ≡ length
IsBlockedCall length other = ⊥

-- A call of the task failed so. Reads are no part of these calls.
abbrev pub HasFailedCall : List TaskCall → ℕ → Cause → Type 0
HasFailedCall calls n (cause.Files of_call) = (c : TaskCall) × Contains calls c × (c.task ≡ n)
    × IsFailedCall of_call c.step.call
HasFailedCall calls n (cause.Blocked length) = (c : TaskCall) × Contains calls c × (c.task ≡ n)
    × IsBlockedCall length c.step.call
HasFailedCall calls n other = ⊥

-- `Shows ask limit talk class bytes`: the talk has that class for the ask, and its answer that body
module _ (Shows : Ask → ℕ → Talk → Class → List ℕ → Type 0) where
  -- So a run that ends with the files that its calls left keeps what it promises of all other files.
  abbrev pub PromisedFilesStay : Type 0
  PromisedFilesStay = (shown : Shown) (dispatched coming : List Dispatched) (calls : List TaskCall)
      → AreCalls Shows (run_shown shown dispatched coming calls)
      → shown.held_after ≡ files_after shown.setting.held calls → OtherFilesStay shown

  -- Where the calls show the removal of a moved file just where its task is done, the file goes just there.
  abbrev pub MovedFilesAreLeft : Type 0
  MovedFilesAreLeft = (shown : Shown) (dispatched coming : List Dispatched) (calls : List TaskCall)
      → AreCalls Shows (run_shown shown dispatched coming calls)
      → shown.held_after ≡ files_after shown.setting.held calls
      → ((n : ℕ) (task : Task) (how : Outcome) (path : List ℕ) → IsMoveOf shown.setting.tasks n task path
      → slice_get shown.outcomes n ≡ Some how → IsMoveShown how (IsRemoved calls n) (HasFailedAct calls n))
      → AreFilesLeft shown

  -- `HasStatus ask limit talk status`: the talk's answer has that HTTP status;
  -- `CallFailed n why`: the calls on files show that one of task n failed so
  module _ (HasStatus : Ask → ℕ → Talk → ℕ → Type 0) (CallFailed : ℕ → Cause → Type 0) where
    -- A task that calls on files decide ended as its outcome says, over every honest trace, where that outcome is what
    -- its jobs and its calls show.
    -- The source of a download is to be as planned only where its destination may be new.
    abbrev pub FileTaskEnds : Type 0
    FileTaskEnds = (run : FileRun) (over : Run) (part : List Step) → over.dispatched ≡ run.dispatched
        → AreCalls Shows run → IsScheduled Shows run.setting over.journal run.dispatched run.coming
        → IsTraceOf Shows run.setting over → HasEndedBy over part → (n : ℕ) (task : Task) (how : Outcome)
        → slice_get run.setting.tasks n ≡ Some task → IsByFiles task
        → (MayBeNew how → task.kind ≡ kind.Download → HasSourceObject (moments over) task)
        → HasOutcome Shows HasStatus CallFailed run.setting run.dispatched run.coming n task how
        → IsShownByCalls how (IsDestChanged task.kind run.calls n) (HasFailedAct run.calls n)
        → IsEnded run.excused over (scene_before run.setting over)
        (scene_after run.setting (files_after run.setting.held run.calls) over part) n task how
