-- Runs of plans whose tasks are each decided by requests or by calls on files: how each task ended, and that
-- nothing else changes.
use Rattle.std.specs.Prelude.{◌≡◌, ◌⊎◌, ℕ, true, List, Some, slice_get}
use Rattle.s3_model.specs.declared.answers.Class.{Class}
use Rattle.s3_model.specs.declared.outcomes.Cause.{Cause}
use Rattle.s3_model.specs.declared.outcomes.Outcome.{Outcome}
use Rattle.s3_model.specs.declared.requests.Ask.{Ask}
use Rattle.s3_model.specs.declared.tasks.Kind.{Kind}
use Rattle.s3_model.specs.declared.tasks.Kind.TheVariants as kind
use Rattle.s3_model.specs.declared.tasks.Task.{Task}
use Rattle.s3_model.specs.Talks.{Talk}
use Rattle.s3_service.specs.ServiceState.{State}
use Rattle.job_terms.specs.Dispatches.{Dispatched}
use Rattle.run_promise.specs.Schedule.{Setting, is_small}
use Rattle.run_promise.specs.Runs.{Run, moments}
use Rattle.run_promise.specs.Truthful.{FitsShown, HoldsOver, OtherFilesStay, Shown, AreToldByCalls}
use Rattle.world_laws.specs.Promises.{IsByRequests, IsCarriedOut}
use Rattle.world_laws.specs.Tasks.{HasSource, HasSourceObject, MayBeNew}
use Rattle.run_promise.specs.FileOutcomes.{HasFailedAct, IsByFiles, IsDestChanged, IsMoveShown, IsShownByCalls}
use Rattle.run_promise.specs.Truthful.{run_shown}
use Rattle.run_promise.specs.FileCalls.{AreCalls}
use Rattle.run_promise.specs.FileCalls.{IsMoveOf, IsRemoved, TaskCall, files_after}

-- what planning made sure of the source of a task, of every kind
abbrev pub HasPlannedSource : Setting → List State → Task → Kind → Type 0
HasPlannedSource s moments task kind.Download = HasSourceObject moments task
HasPlannedSource s moments task kind.RemoveFile = Unit {0}
HasPlannedSource s moments task of_kind = HasSource s.held moments task of_kind (is_small s task)

-- A task counts as one whose file call failed where a call that carries it out failed, or memory ran out, and nowhere
-- else.
abbrev pub IsCountedByCalls : Setting → List TaskCall → ℕ → Type 0
IsCountedByCalls s calls n = (HasFailedAct calls n → s.file_failed n ≡ true)
    × (s.file_failed n ≡ true → HasFailedAct calls n ⊎ (s.wanted_memory (Some n) ≡ true))

-- `Shows ask limit talk class bytes`: the talk has that class for the ask, and its answer that body;
-- `HasStatus ask limit talk status`: the talk's answer has that HTTP status;
-- `Plans`: the planning jobs, in order, are those that the command needs;
-- `CallFailed n why`: the calls on files show that one of task n failed so
module _ (Shows : Ask → ℕ → Talk → Class → List ℕ → Type 0) (HasStatus : Ask → ℕ → Talk → ℕ → Type 0)
    (Plans : List Dispatched → Type 0) (CallFailed : ℕ → Cause → Type 0) where
  -- What is carried out over wires and files alike.
  pub record IsPlanCarriedOut (request_text : Ask → List ℕ → ℕ → List ℕ) (host : List ℕ) (port : ℕ) (shown : Shown)
      (dispatched coming : List Dispatched) (calls : List TaskCall) : Type 0 where
    pub over_wires : IsCarriedOut Shows HasStatus Plans CallFailed request_text host port shown dispatched coming
    pub over_files : AreToldByCalls Shows shown dispatched coming calls
    pub tasks : (n : ℕ) (task : Task) → slice_get shown.setting.tasks n ≡ Some task → IsByRequests task ⊎ IsByFiles task
    pub counted : (n : ℕ) (task : Task) → slice_get shown.setting.tasks n ≡ Some task → IsByFiles task
        → IsCountedByCalls shown.setting calls n
    -- over every honest trace that fits, a task's source is as planned where its destination may be new
    pub sources : (run : Run) → run.dispatched ≡ dispatched → FitsShown Shows shown run
        → (n : ℕ) (task : Task) (how : Outcome) → slice_get shown.setting.tasks n ≡ Some task
        → slice_get shown.outcomes n ≡ Some how → MayBeNew how
        → HasPlannedSource shown.setting (moments run) task task.kind

  -- Over every honest service each task ended as its outcome says, and no other object and no other file is changed.
  abbrev pub PlanEnds : Type 0
  PlanEnds = (request_text : Ask → List ℕ → ℕ → List ℕ) (host : List ℕ) (port : ℕ) (shown : Shown)
      (dispatched coming : List Dispatched) (calls : List TaskCall)
      → IsPlanCarriedOut request_text host port shown dispatched coming calls
      → HoldsOver Shows shown dispatched × OtherFilesStay shown
