-- What a service that does what it may owes to downloads and removals of files: each is done, but one whose file call
-- failed or for which memory ran out.
use Rattle.std.specs.Prelude.{◌≡◌, ℕ, true, List, Some, None, length, slice_get}
use Rattle.s3_model.specs.declared.answers.Class.{Class}
use Rattle.s3_model.specs.declared.outcomes.Cause.{Cause}
use Rattle.s3_model.specs.declared.outcomes.Outcome.{Outcome}
use Rattle.s3_model.specs.declared.requests.Ask.{Ask}
use Rattle.s3_model.specs.declared.tasks.Kind.TheVariants as kind
use Rattle.s3_model.specs.declared.tasks.Task.{Task}
use Rattle.s3_model.specs.Talks.{Talk}
use Rattle.s3_service.specs.ServiceState.{State, Object}
use Rattle.s3_service.specs.Serves.{IsThere}
use Rattle.job_terms.specs.Dispatches.{Dispatched}
use Rattle.run_promise.specs.Runs.{Run}
use Rattle.job_terms.specs.Jobs.{IsObject, IsSource}
use Rattle.run_promise.specs.Traces.{IsWilling}
use Rattle.run_promise.specs.Truthful.{AreCertain, FitsShown, IsAlone, Shown}
use Rattle.world_laws.specs.Completeness.{AreCallsCounted, IsOwed}
use Rattle.run_promise.specs.FileOutcomes.{IsByFiles}
use Rattle.run_promise.specs.FileCalls.{TaskCall}
use Rattle.file_laws.specs.PlanEnds.{IsPlanCarriedOut}

-- What planning made sure of: the source of a download is there when the run begins, under the planned ETag and with the
-- planned size, is no destination of the run, and goes only by this download's move.
pub record IsDownloadThere (tasks : List Task) (start : State) (n : ℕ) (task : Task) : Type 0 where
  pub there : (bucket key : List ℕ) → IsSource task.source bucket key
      → (object : Object) × IsThere start bucket key task.etag object × (length object.bytes ≡ task.size)
  pub no_dest : (m : ℕ) (other : Task) (bucket key : List ℕ) → slice_get tasks m ≡ Some other
      → IsSource task.source bucket key → IsObject other.dest bucket key → ⊥
  pub moved_once : (m : ℕ) (other : Task) (bucket key : List ℕ) → slice_get tasks m ≡ Some other
      → IsSource task.source bucket key → other.moves ≡ true → IsSource other.source bucket key → n ≡ m

-- `Shows ask limit talk class bytes`: the talk has that class for the ask, and its answer that body;
-- `HasStatus ask limit talk status`: the talk's answer has that HTTP status;
-- `Plans`: the planning jobs, in order, are those that the command needs;
-- `CallFailed n why`: the calls on files show that one of task n failed so
module _ (Shows : Ask → ℕ → Talk → Class → List ℕ → Type 0) (HasStatus : Ask → ℕ → Talk → ℕ → Type 0)
    (Plans : List Dispatched → Type 0) (CallFailed : ℕ → Cause → Type 0) where
  -- Over a willing service, with each answer certain, nobody else writing, and no cancel, such a run owes nothing to a
  -- task that calls on files decide and whose source, if it is a download, is there.
  abbrev pub WillingFilesAreDone : Type 0
  WillingFilesAreDone = (request_text : Ask → List ℕ → ℕ → List ℕ) (host : List ℕ) (port : ℕ) (shown : Shown)
      (run : Run) (coming : List Dispatched) (calls : List TaskCall)
      → IsPlanCarriedOut Shows HasStatus Plans CallFailed request_text host port shown run.dispatched coming calls
      → AreCallsCounted Shows HasStatus Plans CallFailed shown
      → FitsShown Shows shown run → IsWilling shown.setting.limits run.start run.trace
      → AreCertain Shows run.dispatched → IsAlone run.trace → shown.setting.cancelled_at ≡ None
      → (n : ℕ) (task : Task) (how : Outcome) → slice_get shown.setting.tasks n ≡ Some task → IsByFiles task
      → (task.kind ≡ kind.Download → IsDownloadThere shown.setting.tasks run.start n task)
      → slice_get shown.outcomes n ≡ Some how → IsOwed shown run.start n how
