-- What a service that does what it may owes to a run: each task is done, but one whose file call failed or for which
-- memory ran out.
use Rattle.std.specs.Prelude.{◌≡◌, ◌⊎◌, ℕ, true, List, Some, None, length, slice_get}
use Rattle.s3_model.specs.declared.requests.Ask.{Ask}
use Rattle.s3_model.specs.declared.answers.Class.{Class}
use Rattle.s3_model.specs.declared.outcomes.Cause.{Cause}
use Rattle.s3_model.specs.declared.outcomes.Outcome.{Outcome}
use Rattle.s3_model.specs.declared.outcomes.Outcome.TheVariants as outcome
use Rattle.s3_model.specs.declared.tasks.Kind.TheVariants as kind
use Rattle.s3_model.specs.declared.tasks.Task.{Task}
use Rattle.s3_model.specs.Files.{HeldFile}
use Rattle.s3_model.specs.Maps.{MapOf}
use Rattle.s3_model.specs.Talks.{Talk}
use Rattle.s3_service.specs.ServiceState.{State, Object}
use Rattle.s3_service.specs.Serves.{IsThere}
use Rattle.run_promise.specs.Carried.{IsCarried}
use Rattle.job_terms.specs.Dispatches.{Dispatched}
use Rattle.run_promise.specs.Runs.{Run}
use Rattle.run_promise.specs.Schedule.{IsSchedule}
use Rattle.job_terms.specs.Jobs.{IsObject, IsSource}
use Rattle.run_promise.specs.Traces.{IsWilling}
use Rattle.run_promise.specs.Truthful.{Shown, AreCertain, FitsShown, HasDestBuckets, IsAlone, IsDoneWhereWilling}
use Rattle.run_promise.specs.Truthful.{IsFinished, MayBeFresh, WasTaken}
use Rattle.world_laws.specs.Promises.{IsOrderly}
use Rattle.world_laws.specs.Tasks.{HasSourceFile}

-- What planning made sure of: the source of each copy is there when the run begins, under the planned ETag and with the
-- planned size, is no destination of the run, and goes only by its own copy's move; and each uploaded file has the
-- planned size.
pub record AreSourcesThere (held : MapOf HeldFile) (tasks : List Task) (start : State) : Type 0 where
  pub files : (n : ℕ) (task : Task) → slice_get tasks n ≡ Some task → task.kind ≡ kind.Upload → HasSourceFile held task
  pub there : (n : ℕ) (task : Task) (bucket key : List ℕ) → slice_get tasks n ≡ Some task → task.kind ≡ kind.Copy
      → IsSource task.source bucket key
      → (object : Object) × IsThere start bucket key task.etag object × (length object.bytes ≡ task.size)
  pub no_dest : (m n : ℕ) (a b : Task) (bucket key : List ℕ) → slice_get tasks m ≡ Some a → slice_get tasks n ≡ Some b
      → a.kind ≡ kind.Copy → IsSource a.source bucket key → IsObject b.dest bucket key → ⊥
  pub moved_once : (m n : ℕ) (a b : Task) (bucket key : List ℕ) → slice_get tasks m ≡ Some a
      → slice_get tasks n ≡ Some b → a.kind ≡ kind.Copy → IsSource a.source bucket key
      → b.moves ≡ true → IsSource b.source bucket key → m ≡ n

-- only an upload or a download may be told not to replace
abbrev pub AreFreshByKind : List Task → Type 0
AreFreshByKind tasks = (n : ℕ) (task : Task) → slice_get tasks n ≡ Some task → task.fresh ≡ true → MayBeFresh task.kind

-- what is owed to a task
abbrev pub IsOwed : Shown → State → ℕ → Outcome → Type 0
IsOwed shown start n how =
    IsFinished shown.setting.dryrun (WasTaken shown start n) how ⊎ (shown.setting.file_failed n ≡ true)
    ⊎ (shown.setting.wanted_memory (Some n) ≡ true)

-- `Shows ask limit talk class bytes`: the talk has that class for the ask, and its answer that body;
-- `HasStatus ask limit talk status`: the talk's answer has that HTTP status;
-- `Plans`: the planning jobs, in order, are those that the command needs;
-- `CallFailed n why`: the calls on files show that one of task n failed so
module _ (Shows : Ask → ℕ → Talk → Class → List ℕ → Type 0) (HasStatus : Ask → ℕ → Talk → ℕ → Type 0)
    (Plans : List Dispatched → Type 0) (CallFailed : ℕ → Cause → Type 0) where
  -- a task that failed by a call on files counts as one whose file call failed
  abbrev pub AreCallsCounted : Shown → Type 0
  AreCallsCounted shown = (n : ℕ) (why : Cause) → slice_get shown.outcomes n ≡ Some (outcome.Failed why)
      → CallFailed n why → shown.setting.file_failed n ≡ true

  -- Over a willing service, with each answer certain, nobody else writing, the buckets and the sources there, and no
  -- cancel, an orderly run owes nothing.
  abbrev pub WillingIsDone : Type 0
  WillingIsDone = (request_text : Ask → List ℕ → ℕ → List ℕ) (host : List ℕ) (port : ℕ) (shown : Shown)
      (run : Run) (coming : List Dispatched)
      → IsOrderly Shows HasStatus Plans CallFailed request_text host port shown run.dispatched coming
      → AreCallsCounted shown → AreFreshByKind shown.setting.tasks
      → FitsShown Shows shown run → IsWilling shown.setting.limits run.start run.trace
      → AreCertain Shows run.dispatched → IsAlone run.trace
      → HasDestBuckets shown.setting.tasks run.start
      → AreSourcesThere shown.setting.held shown.setting.tasks run.start
      → shown.setting.cancelled_at ≡ None
      → (n : ℕ) (how : Outcome) → slice_get shown.outcomes n ≡ Some how → IsOwed shown run.start n how

  -- So a run that is orderly however its jobs are read is done where the service is willing. That the sources were
  -- there is asked only where nobody else writes, since there what planning found was so from the start.
  abbrev pub OrderlyIsDone : Type 0
  OrderlyIsDone = (request_text : Ask → List ℕ → ℕ → List ℕ) (host : List ℕ) (port : ℕ) (shown : Shown)
      → AreCallsCounted shown → AreFreshByKind shown.setting.tasks
      → ((dispatched coming : List Dispatched) → IsSchedule Shows shown.setting Plans dispatched coming
      → IsCarried Shows request_text host port shown.setting shown.journal shown.logs shown.notes dispatched coming
      → IsOrderly Shows HasStatus Plans CallFailed request_text host port shown dispatched coming)
      → ((run : Run) (coming : List Dispatched) → IsSchedule Shows shown.setting Plans run.dispatched coming
      → IsCarried Shows request_text host port shown.setting shown.journal shown.logs shown.notes run.dispatched coming
      → FitsShown Shows shown run → IsWilling shown.setting.limits run.start run.trace → IsAlone run.trace
      → AreSourcesThere shown.setting.held shown.setting.tasks run.start)
      → IsDoneWhereWilling Shows request_text host port (λ page. Plans) shown
