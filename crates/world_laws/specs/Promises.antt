-- Runs whose jobs keep to their schedule and are carried: what they promise holds over every honest service.
use Rattle.std.specs.Prelude.{◌≡◌, ◌≤◌, ℕ, true, false, List, Some, None, slice_get, Contains}
use Rattle.std.specs.FinMap.{get}
use Rattle.s3_model.specs.declared.requests.Ask.{Ask}
use Rattle.s3_model.specs.declared.answers.Class.{Class}
use Rattle.s3_model.specs.declared.outcomes.Cause.{Cause}
use Rattle.s3_model.specs.declared.outcomes.Event.{Event}
use Rattle.s3_model.specs.declared.outcomes.Outcome.{Outcome}
use Rattle.s3_model.specs.declared.outcomes.Outcome.TheVariants as outcome
use Rattle.s3_model.specs.declared.places.Place.TheVariants as place
use Rattle.s3_model.specs.declared.tasks.Kind.TheVariants as kind
use Rattle.s3_model.specs.declared.tasks.Task.{Task}
use Rattle.s3_model.specs.Replies.{IsSameClass}
use Rattle.s3_model.specs.Talks.{Talk, Note}
use Rattle.s3_model.specs.Validity.{IsValidLimits}
use Rattle.run_promise.specs.Carried.{IsCarried}
use Rattle.job_terms.specs.Dispatches.{Dispatched}
use Rattle.run_promise.specs.Outcomes.{HasOutcome, IsDecidedByRequest}
use Rattle.s3_service.specs.ServiceState.{State}
use Rattle.run_promise.specs.Traces.{Step}
use Rattle.run_promise.specs.Schedule.{Setting, IsSchedule, is_small}
use Rattle.run_promise.specs.Truthful.{Shown, FitsShown, HasOutcomes, HoldsOver}
use Rattle.world_laws.specs.Premises.{AreGiven, HasCome}
use Rattle.run_promise.specs.Runs.{Run, moments}
use Rattle.job_terms.specs.Ops.{IsPlanning}
use Rattle.world_laws.specs.Tasks.{AreApart, HasSource, MayBeNew}
use Rattle.run_promise.specs.FileOutcomes.{IsFileLeft}

-- a task that requests decide: its destination is an object, and a removal moves nothing
pub record IsByRequests (task : Task) : Type 0 where
  pub bucket : List ℕ
  pub key : List ℕ
  pub is_dest : task.dest ≡ place.Object bucket key
  pub decided : IsDecidedByRequest task.kind
  pub keeps : task.kind ≡ kind.RemoveObject → task.moves ≡ false

abbrev pub AreFilesLeft : Shown → Type 0
AreFilesLeft shown = (n : ℕ) (task : Task) (how : Outcome) (path : List ℕ) → slice_get shown.setting.tasks n ≡ Some task
    → slice_get shown.outcomes n ≡ Some how → task.moves ≡ true → task.source ≡ Some (place.File path)
    → IsFileLeft how (get shown.held_after path ≡ None) (get shown.held_after path ≡ get shown.setting.held path)

-- what is shown, with a trace
abbrev pub run_of : Shown → List Dispatched → State → List Step → Run
run_of shown dispatched start trace =
    record {
      start = start;
      trace = trace;
      journal = shown.journal;
      dispatched = dispatched;
      refused_page = shown.refused_page;
    }

-- `Shows ask limit talk class bytes`: the talk has that class for the ask, and its answer that body
module _ (Shows : Ask → ℕ → Talk → Class → List ℕ → Type 0) where
  -- what is carried was given and came as the journal says
  abbrev pub CarriedIsGiven : Type 0
  CarriedIsGiven = (request_text : Ask → List ℕ → ℕ → List ℕ) (host : List ℕ) (port : ℕ) (s : Setting)
      (journal : List Event)
      (logs : ℕ → List Talk) (notes : ℕ → List Note) (dispatched coming : List Dispatched)
      → IsCarried Shows request_text host port s journal logs notes dispatched coming
      → AreGiven journal dispatched × ((c : Dispatched) → Contains dispatched c → HasCome journal c)

  -- a talk shows one class
  abbrev pub ShowsOneClass : Type 0
  ShowsOneClass = (asked : Ask) (limit : ℕ) (talk : Talk) (one same : Class) (bytes others : List ℕ)
      → Shows asked limit talk one bytes → Shows asked limit talk same others → IsSameClass one same

  -- over every honest trace that fits, a task's source is as planned where its destination may be new
  abbrev pub AreSourced : Shown → List Dispatched → Type 0
  AreSourced shown dispatched = (run : Run) → run.dispatched ≡ dispatched → FitsShown Shows shown run
      → (n : ℕ) (task : Task) (how : Outcome) → slice_get shown.setting.tasks n ≡ Some task
      → slice_get shown.outcomes n ≡ Some how → MayBeNew how
      → HasSource shown.setting.held (moments run) task task.kind (is_small shown.setting task)

  -- `HasStatus ask limit talk status`: the talk's answer has that HTTP status;
  -- `Plans`: the planning jobs, in order, are those that the command needs;
  -- `CallFailed n why`: the calls on files show that one of task n failed so
  module _ (HasStatus : Ask → ℕ → Talk → ℕ → Type 0) (Plans : List Dispatched → Type 0)
      (CallFailed : ℕ → Cause → Type 0) where
    -- The jobs are those of the plan, the wires carried them and nothing else, and each task has its outcome with the
    -- cause that the talks show, whether requests or calls on files decide it.
    pub record IsCarriedOut (request_text : Ask → List ℕ → ℕ → List ℕ) (host : List ℕ) (port : ℕ) (shown : Shown)
        (dispatched coming : List Dispatched) : Type 0 where
      pub schedule : IsSchedule Shows shown.setting Plans dispatched coming
      pub carried : IsCarried Shows request_text host port shown.setting shown.journal shown.logs shown.notes
          dispatched coming
      pub outcomes : HasOutcomes shown dispatched
      pub causes : (n : ℕ) (task : Task) (how : Outcome) → slice_get shown.setting.tasks n ≡ Some task
          → slice_get shown.outcomes n ≡ Some how
          → HasOutcome Shows HasStatus CallFailed shown.setting dispatched coming n task how
      -- planning only asks
      pub questions : (c : Dispatched) → Contains dispatched c → c.dispatch.job.task ≡ None → IsPlanning c.ask
      pub apart : AreApart shown.setting.tasks
      -- needed only where a task is not to replace
      pub one_class : (n : ℕ) (task : Task) → slice_get shown.setting.tasks n ≡ Some task → task.fresh ≡ true
          → ShowsOneClass
      pub threshold : 1 ≤ shown.setting.config.threshold
      pub limits : IsValidLimits shown.setting.limits

    -- Such a run of a plan whose tasks requests decide, with their sources as planned.
    pub record IsOrderly (request_text : Ask → List ℕ → ℕ → List ℕ) (host : List ℕ) (port : ℕ) (shown : Shown)
        (dispatched coming : List Dispatched) : Type 0 where
      pub schedule : IsSchedule Shows shown.setting Plans dispatched coming
      pub carried : IsCarried Shows request_text host port shown.setting shown.journal shown.logs shown.notes
          dispatched coming
      pub outcomes : HasOutcomes shown dispatched
      pub causes : (n : ℕ) (task : Task) (how : Outcome) → slice_get shown.setting.tasks n ≡ Some task
          → slice_get shown.outcomes n ≡ Some how
          → HasOutcome Shows HasStatus CallFailed shown.setting dispatched coming n task how
      -- planning only asks
      pub questions : (c : Dispatched) → Contains dispatched c → c.dispatch.job.task ≡ None → IsPlanning c.ask
      pub tasks : (n : ℕ) (task : Task) → slice_get shown.setting.tasks n ≡ Some task → IsByRequests task
      pub apart : AreApart shown.setting.tasks
      pub sources : AreSourced shown dispatched
      pub files : AreFilesLeft shown
      -- needed only where a task is not to replace
      pub one_class : (n : ℕ) (task : Task) → slice_get shown.setting.tasks n ≡ Some task → task.fresh ≡ true
          → ShowsOneClass
      pub threshold : 1 ≤ shown.setting.config.threshold
      pub limits : IsValidLimits shown.setting.limits

    -- What such a run shows is true, over every honest service and whatever is lost, refused or late.
    abbrev pub PromiseHolds : Type 0
    PromiseHolds = (request_text : Ask → List ℕ → ℕ → List ℕ) (host : List ℕ) (port : ℕ) (shown : Shown)
        (dispatched coming : List Dispatched) → IsOrderly request_text host port shown dispatched coming
        → HoldsOver Shows shown dispatched
