-- What makes a run truthful, and done where the service is willing, by the laws of whole runs over objects. The run's jobs can be
-- read from its journal in one way only, and no task is one that is not to replace.
use Rattle.std.proofs.Common.{◌≡◌, ◌≤◌, ℕ, true, List, [], Option, Some, None, sym, ap, subst, inl, inr, map, Contains, length, slice_get}
use Rattle.std.specs.FinMap.{get}
use Rattle.s3_model.specs.declared.requests.Ask.{Ask}
use Rattle.s3_model.specs.declared.answers.Class.{Class}
use Rattle.s3_model.specs.declared.outcomes.Cause.{Cause}
use Rattle.s3_model.specs.declared.outcomes.Outcome.{Outcome}
use Rattle.s3_model.specs.declared.tasks.Task.{Task}
use Rattle.s3_model.specs.Files.{HeldFile}
use Rattle.s3_model.specs.Maps.{MapOf}
use Rattle.s3_model.specs.Talks.{Talk}
use Rattle.s3_model.specs.Validity.{IsValidLimits}
use Rattle.s3_service.specs.ServiceState.{State}
use Rattle.job_terms.specs.Buffers.{KeepsBuffers}
use Rattle.run_promise.specs.Carried.{IsCarried}
use Rattle.job_terms.specs.Dispatches.{Dispatched, dispatches}
use Rattle.run_promise.specs.Outcomes.{HasOutcome}
use Rattle.run_promise.specs.Schedule.{IsSchedule, is_small}
use Rattle.run_promise.specs.Runs.{moments}
use Rattle.run_promise.specs.Truthful.{Shown, IsTruthful, IsDoneWhereWilling}
use Rattle.job_terms.specs.Ops.{IsPlanning}
use Rattle.world_laws.specs.Completeness.{AreCallsCounted, AreSourcesThere}
use Rattle.world_laws.specs.Promises.{AreFilesLeft, IsByRequests, IsOrderly}
use Rattle.world_laws.specs.Tasks.{AreApart, HasSource}
use Rattle.world_laws.proofs.Completeness.{orderly_is_done}
use Rattle.world_laws.proofs.NoCalls.{IsWithoutCalls, told_by_none}
use Rattle.world_laws.proofs.Promises.{promise_holds}

module _ (Shows : Ask → ℕ → Talk → Class → List ℕ → Type 0) (HasStatus : Ask → ℕ → Talk → ℕ → Type 0) (request_text : Ask → List ℕ → ℕ → List ℕ) (host : List ℕ) (port : ℕ)
    (Plans : Option ℕ → List Dispatched → Type 0) (CallFailed : ℕ → Cause → Type 0) (shown : Shown) (jobs : List Dispatched) where
  -- the jobs are these, however the journal is read
  abbrev pub AreAlone : Type 0
  AreAlone = (dispatched coming : List Dispatched) → IsSchedule Shows shown.setting (Plans shown.refused_page) dispatched coming → map (λ (c : Dispatched). c.dispatch) dispatched ≡ dispatches shown.journal shown.logs
      → (dispatched ≡ jobs) × (coming ≡ jobs)

  pub record IsOrdered : Type 0 where
    pub schedule : IsSchedule Shows shown.setting (Plans shown.refused_page) jobs jobs
    pub carried : IsCarried Shows request_text host port shown.setting shown.journal shown.logs shown.notes jobs jobs
    pub alone : AreAlone
    pub buffers : KeepsBuffers shown.setting.config.buffers shown.journal
    pub as_many : length shown.outcomes ≡ length shown.setting.tasks
    pub causes : (n : ℕ) (task : Task) (how : Outcome) → slice_get shown.setting.tasks n ≡ Some task → slice_get shown.outcomes n ≡ Some how
        → HasOutcome Shows HasStatus CallFailed shown.setting jobs jobs n task how
    pub questions : (c : Dispatched) → Contains jobs c → c.dispatch.job.task ≡ None → IsPlanning c.ask
    pub tasks : (n : ℕ) (task : Task) → slice_get shown.setting.tasks n ≡ Some task → IsByRequests task
    pub apart : AreApart shown.setting.tasks
    pub sources : (moments : List State) (n : ℕ) (task : Task) → slice_get shown.setting.tasks n ≡ Some task → HasSource shown.setting.held moments task task.kind (is_small shown.setting task)
    pub there : (start : State) → AreSourcesThere shown.setting.held shown.setting.tasks start
    pub left : AreFilesLeft shown
    pub calls : IsWithoutCalls Shows shown jobs jobs
    pub replaces : (n : ℕ) (task : Task) → slice_get shown.setting.tasks n ≡ Some task → task.fresh ≡ true → ⊥
    pub counted : AreCallsCounted Shows HasStatus (Plans shown.refused_page) CallFailed shown
    pub threshold : 1 ≤ shown.setting.config.threshold
    pub limits : IsValidLimits shown.setting.limits

  module _ (o : IsOrdered) where
    orderly : (dispatched coming : List Dispatched) → IsSchedule Shows shown.setting (Plans shown.refused_page) dispatched coming
        → IsCarried Shows request_text host port shown.setting shown.journal shown.logs shown.notes dispatched coming
        → IsOrderly Shows HasStatus (Plans shown.refused_page) CallFailed request_text host port shown dispatched coming
    orderly dispatched coming scheduled carried =
        let are = o.alone dispatched coming scheduled carried.shown in
        record {
          schedule = scheduled;
          carried = carried;
          outcomes = inl o.as_many;
          causes = λ n task how at_task at_how.
              subst (λ (all : List Dispatched). HasOutcome Shows HasStatus CallFailed shown.setting all coming n task how) (sym are.0)
              (subst (λ (all : List Dispatched). HasOutcome Shows HasStatus CallFailed shown.setting jobs all n task how) (sym are.1) (o.causes n task how at_task at_how));
          questions = λ c known of_none. o.questions c (subst (λ (all : List Dispatched). Contains all c) are.0 known) of_none;
          tasks = o.tasks;
          apart = o.apart;
          sources = λ run same of_shown n task how at_task at_how may. o.sources (moments run) n task at_task;
          files = o.left;
          one_class = λ n task at_task is_fresh. absurd (o.replaces n task at_task is_fresh);
          threshold = o.threshold;
          limits = o.limits;
        }

    pub truthful : IsTruthful Shows HasStatus request_text host port Plans CallFailed shown
    truthful = record {
      dispatched = jobs;
      coming = jobs;
      schedule = o.schedule;
      carried = o.carried;
      buffers = o.buffers;
      outcomes = inl o.as_many;
      causes = o.causes;
      calls = [];
      files = told_by_none Shows shown jobs jobs o.calls;
      others = λ path. inr (inr (ap (λ (held : MapOf HeldFile). get held path) o.calls.untouched));
      holds = promise_holds Shows HasStatus (Plans shown.refused_page) CallFailed request_text host port shown jobs jobs (orderly jobs jobs o.schedule o.carried);
    }

    pub done_where_willing : IsDoneWhereWilling Shows request_text host port Plans shown
    done_where_willing =
        orderly_is_done Shows HasStatus (Plans shown.refused_page) CallFailed request_text host port shown o.counted (λ n task at_task is_fresh. absurd (o.replaces n task at_task is_fresh)) orderly
        (λ run coming scheduled carried of_shown willing alone. o.there run.start)
