-- A run that asked questions and did nothing for a task keeps its promise.
use Rattle.std.proofs.Common.{◌≡◌, ◌∙◌, ◌==◌, ◌++◌, ℕ, Bool, true, false, List, [], ◌∷◌, Option, Some, None, refl, sym, subst, ap, inl, inr, arith, slice_get}
use Rattle.std.specs.FinMap.{get}
use Rattle.std.specs.Prelude.{Contains}
use Rattle.answer_classes.proofs.OneShown.{one_shown}
use Rattle.answer_classes.specs.Showing.{HasStatus, Shows}
use Rattle.attempts.specs.Attempts.{text_of}
use Rattle.file_laws.proofs.PlanEnds.{plan_ends}
use Rattle.file_laws.specs.PlanEnds.{IsPlanCarriedOut}
use Rattle.job_terms.specs.Buffers.{KeepsBuffers}
use Rattle.job_terms.specs.Dispatches.{Dispatched}
use Rattle.job_terms.specs.Ops.{IsPlanning}
use Rattle.lane_jobs.specs.Lanes.{SeenCarrier, SeenLane}
use Rattle.lane_laws.specs.Runs.{Giving, dispatched_of}
use Rattle.list_walk.specs.Pages.{IsRefusedPage}
use Rattle.planning_laws.proofs.Causes.{are_carried}
use Rattle.planning_laws.proofs.Keeping.{course_of, no_task, questions_of}
use Rattle.planning_laws.proofs.Keeping as keeping
use Rattle.planning_laws.proofs.Scheduled.{schedule_of}
use Rattle.planning_laws.specs.Laws.{Course, IsCourse}
use Rattle.planning_laws.specs.Asking.{AskFor}
use Rattle.planning_questions.specs.Questions.{Question, trace_of}
use Rattle.run_promise.specs.Carried.{IsCarried}
use Rattle.run_promise.specs.FileCalls.{AreFileCalls, IsRemoved, TaskCall}
use Rattle.run_promise.specs.FileOutcomes.{HasFailedAct, IsDestChanged, IsMoveShown, IsShownByCalls}
use Rattle.run_promise.specs.Outcomes.{HasOutcome}
use Rattle.run_promise.specs.Planning.{Need, PlansFor}
use Rattle.run_promise.specs.Schedule.{IsSchedule, Setting}
use Rattle.run_promise.specs.Settled.{IsSettingOf, RunEnd, RunStart, cause_of, is_dry, setting_by, shown_by, tells_file_failed}
use Rattle.run_promise.specs.Truthful.{AreToldByCalls, HasOutcomes, IsDoneWhereWilling, IsFinished, IsTruthful, Shown, WasTaken}
use Rattle.s3_model.specs.Files.{HeldFile}
use Rattle.s3_model.specs.Maps.{MapOf}
use Rattle.s3_model.specs.Talks.{WireLog}
use Rattle.s3_model.specs.declared.answers.Listed.{Listed}
use Rattle.s3_model.specs.declared.outcomes.Cause.{Cause}
use Rattle.s3_model.specs.declared.outcomes.Event.{Event}
use Rattle.s3_model.specs.declared.outcomes.JobId.{JobId}
use Rattle.s3_model.specs.declared.outcomes.Outcome.{Outcome}
use Rattle.s3_model.specs.declared.outcomes.Outcome.TheVariants as outcome
use Rattle.s3_model.specs.declared.places.Endpoint.{Endpoint}
use Rattle.s3_model.specs.declared.settings.Keys.{Keys}
use Rattle.s3_model.specs.declared.tasks.Kind.{Kind}
use Rattle.s3_model.specs.declared.tasks.Kind.TheVariants as kind
use Rattle.s3_model.specs.declared.tasks.Task.{Task}
use Rattle.shared_lemmas.proofs.Clashes.{false_true, none_is_some}
use Rattle.shared_lemmas.proofs.Lists.{no_middle}
use Rattle.shared_lemmas.proofs.Members.{in_none}
use Rattle.trace_laws.proofs.Journal.{givings_of}
use Rattle.trace_laws.specs.Joined.{HaveGained}
use Rattle.trace_laws.specs.Journals.{HasGivings}
use Rattle.upload_promise.specs.Shown.{KeepsPromise}
use Rattle.world_laws.specs.Promises.{IsCarriedOut}
use Rattle.world_laws.specs.Tasks.{MayBeNew}
use Rattle.desk_promise.proofs.Buffers.{keeps_buffers}
use Rattle.desk_promise.specs.Desk.{DeskRunsKeepPromise, IsDeskRun, IsIdle}

seventy : (n : ℕ) → n ≡ 70 → (n == 70) ≡ true
seventy n is = grind arith

is_seventy : (n : ℕ) → (n == 70) ≡ true → n ≡ 70
is_seventy n e = grind arith

-- ---- Dry alone

tells_none : (task : Option Task) (o : Option Outcome) → ((how : Outcome) → o ≡ Some how → how ≡ outcome.Dry) → tells_file_failed task o ≡ false
tells_none task None dry = refl
tells_none task (Some how) dry = ap (λ (x : Outcome). tells_file_failed task (Some x)) (dry how refl)

no_cause : (o : Option Outcome) → ((how : Outcome) → o ≡ Some how → how ≡ outcome.Dry) → cause_of o ≡ None
no_cause None dry = refl
no_cause (Some how) dry = ap (λ (x : Outcome). cause_of (Some x)) (dry how refl)

no_change : (of_kind : Kind) (n : ℕ) → IsDestChanged of_kind [] n → ⊥
no_change kind.Download n changed = in_none changed.0 changed.1
no_change kind.RemoveFile n changed = in_none changed.0 changed.1
no_change other n changed = absurd changed

no_act : (n : ℕ) → HasFailedAct [] n → ⊥
no_act n failed = in_none failed.0 failed.1

nothing_comes : (front : List TaskCall) (c : TaskCall) → (back : List TaskCall) × ([] ≡ front ++ c ∷ back) → ⊥
nothing_comes front c comes = no_middle front c comes.0 comes.1

module _ (Plans : Option ℕ → List Dispatched → Type 0) (Fails : ℕ → Cause → Type 0) (endpoint : Endpoint) (keys : Keys) (start : RunStart) (came : RunEnd) (idle : IsIdle start came) (jobs coming : List Dispatched) where
  abbrev shown : Shown
  shown = shown_by start came None

  dry_of : (n : ℕ) (how : Outcome) → slice_get came.outcomes n ≡ Some how → (how ≡ outcome.Dry) × (start.dryrun ≡ true)
  dry_of n how e = elim idle.outcomes [
    | inl dry ↦ dry.each n how e
    | inr none ↦ absurd (none_is_some how (sym (ap (λ (hows : List Outcome). slice_get hows n) none.1) ∙ e))
  ]

  all_dry : (n : ℕ) (how : Outcome) → slice_get came.outcomes n ≡ Some how → how ≡ outcome.Dry
  all_dry n how e = (dry_of n how e).0

  has_outcome : (dispatched : List Dispatched) (n : ℕ) (task : Task) (how : Outcome) → slice_get came.outcomes n ≡ Some how → HasOutcome Shows HasStatus Fails shown.setting dispatched coming n task how
  has_outcome dispatched n task how e =
      let dry = dry_of n how e in
      subst (λ (x : Outcome). HasOutcome Shows HasStatus Fails shown.setting dispatched coming n task x) (sym dry.0) dry.1

  module _ (of_none : (c : Dispatched) → Contains jobs c → c.dispatch.job.task ≡ None) (questions : (c : Dispatched) → Contains jobs c → IsPlanning c.ask) where
    of_no_task : (c : Dispatched) (n : ℕ) → Contains jobs c → c.dispatch.job.task ≡ Some n → ⊥
    of_no_task c n known e = none_is_some n (sym (of_none c known) ∙ e)

    outcomes : HasOutcomes shown jobs
    outcomes = elim idle.outcomes [
      | inl dry ↦ inl dry.as_many
      | inr none ↦ inr (none.0, none.1, of_none, λ path. ap (λ (held : MapOf HeldFile). get held path) idle.untouched)
    ]

    -- ---- files

    file_calls : AreFileCalls Shows shown.setting shown.excused jobs coming []
    file_calls = record {
      named = λ c known. absurd (in_none c known);
      in_order = λ i j d less inside. absurd (omega arith);
      dry = λ dry. refl;
      order = λ front earlier later comes among same. absurd (nothing_comes front later comes);
      stops = λ c known why. absurd (in_none c known);
      made = λ front c temp comes uses. absurd (nothing_comes front c comes);
      made_first = λ get n number known is_get. absurd (of_no_task get n known (ap (λ (j : JobId). j.task) is_get));
      writes = λ c task temp at bytes fine known is_task is. absurd (in_none c known);
      renames = λ front c task temp dest fault comes is_task is. absurd (nothing_comes front c comes);
      stamps = λ n renamed. absurd (in_none renamed.0 renamed.1);
      stamps_last = λ front c path micros fine comes is. absurd (nothing_comes front c comes);
      untimed = λ c path micros known is. absurd (in_none c known);
      untimed_only = λ path known. absurd (in_none path (subst (λ (all : List (List ℕ)). Contains all path) idle.none_untimed known));
      drops = λ n temp made. absurd (in_none made.0 made.1);
      left = λ c temp known is. absurd (in_none c known);
      left_only = λ temp known. absurd (in_none temp (subst (λ (all : List (List ℕ)). Contains all temp) idle.none_left known));
      moves_last = λ c task path fine known is_task uploads is. absurd (in_none c known);
      deletes_last = λ delete n task known of_task deletes is_task loads. absurd (of_no_task delete n known of_task);
    }

    told : AreToldByCalls Shows shown jobs coming []
    told = record {
      told = sym idle.quiet;
      keep = record { keep = file_calls; runs = tt; apart = idle.planned.files_apart };
      held_after = idle.untouched;
      decided = λ n task how is_task is_how by.
          subst (λ (x : Outcome). IsShownByCalls x (IsDestChanged task.kind [] n) (HasFailedAct [] n)) (sym (all_dry n how is_how)) (no_change task.kind n, tt);
      moved = λ n task how path move is_how.
          subst (λ (x : Outcome). IsMoveShown x (IsRemoved [] n) (HasFailedAct [] n)) (sym (all_dry n how is_how)) ((λ removed. in_none removed.0 removed.1), tt);
    }

    -- ---- the promise

    abbrev Scheduled : Type 0
    Scheduled = IsSchedule Shows shown.setting (Plans came.refused_page) jobs coming

    abbrev Carried : Type 0
    Carried = IsCarried Shows (text_of endpoint keys) endpoint.host endpoint.port shown.setting shown.journal shown.logs shown.notes jobs coming

    over_wires : Scheduled → Carried → IsCarriedOut Shows HasStatus (Plans came.refused_page) Fails (text_of endpoint keys) endpoint.host endpoint.port shown jobs coming
    over_wires schedule carried = record {
      schedule = schedule;
      carried = carried;
      outcomes = outcomes;
      causes = λ n task how at_task at_how. has_outcome jobs n task how at_how;
      questions = λ c known none. questions c known;
      apart = idle.planned.apart;
      one_class = λ n task at_task is_fresh asked limit talk one same bytes others is also. (one_shown asked limit talk one same bytes others is also).0;
      threshold = idle.configured.threshold.least;
      limits = idle.limits;
    }

    carried_out : Scheduled → Carried → IsPlanCarriedOut Shows HasStatus (Plans came.refused_page) Fails (text_of endpoint keys) endpoint.host endpoint.port shown jobs coming []
    carried_out schedule carried = record {
      over_wires = over_wires schedule carried;
      over_files = told;
      tasks = idle.planned.tasks;
      counted = λ n task at_task by. (
        (λ failed. absurd (no_act n failed)),
        λ counts. absurd (false_true (sym (tells_none (slice_get start.tasks n) (slice_get came.outcomes n) (λ how e. all_dry n how e)) ∙ counts)),
      );
      sources = λ run same of_shown n task how at_task at_how may. absurd (subst MayBeNew (all_dry n how at_how) may);
    }

    truthful : KeepsBuffers start.config.buffers came.journal → Scheduled → Carried → IsTruthful Shows HasStatus (text_of endpoint keys) endpoint.host endpoint.port Plans Fails shown
    truthful buffers schedule carried =
        let ends = plan_ends Shows HasStatus (Plans came.refused_page) Fails (text_of endpoint keys) endpoint.host endpoint.port shown jobs coming [] (carried_out schedule carried) in
        record {
          dispatched = jobs;
          coming = coming;
          schedule = schedule;
          carried = carried;
          buffers = buffers;
          outcomes = outcomes;
          causes = λ n task how at_task at_how. has_outcome jobs n task how at_how;
          calls = [];
          files = told;
          others = ends.1;
          holds = ends.0;
        }

    willing : IsDoneWhereWilling Shows (text_of endpoint keys) endpoint.host endpoint.port Plans shown
    willing run come scheduled carried of_shown does certain alone buckets runs n how at_how =
        let dry = dry_of n how at_how in
        inl (subst (λ (b : Bool). IsFinished b (WasTaken shown run.start n) how) (sym dry.1) dry.0)

    settles : IsSettingOf shown start.wires came.warnings ⊥ ⊥
    settles = record {
      memory = λ n. refl;
      planning_memory = λ e. is_seventy came.status e;
      warning_memory = λ e. is_seventy came.status e;
      lanes = refl;
      left = refl;
      untimed = refl;
      files = λ n. refl;
      cancelled = λ e. absurd (false_true e);
      cancels = λ n reason e. absurd (none_is_some _ (sym (no_cause (slice_get came.outcomes n) (λ how at. all_dry n how at)) ∙ e));
      dry = λ n how at_how. let dry = dry_of n how at_how in ap is_dry dry.0 ∙ sym dry.1;
    }

    pub keeps : KeepsBuffers start.config.buffers came.journal → Scheduled → Carried
        → KeepsPromise Shows HasStatus (text_of endpoint keys) endpoint.host endpoint.port Plans Fails start came None ⊥ ⊥
    keeps buffers schedule carried = record { truthful = truthful buffers schedule carried; willing = willing; settles = settles }

-- ---- over a desk

-- Whatever pages are refused by their content, and whatever shows that memory ran out.
module _ (IsRefused : (prefix : List ℕ) → List Listed → Type 0) (MemoryRanOut : Type 0) {W : Type 0} (seen : W → Option WireLog) (Fails : ℕ → Cause → Type 0) (carrier : SeenCarrier) (start : RunStart) (came : RunEnd)
    (befores afters : List (SeenLane W)) (questions : List Question) (run : IsDeskRun seen carrier start came befores afters questions) where
  abbrev s : Setting
  s = setting_by start came None

  abbrev Found : Type 0
  Found = (givings : List Giving) × (coming : List Dispatched) × HasGivings carrier s (trace_of 0 questions) came.logs came.notes givings coming

  abbrev course : Found → Course
  course found = record { questions = questions; logs = came.logs; notes = came.notes; givings = found.0; coming = found.1 }

  abbrev Plans : List Need → Option ℕ → List Dispatched → Type 0
  Plans needs page = PlansFor Shows IsRefused MemoryRanOut page needs

  keeps_with : (needs : List Need) → AskFor IsRefused MemoryRanOut came.refused_page needs questions → Found
      → KeepsPromise Shows HasStatus (text_of carrier.endpoint carrier.keys) carrier.endpoint.host carrier.endpoint.port (Plans needs) Fails start came None ⊥ ⊥
  keeps_with needs asks found =
      let is : IsCourse seen carrier s befores afters (course found) = record { joined = run.joined; has_givings = found.2 } in
      let all = course_of seen carrier s befores afters (course found) is in
      let some = run.idle.configured.attempts.least in
      let carried = are_carried seen carrier s befores afters (course found) is (omega arith) run.attempts (λ q known out. seventy came.status (run.wants q known out)) in
      let plan = keeping.keeps IsRefused MemoryRanOut came.refused_page needs s questions found.0 all asks in
      keeps (Plans needs) Fails carrier.endpoint carrier.keys start came run.idle (dispatched_of found.0) found.1
      (no_task questions found.0 all) (questions_of questions found.0 all)
      (subst (λ (journal : List Event). KeepsBuffers start.config.buffers journal) (sym run.journal) (keeps_buffers start.config.buffers questions found.0 all))
      (schedule_of (Plans needs came.refused_page) s questions found.0 all plan found.1 found.2.is_coming found.2.in_order)
      (subst (λ (journal : List Event). IsCarried Shows (text_of carrier.endpoint carrier.keys) carrier.endpoint.host carrier.endpoint.port s journal came.logs came.notes (dispatched_of found.0) found.1) (sym run.journal) carried)

  pub desk_run_keeps : (needs : List Need) → HaveGained seen befores afters came.logs came.notes → AskFor IsRefused MemoryRanOut came.refused_page needs questions
      → KeepsPromise Shows HasStatus (text_of carrier.endpoint carrier.keys) carrier.endpoint.host carrier.endpoint.port (Plans needs) Fails start came None ⊥ ⊥
  desk_run_keeps needs gained asks = keeps_with needs asks (givings_of seen carrier (trace_of 0 questions) befores afters came.logs came.notes run.joined gained s (sym run.lanes))

pub desk_runs_keep : {W : Type 0} (seen : W → Option WireLog) (Fails : ℕ → Cause → Type 0) → DeskRunsKeepPromise seen Fails
desk_runs_keep seen Fails carrier start came befores afters questions needs wanting run gained asks =
    desk_run_keeps IsRefusedPage (wanting ≡ true) seen Fails carrier start came befores afters questions run needs gained asks
