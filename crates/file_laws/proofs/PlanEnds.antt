-- A plan of both kinds of task ends as its outcomes say.
use Rattle.std.proofs.Common.{◌≡◌, ◌∙◌, ◌⊎◌, ℕ, List, [], Some, refl, sym, subst, inl, inr, slice_get}
use Rattle.s3_model.specs.declared.answers.Class.{Class}
use Rattle.s3_model.specs.declared.outcomes.Cause.{Cause}
use Rattle.s3_model.specs.declared.outcomes.Outcome.{Outcome}
use Rattle.s3_model.specs.declared.requests.Ask.{Ask}
use Rattle.s3_model.specs.declared.tasks.Kind.{Kind}
use Rattle.s3_model.specs.declared.tasks.Kind.TheVariants as kind
use Rattle.s3_model.specs.declared.tasks.Task.{Task}
use Rattle.s3_model.specs.Files.{HeldFile}
use Rattle.s3_model.specs.Maps.{MapOf}
use Rattle.s3_model.specs.Talks.{Talk}
use Rattle.s3_service.specs.ServiceState.{State}
use Rattle.job_terms.specs.Dispatches.{Dispatched}
use Rattle.run_promise.specs.Endings.{IsEnded}
use Rattle.run_promise.specs.Fits.{Fits}
use Rattle.run_promise.specs.Outcomes.{IsDecidedByRequest}
use Rattle.run_promise.specs.Schedule.{Setting, is_small}
use Rattle.run_promise.specs.Traces.{Step, IsHonest, IsTrace, events_of, state_after, states}
use Rattle.run_promise.specs.Truthful.{AllEnded, FitsShown, HoldsOver, IsDest, Shown}
use Rattle.run_promise.specs.Runs.{HasJournal, Run}
use Rattle.world_laws.specs.Promises.{AreFilesLeft, IsByRequests, run_of}
use Rattle.world_laws.specs.Tasks.{HasSource, HasSourceObject, IsTraceOf, MayBeNew}
use Rattle.world_laws.proofs.InParts.{aborts_are_final}
use Rattle.world_laws.proofs.Promises as promises
use Rattle.world_laws.proofs.Promises.{IsAllTrue}
use Rattle.run_promise.specs.FileOutcomes.{IsByFiles}
use Rattle.run_promise.specs.Truthful.{run_shown}
use Rattle.run_promise.specs.FileCalls.{TaskCall, files_after}
use Rattle.file_laws.specs.PlanEnds.{HasPlannedSource, IsPlanCarriedOut, PlanEnds}
use Rattle.file_laws.proofs.FileEnds.{file_task_ends, moved_files_are_left, promised_files_stay}

-- the source of a task that requests decide
of_requests : (s : Setting) (moments : List State) (task : Task) (of_kind : Kind) → IsDecidedByRequest of_kind → HasPlannedSource s moments task of_kind → HasSource s.held moments task of_kind (is_small s task)
of_requests s moments task kind.Upload by source = source
of_requests s moments task kind.Copy by source = source
of_requests s moments task kind.RemoveObject by source = source
of_requests s moments task kind.Download by source = absurd by
of_requests s moments task kind.RemoveFile by source = absurd by

copy_downloads : kind.Copy ≡ kind.Download → ⊥
copy_downloads e = cc

copy_removes : kind.Copy ≡ kind.RemoveFile → ⊥
copy_removes e = cc

-- calls on files decide no copy
no_copy_by_files : (task : Task) → task.kind ≡ kind.Copy → IsByFiles task → ⊥
no_copy_by_files task is_copy by = elim by.decided [ inl load ↦ copy_downloads (sym is_copy ∙ load) | inr removal ↦ copy_removes (sym is_copy ∙ removal) ]

module _ (Shows : Ask → ℕ → Talk → Class → List ℕ → Type 0) (HasStatus : Ask → ℕ → Talk → ℕ → Type 0) (Plans : List Dispatched → Type 0) (CallFailed : ℕ → Cause → Type 0)
    (request_text : Ask → List ℕ → ℕ → List ℕ) (host : List ℕ) (port : ℕ) (shown : Shown) (dispatched coming : List Dispatched) (calls : List TaskCall)
    (o : IsPlanCarriedOut Shows HasStatus Plans CallFailed request_text host port shown dispatched coming calls) where
  files_left : AreFilesLeft shown
  files_left = moved_files_are_left Shows shown dispatched coming calls o.over_files.keep o.over_files.held_after o.over_files.moved

  module _ (start : State) (trace part : List Step) (runs : IsTrace shown.setting.limits [] start trace) (honest : IsHonest start trace (IsDest shown.setting.tasks)) (fits : Fits Shows shown.refused_page (events_of trace) shown.journal dispatched)
      (whole : HasJournal shown.journal trace part) where
    abbrev run : Run
    run = run_of shown dispatched start trace

    of_trace : IsTraceOf Shows shown.setting run
    of_trace = record { runs = runs; honest = honest; fits = fits }

    of_shown : FitsShown Shows shown run
    of_shown = record { of_journal = refl; of_page = refl; fitting = of_trace }

    abbrev Ends : ℕ → Task → Outcome → MapOf HeldFile → Type 0
    Ends n task how held = IsEnded shown.excused run (record { state = start; held = shown.setting.held; others = shown.setting.others })
        (record { state = state_after start part; held = held; others = shown.setting.others }) n task how

    source_of : (n : ℕ) (task : Task) (how : Outcome) → slice_get shown.setting.tasks n ≡ Some task → slice_get shown.outcomes n ≡ Some how → IsByRequests task → MayBeNew how
        → HasSource shown.setting.held (states start trace) task task.kind (is_small shown.setting task)
    source_of n task how is_task at_how by may = of_requests shown.setting (states start trace) task task.kind by.decided (o.sources run refl of_shown n task how is_task at_how may)

    by_requests : (n : ℕ) (task : Task) (how : Outcome) → slice_get shown.setting.tasks n ≡ Some task → slice_get shown.outcomes n ≡ Some how → IsByRequests task → Ends n task how shown.held_after
    by_requests n task how is_task at_how by =
        promises.task_ended Shows HasStatus Plans CallFailed request_text host port shown dispatched coming o.over_wires start trace part runs honest fits whole n task how is_task by at_how
        (λ path moves is_source. files_left n task how path is_task at_how moves is_source) (λ may. source_of n task how is_task at_how by may)

    by_files : (n : ℕ) (task : Task) (how : Outcome) → slice_get shown.setting.tasks n ≡ Some task → slice_get shown.outcomes n ≡ Some how → IsByFiles task → Ends n task how shown.held_after
    by_files n task how is_task at_how by =
        subst (Ends n task how) (sym o.over_files.held_after)
        (file_task_ends Shows HasStatus CallFailed (run_shown shown dispatched coming calls) run part refl o.over_files.keep
        (promises.scheduled Shows HasStatus Plans CallFailed request_text host port shown dispatched coming o.over_wires) of_trace whole n task how is_task by
        (λ may load. subst (HasPlannedSource shown.setting (states start trace) task) load (o.sources run refl of_shown n task how is_task at_how may))
        (o.over_wires.causes n task how is_task at_how) (o.over_files.decided n task how is_task at_how by))

    all_ended : AllEnded shown run part
    all_ended n task how is_task at_how = elim (o.tasks n task is_task) [
      | inl by ↦ by_requests n task how is_task at_how by
      | inr by ↦ by_files n task how is_task at_how by
    ]

    copy_by_requests : (n : ℕ) (task : Task) → slice_get shown.setting.tasks n ≡ Some task → task.kind ≡ kind.Copy → IsByRequests task
    copy_by_requests n task is_task is_copy = elim (o.tasks n task is_task) [ inl by ↦ by | inr by ↦ absurd (no_copy_by_files task is_copy by) ]

  all_true : (start : State) (trace part : List Step) → IsTraceOf Shows shown.setting (run_of shown dispatched start trace) → HasJournal shown.journal trace part
      → IsAllTrue shown (run_of shown dispatched start trace) part
  all_true start trace part fitting whole = (
    all_ended start trace part fitting.runs fitting.honest fitting.fits whole,
    promises.none_changed Shows HasStatus Plans CallFailed request_text host port shown dispatched coming o.over_wires start trace part fitting.runs fitting.honest fitting.fits whole,
    promises.others Shows HasStatus Plans CallFailed request_text host port shown dispatched coming o.over_wires start trace part fitting.runs fitting.honest fitting.fits whole,
    promises.moves_after Shows HasStatus Plans CallFailed request_text host port shown dispatched coming o.over_wires start trace part fitting.runs fitting.honest fitting.fits whole
        (copy_by_requests start trace part fitting.runs fitting.honest fitting.fits whole)
        (λ n task how is_task is_copy at_how may. source_of start trace part fitting.runs fitting.honest fitting.fits whole n task how is_task at_how (copy_by_requests start trace part fitting.runs fitting.honest fitting.fits whole n task is_task is_copy) may),
    aborts_are_final shown.setting.limits start trace fitting.runs,
  )

  holds_over : HoldsOver Shows shown dispatched
  holds_over run part same of_shown whole = promises.as_shown Shows shown dispatched run part same of_shown whole (λ fitting ended. all_true run.start run.trace part fitting ended)

module _ (Shows : Ask → ℕ → Talk → Class → List ℕ → Type 0) (HasStatus : Ask → ℕ → Talk → ℕ → Type 0) (Plans : List Dispatched → Type 0) (CallFailed : ℕ → Cause → Type 0) where
  pub plan_ends : PlanEnds Shows HasStatus Plans CallFailed
  plan_ends request_text host port shown dispatched coming calls o =
      (holds_over Shows HasStatus Plans CallFailed request_text host port shown dispatched coming calls o, promised_files_stay Shows shown dispatched coming calls o.over_files.keep o.over_files.held_after)
