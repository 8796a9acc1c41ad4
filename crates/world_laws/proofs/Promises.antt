-- A run whose jobs keep to their schedule and are carried is truthful over every honest service.
use Rattle.std.proofs.Common.{◌≡◌, ◌∙◌, ◌<◌, ◌⊎◌, ℕ, Bool, true, false, List, [], Option, Some, None, refl, sym, ap, subst, inl, inr, Contains, get_or, length, slice_get}
use Rattle.std.specs.Bool.{OnTrue}
use Rattle.std.specs.FinMap.{get}
use Rattle.std.proofs.lemmas.Bool.{OnTrue_from}
use Rattle.std.proofs.lemmas.Option.{slice_get-get_or, slice_get_within}
use Rattle.s3_model.specs.declared.requests.Ask.{Ask}
use Rattle.s3_model.specs.declared.requests.Op.{Op}
use Rattle.s3_model.specs.declared.requests.Op.TheVariants as op
use Rattle.s3_model.specs.declared.answers.Class.{Class}
use Rattle.s3_model.specs.declared.answers.Reply.{Reply}
use Rattle.s3_model.specs.declared.answers.Reply.TheVariants as reply
use Rattle.s3_model.specs.declared.outcomes.Event.{Event}
use Rattle.s3_model.specs.declared.outcomes.Event.TheVariants as entry
use Rattle.s3_model.specs.declared.outcomes.JobId.{JobId}
use Rattle.s3_model.specs.declared.outcomes.Cause.{Cause}
use Rattle.s3_model.specs.declared.outcomes.Outcome.{Outcome}
use Rattle.s3_model.specs.declared.outcomes.Outcome.TheVariants as outcome
use Rattle.s3_model.specs.declared.places.Place.{Place}
use Rattle.s3_model.specs.declared.places.Place.TheVariants as place
use Rattle.s3_model.specs.declared.tasks.Kind.{Kind}
use Rattle.s3_model.specs.declared.tasks.Kind.TheVariants as kind
use Rattle.s3_model.specs.declared.tasks.Task.{Task}
use Rattle.s3_model.specs.declared.tries.Mark.{Mark}
use Rattle.s3_model.specs.declared.tries.Mark.TheVariants as mark
use Rattle.s3_model.specs.Talks.{Talk}
use Rattle.s3_service.specs.ServiceState.{State}
use Rattle.run_promise.specs.Dispatches.{FitsAsk}
use Rattle.job_terms.specs.Dispatches.{Attempt, Dispatched, last_of}
use Rattle.run_promise.specs.Endings.{Scene, IsEnded, IsGoneOrThere, IsSpared}
use Rattle.run_promise.specs.Fits.{Fits}
use Rattle.run_promise.specs.Outcomes.{HasDeciding, HasOutcome, IsDecidedAt, IsDecidedByRequest, IsObjectPlace, IsTakenLast, IsSkippedByFile, IsSkippedByRequest}
use Rattle.job_terms.specs.Ops.{deciding}
use Rattle.run_promise.specs.Schedule.{Setting, Gained, IsDecidedBy, IsTaskAsk, gained_before, is_planning, is_small, planning_of, source_bytes}
use Rattle.job_terms.specs.Jobs.{job_of}
use Rattle.run_promise.specs.Traces.{Step, IsHonest, IsTrace, events_of, state_after, states}
use Rattle.run_promise.specs.Truthful.{Shown, AbortsLast, AllEnded, FitsShown, IsDest, MovesAfter, NoneChanged, OthersStay}
use Rattle.run_promise.specs.Runs.{HasEndedBy, HasJournal, Run}
use Rattle.run_promise.specs.FileOutcomes.{IsFileLeft}
use Rattle.world_laws.specs.Promises.{run_of, CarriedIsGiven, IsByRequests, IsCarriedOut, IsOrderly, PromiseHolds}
use Rattle.world_laws.specs.Tasks.{AreQuestions, HasSource, IsDecidedIn, IsRefusedIn, IsRunOf, IsScheduled, IsShown, IsSourceGone, IsTakenIn, IsTraceOf, IsConditional, MayBeNew}
use Rattle.world_laws.proofs.Carried.{are_given, has_come, is_scheduled}
use Rattle.world_laws.proofs.Frame.{others_stay}
use Rattle.world_laws.proofs.InParts.{aborts_are_final}
use Rattle.world_laws.proofs.Marks as marks
use Rattle.shared_lemmas.proofs.Members.{contains_of, found_or_not, has, kept, passes}
use Rattle.world_laws.proofs.MovedTasks.{moved_task_is_new, other_objects_stay}
use Rattle.world_laws.proofs.Order.{begun_is_after}
use Rattle.world_laws.proofs.Rows as rows
use Rattle.world_laws.proofs.TaskEnds.{task_ends}
use Rattle.world_laws.proofs.Tasks as tasks
use Rattle.world_laws.proofs.Tasks.{last_place, planned_none, planning_changes_nothing, replied}

-- what decides a task decides a Delete that waits for it
pub decided_by : (of_kind : Kind) (small : Bool) (n count : ℕ) (gained : Gained) → IsDecidedByRequest of_kind → IsDecidedBy of_kind small n count gained
    → (answered : Reply) × gained (job_of n (deciding of_kind small) 0) answered
decided_by kind.Copy true n count gained by h = (reply.Copied, h)
decided_by kind.Copy false n count gained by h = (reply.Completed, h)
decided_by kind.Upload small n count gained by h = absurd h
decided_by kind.RemoveObject small n count gained by h = absurd h
decided_by kind.Download small n count gained by h = absurd by
decided_by kind.RemoveFile small n count gained by h = absurd by

-- ---- a run that is shown

abbrev with_journal : Run → List Event → Run
with_journal run journal = record { start = run.start; trace = run.trace; journal = journal; dispatched = run.dispatched; refused_page = run.refused_page }

abbrev with_page : Run → List Event → Option ℕ → Run
with_page run journal page = record { start = run.start; trace = run.trace; journal = journal; dispatched = run.dispatched; refused_page = page }

-- it is the one of its start and its trace
pub run_is : (shown : Shown) (dispatched : List Dispatched) (run : Run) → run.dispatched ≡ dispatched → run.journal ≡ shown.journal → run.refused_page ≡ shown.refused_page
    → run ≡ run_of shown dispatched run.start run.trace
run_is shown dispatched run same is page = ap (with_journal run) is ∙ ap (with_page run shown.journal) page ∙ ap (λ (all : List Dispatched). run_of shown all run.start run.trace) same

abbrev pub IsAllTrue : Shown → Run → List Step → Type 0
IsAllTrue shown run part = AllEnded shown run part × NoneChanged shown run part × OthersStay shown run part × MovesAfter shown run × AbortsLast run.trace

-- so what holds of that one holds of it
pub as_shown : (Shows : Ask → ℕ → Talk → Class → List ℕ → Type 0) (shown : Shown) (dispatched : List Dispatched) (run : Run) (part : List Step)
    → run.dispatched ≡ dispatched → FitsShown Shows shown run → HasEndedBy run part
    → (IsTraceOf Shows shown.setting (run_of shown dispatched run.start run.trace) → HasJournal shown.journal run.trace part → IsAllTrue shown (run_of shown dispatched run.start run.trace) part)
    → IsAllTrue shown run part
as_shown Shows shown dispatched run part same of_shown whole holds =
    let is = run_is shown dispatched run same of_shown.of_journal of_shown.of_page in
    subst (λ (r : Run). IsAllTrue shown r part) (sym is)
    (holds (subst (λ (r : Run). IsTraceOf Shows shown.setting r) is of_shown.fitting) (subst (λ (r : Run). HasEndedBy r part) is whole))

-- ---- what is carried

module _ (Shows : Ask → ℕ → Talk → Class → List ℕ → Type 0) where
  pub carried_is_given : CarriedIsGiven Shows
  carried_is_given request_text host port s journal logs notes dispatched coming carried =
      (are_given Shows request_text host port s journal logs notes dispatched coming carried, has_come Shows request_text host port s journal logs notes dispatched coming carried)

-- ---- an orderly run

module _ (Shows : Ask → ℕ → Talk → Class → List ℕ → Type 0) (HasStatus : Ask → ℕ → Talk → ℕ → Type 0) (Plans : List Dispatched → Type 0) (CallFailed : ℕ → Cause → Type 0)
    (request_text : Ask → List ℕ → ℕ → List ℕ) (host : List ℕ) (port : ℕ) (shown : Shown) (dispatched coming : List Dispatched)
    (o : IsCarriedOut Shows HasStatus Plans CallFailed request_text host port shown dispatched coming) where
  abbrev s : Setting
  s = shown.setting

  questions : AreQuestions (planning_of dispatched)
  questions c known =
      let among = has (planning_of dispatched) c known in
      o.questions c (contains_of dispatched c (kept is_planning dispatched c among)) (planned_none c.dispatch.job.task (passes is_planning dispatched c among))

  pub scheduled : IsScheduled Shows s shown.journal dispatched coming
  scheduled = is_scheduled Shows request_text host port s shown.journal shown.logs shown.notes dispatched coming o.carried Plans o.schedule questions o.apart o.threshold o.limits

  -- ---- one task

  module _ (n : ℕ) (task : Task) (is_task : slice_get s.tasks n ≡ Some task) (by_requests : IsByRequests task) where
    abbrev Decides : Mark → Type 0
    Decides of_mark = HasDeciding Shows HasStatus CallFailed s dispatched coming n task of_mark

    pub decided : Decides mark.Success → IsDecidedIn Shows s dispatched n task
    decided d = record {
      request = d.0;
      known = d.1;
      decides = d.2.1;
      succeeded = marks.succeeded_by Shows request_text host port s shown.journal shown.logs shown.notes dispatched coming o.carried d.0 d.1 d.3;
    }

    refused : ¬ (Decides mark.Success) → ¬ (Decides mark.Uncertain) → IsRefusedIn Shows s dispatched n task
    refused no_success no_uncertain c known is_job =
        marks.refused_by Shows request_text host port s shown.journal shown.logs shown.notes dispatched coming o.carried c known
        (λ marked. no_success (c, known, (by_requests.decided, is_job), marked)) (λ marked. no_uncertain (c, known, (by_requests.decided, is_job), marked))

    -- ---- the deciding job

    row_of_deciding : (c : Dispatched) → Contains dispatched c → c.dispatch.job ≡ job_of n (deciding task.kind (is_small s task)) 0 → (shown_class : Class) → FitsAsk c c.ask shown_class
    row_of_deciding c known is_job shown_class =
        let own = tasks.row_of_job Shows s shown.journal dispatched coming scheduled n task by_requests.bucket by_requests.key is_task by_requests.is_dest c (deciding task.kind (is_small s task)) 0 known is_job in
        rows.row_fits (gained_before Shows dispatched c.dispatch.given_at) task (record { number = n; bytes = source_bytes s.held task.source; piece = own.piece; count = own.count })
        task.kind (is_small s task) c.dispatch.job.number c.ask c.body
        (subst (λ (o : Op). IsTaskAsk (gained_before Shows dispatched c.dispatch.given_at) task (record { number = n; bytes = source_bytes s.held task.source; piece = own.piece; count = own.count })
        task.kind (is_small s task) o c.dispatch.job.number c.ask c.body) (ap (λ (j : JobId). j.op) is_job) own.row)
        by_requests.decided c shown_class

    -- where a skipped task met its destination, no request that decides it came with success
    abbrev Skipped : Type 0
    Skipped = IsSkippedByRequest Shows HasStatus CallFailed s dispatched coming n task ⊎ IsSkippedByFile Shows HasStatus CallFailed s dispatched coming n task

    pub met_no_success : Skipped → Decides mark.Success → ⊥
    met_no_success (inl (fresh, of_kind, no_uncertain, met)) d =
        let ok = marks.success_is_last Shows request_text host port s shown.journal shown.logs shown.notes dispatched coming o.carried (o.one_class n task is_task fresh) d.0 d.1 d.3 in
        marks.success_not_failed Shows Plans s shown.journal dispatched coming o.schedule scheduled.given scheduled.come d.0 met.0 d.1 met.1 (d.2.1 ∙ sym met.2.1) ok
        (row_of_deciding met.0 met.1 met.2.1) met.3.0.0
    met_no_success (inr met) d = subst (λ (k : Kind). IsDecidedByRequest k) met.1 by_requests.decided

    -- ---- the Delete of a moved source

    -- it waits for a success of the deciding job
    delete_waits : (c : Dispatched) (number : ℕ) → Contains dispatched c → c.dispatch.job ≡ job_of n op.Delete number → task.moves ≡ true → Decides mark.Success
    delete_waits c number known is_job moves =
        let own = tasks.row_of_job Shows s shown.journal dispatched coming scheduled n task by_requests.bucket by_requests.key is_task by_requests.is_dest c op.Delete number known is_job in
        let waits = o.schedule.moves_last c n task known (ap (λ (j : JobId). j.task) is_job) is_task moves (ap (λ (j : JobId). j.op) is_job) own.piece own.count own.pieces in
        let gained = decided_by task.kind (is_small s task) n own.count (gained_before Shows dispatched c.dispatch.given_at) by_requests.decided waits in
        let first = gained.1.0 in
        (first, gained.1.1, (by_requests.decided, gained.1.2), marks.last_mark first (marks.replied_last Shows first (last_of first.dispatch.attempts) gained.0 gained.1.4))

    pub dry_gives_none : s.dryrun ≡ true → (c : Dispatched) → Contains dispatched c → c.dispatch.job.task ≡ Some n → ⊥
    dry_gives_none dried c known of_task = none_some (sym (o.schedule.dry c dried known) ∙ of_task)
      where
        none_some : ◌≡◌ {A = Option ℕ} None (Some n) → ⊥
        none_some e = cc

    -- ---- how it ended

    abbrev Caused : Outcome → Type 0
    Caused how = HasOutcome Shows HasStatus CallFailed s dispatched coming n task how

    pub decided_at : (of_kind : Kind) → IsDecidedByRequest of_kind → IsDecidedAt Shows HasStatus CallFailed s dispatched coming n task of_kind → Decides mark.Success
    decided_at kind.Upload by d = d
    decided_at kind.Copy by d = d
    decided_at kind.RemoveObject by d = d
    decided_at kind.Download by d = absurd by
    decided_at kind.RemoveFile by d = absurd by

    -- where the deciding job came with success the destination may be new
    new_where_decided : (how : Outcome) → Caused how → Decides mark.Success → MayBeNew how
    new_where_decided outcome.Done cause d = tt
    new_where_decided (outcome.Copied why) cause d = tt
    new_where_decided (outcome.Unknown why) cause d = tt
    new_where_decided (outcome.Failed why) cause d = cause.0 d
    new_where_decided outcome.Dry cause d = dry_gives_none cause d.0 d.1 (ap (λ (j : JobId). j.task) d.2.1)
    new_where_decided outcome.Skipped cause d = met_no_success cause.1 d

    refused_where_dry : s.dryrun ≡ true → IsRefusedIn Shows s dispatched n task
    refused_where_dry dried c known is_job = absurd (dry_gives_none dried c known (ap (λ (j : JobId). j.task) is_job))

    taken_by : task.fresh ≡ true → task.kind ≡ kind.Upload → (c : Dispatched) → Contains dispatched c → c.dispatch.job ≡ job_of n (deciding task.kind (is_small s task)) 0
        → IsTakenLast Shows HasStatus c (last_of c.dispatch.attempts) → IsTakenIn Shows s dispatched n task
    taken_by fresh is_upload c known is_job taken = elim (found_or_not (last_of c.dispatch.attempts)) [
      | inl none ↦ absurd (subst (λ (last : Option Attempt). IsTakenLast Shows HasStatus c last) none taken)
      | inr last ↦
          let says = subst (λ (any : Option Attempt). IsTakenLast Shows HasStatus c any) last.1 taken in
          let at = last_place c.dispatch.attempts last.0 last.1 in
          record {
            fresh = fresh;
            may_be = subst (λ (k : Kind). IsConditional k (is_small s task)) (sym is_upload) tt;
            request = c;
            known = known;
            decides = is_job;
            place = at.0;
            attempt = last.0;
            is_attempt = at.1;
            code = says.0;
            message = says.1;
            bytes = says.2;
            refused = says.3;
            says_taken = says.4;
          }
    ]

    -- ---- the source

    -- the file of its move is left as that outcome says
    abbrev pub FileIsLeft : Outcome → Type 0
    FileIsLeft how = (path : List ℕ) → task.moves ≡ true → task.source ≡ Some (place.File path) → IsFileLeft how (get shown.held_after path ≡ None) (get shown.held_after path ≡ get s.held path)

    module _ (how : Outcome) (file_is_left : FileIsLeft how) (start : State) (part : List Step) where
      abbrev before : Scene
      before = record { state = start; held = s.held; others = s.others }

      abbrev after : Scene
      after = record { state = state_after start part; held = shown.held_after; others = s.others }

      file_left : task.moves ≡ true → (path : List ℕ) → task.source ≡ Some (place.File path) → IsFileLeft how (get shown.held_after path ≡ None) (get shown.held_after path ≡ get s.held path)
      file_left moves path is_source = file_is_left path moves is_source

      spared_by : (source : Option Place) → ((c : Dispatched) (number : ℕ) → Contains dispatched c → c.dispatch.job ≡ job_of n op.Delete number → ⊥)
          → ((path : List ℕ) → source ≡ Some (place.File path) → get shown.held_after path ≡ get s.held path) → IsSpared n shown.journal before after source
      spared_by None never stays = tt
      spared_by (Some (place.File path)) never stays = stays path refl
      spared_by (Some (place.Object bucket key)) never stays = λ number lane given.
          let event = entry.Given (job_of n op.Delete number) lane in
          let at : slice_get shown.journal given.0 ≡ Some event = slice_get-get_or shown.journal given.0 event given.1 ∙ ap Some given.2 in
          let found = scheduled.given.each_given given.0 lane (job_of n op.Delete number) at in
          never found.0 number found.1 found.2

      spared : ((c : Dispatched) (number : ℕ) → Contains dispatched c → c.dispatch.job ≡ job_of n op.Delete number → task.moves ≡ true → ⊥)
          → (task.moves ≡ true → (path : List ℕ) → task.source ≡ Some (place.File path) → get shown.held_after path ≡ get s.held path) → OnTrue task.moves (IsSpared n shown.journal before after task.source)
      spared never stays = OnTrue_from task.moves _ (λ moves. spared_by task.source (λ c number known is_job. never c number known is_job moves) (stays moves))

      left_by : (source : Option Place) → ((path : List ℕ) → source ≡ Some (place.File path) → get shown.held_after path ≡ get s.held path) → IsGoneOrThere before after source
      left_by None stays = tt
      left_by (Some (place.File path)) stays = stays path refl
      left_by (Some (place.Object bucket key)) stays = tt

    gone_by : (source : Option Place) → Caused outcome.Done → task.moves ≡ true → task.source ≡ source
        → ((path : List ℕ) → source ≡ Some (place.File path) → get shown.held_after path ≡ None) → IsSourceGone Shows dispatched shown.held_after n source
    gone_by None cause moves is_source gone = tt
    gone_by (Some (place.File path)) cause moves is_source gone = gone path refl
    gone_by (Some (place.Object bucket key)) cause moves is_source gone =
        let deleted = cause.2 moves (subst (λ (p : Option Place). IsObjectPlace p) (sym is_source) tt) in
        (deleted.1.0, deleted.1.1, deleted.1.2, (replied Shows deleted.1.0 deleted.0 deleted.1.3).0)

    -- what its outcome shows of it
    shown_by : (how : Outcome) → FileIsLeft how → Caused how → (start : State) (part : List Step)
        → IsShown how (IsDecidedIn Shows s dispatched n task) (IsRefusedIn Shows s dispatched n task) (IsTakenIn Shows s dispatched n task) (OnTrue task.moves (IsSourceGone Shows dispatched shown.held_after n task.source))
        (OnTrue task.moves (IsGoneOrThere (record { state = start; held = s.held; others = s.others }) (record { state = state_after start part; held = shown.held_after; others = s.others }) task.source))
        (OnTrue task.moves (IsSpared n shown.journal (record { state = start; held = s.held; others = s.others }) (record { state = state_after start part; held = shown.held_after; others = s.others }) task.source))
    shown_by outcome.Done left cause start part =
        (decided (decided_at task.kind by_requests.decided cause.1), OnTrue_from task.moves _ (λ moves. gone_by task.source cause moves refl (file_left outcome.Done left start part moves)))
    shown_by (outcome.Copied why) left cause start part =
        (decided (decided_at task.kind by_requests.decided cause.1), OnTrue_from task.moves _ (λ moves. left_by (outcome.Copied why) left start part task.source (file_left (outcome.Copied why) left start part moves)))
    shown_by (outcome.Failed why) left cause start part = (
      refused cause.0 (λ uncertain. cause.1 (uncertain, cause.0)),
      spared (outcome.Failed why) left start part (λ c number known is_job moves. cause.0 (delete_waits c number known is_job moves)) (file_left (outcome.Failed why) left start part),
    )
    shown_by (outcome.Unknown why) left cause start part =
        spared (outcome.Unknown why) left start part (λ c number known is_job moves. cause.0.1 (delete_waits c number known is_job moves)) (file_left (outcome.Unknown why) left start part)
    shown_by outcome.Dry left cause start part = (
      refused_where_dry cause,
      spared outcome.Dry left start part (λ c number known is_job moves. dry_gives_none cause c known (ap (λ (j : JobId). j.task) is_job)) (file_left outcome.Dry left start part),
    )
    shown_by outcome.Skipped left cause start part = by_meeting cause.1
      where
        by_meeting : Skipped → IsRefusedIn Shows s dispatched n task × IsTakenIn Shows s dispatched n task
            × OnTrue task.moves (IsSpared n shown.journal (record { state = start; held = s.held; others = s.others }) (record { state = state_after start part; held = shown.held_after; others = s.others }) task.source)
        by_meeting (inl met) = (
          refused (met_no_success (inl met)) met.2,
          taken_by met.0 met.1 met.3.0 met.3.1 met.3.2.1 met.3.4,
          spared outcome.Skipped left start part (λ c number known is_job moves. met_no_success (inl met) (delete_waits c number known is_job moves)) (file_left outcome.Skipped left start part),
        )
        by_meeting (inr met) = absurd (subst (λ (k : Kind). IsDecidedByRequest k) met.1 by_requests.decided)

  -- ---- its outcome

  -- where a job of a task was given, the task has an outcome
  has_outcome : (c : Dispatched) (n : ℕ) → Contains dispatched c → c.dispatch.job.task ≡ Some n → (how : Outcome) × (slice_get shown.outcomes n ≡ Some how)
  has_outcome c n known of_task = elim o.outcomes [
    | inl each ↦
        let says = o.schedule.asks c n known of_task in
        let inside = slice_get_within s.tasks n says.0 says.3 in
        let within : n < length shown.outcomes = subst (λ (k : ℕ). n < k) (sym each) inside in
        (get_or shown.outcomes n outcome.Done, slice_get-get_or shown.outcomes n outcome.Done within)
    | inr none ↦ absurd (none_some (sym (none.2 c known) ∙ of_task))
  ]
    where
      none_some : ◌≡◌ {A = Option ℕ} None (Some n) → ⊥
      none_some e = cc

  pub none_at : (n : ℕ) (how : Outcome) → shown.outcomes ≡ [] → slice_get shown.outcomes n ≡ Some how → ⊥
  none_at n how none at = no_item (sym (ap (λ (all : List Outcome). slice_get all n) none) ∙ at)
    where
      no_item : ◌≡◌ {A = Option Outcome} None (Some how) → ⊥
      no_item e = cc

  -- ---- over one trace

  module _ (start : State) (trace part : List Step) (runs : IsTrace s.limits [] start trace) (honest : IsHonest start trace (IsDest s.tasks)) (fits : Fits Shows shown.refused_page (events_of trace) shown.journal dispatched)
      (whole : HasJournal shown.journal trace part) where
    abbrev run : Run
    run = run_of shown dispatched start trace

    of_trace : IsTraceOf Shows s run
    of_trace = record { runs = runs; honest = honest; fits = fits }

    of_plan : IsRunOf Shows s run
    of_plan = record { coming = coming; scheduled = scheduled; traced = of_trace }

    -- a task that requests decide, with its source as planned
    pub task_ended : (n : ℕ) (task : Task) (how : Outcome) (is_task : slice_get s.tasks n ≡ Some task) (by : IsByRequests task) → slice_get shown.outcomes n ≡ Some how → FileIsLeft n task is_task by how
        → (MayBeNew how → HasSource s.held (states start trace) task task.kind (is_small s task))
        → IsEnded shown.excused run (record { state = start; held = s.held; others = s.others }) (record { state = state_after start part; held = shown.held_after; others = s.others }) n task how
    task_ended n task how is_task by at_how left source =
        task_ends Shows s shown.excused shown.held_after run part of_plan whole n task by.bucket by.key is_task by.is_dest how source
        (shown_by n task is_task by how left (o.causes n task how is_task at_how) start part)

    pub none_changed : NoneChanged shown run part
    none_changed bucket key none = elim (others_stay Shows s.limits start trace dispatched shown.journal runs fits bucket key part whole.0 whole.1) [
      | inr rest ↦ rest
      | inl asked ↦ elim (found_or_not asked.0.dispatch.job.task) [
        | inl planned ↦ absurd (planning_changes_nothing asked.0.ask bucket key (o.questions asked.0 asked.1 planned) asked.2)
        | inr some ↦ let has = has_outcome asked.0 some.0 asked.1 some.1 in absurd (none_at some.0 has.0 none has.1)
      ]
    ]

    pub others : OthersStay shown run part
    others bucket key = other_objects_stay Shows s run part bucket key of_plan (whole.0, whole.1)

    -- where its copies are by requests, with their sources as planned
    pub moves_after : ((n : ℕ) (task : Task) → slice_get s.tasks n ≡ Some task → task.kind ≡ kind.Copy → IsByRequests task)
        → ((n : ℕ) (task : Task) (how : Outcome) → slice_get s.tasks n ≡ Some task → task.kind ≡ kind.Copy → slice_get shown.outcomes n ≡ Some how → MayBeNew how
        → HasSource s.held (states start trace) task task.kind (is_small s task)) → MovesAfter shown run
    moves_after by_each sources n task front later step lane sent is_task is_copy split is_event is_delete =
        let by = by_each n task is_task is_copy in
        let begun = begun_is_after Shows s.limits start trace dispatched shown.journal runs fits scheduled.given front step later lane sent split is_event in
        let is_job : begun.0.dispatch.job ≡ job_of n op.Delete 0 = begun.2 ∙ is_delete in
        let own = tasks.row_of_job Shows s shown.journal dispatched coming scheduled n task by.bucket by.key is_task by.is_dest begun.0 op.Delete 0 begun.1 is_job in
        let source = rows.row_source (gained_before Shows dispatched begun.0.dispatch.given_at) task (record { number = n; bytes = source_bytes s.held task.source; piece = own.piece; count = own.count })
        task.kind (is_small s task) begun.0.dispatch.job.number begun.0.ask begun.0.body
        (subst (λ (o : Op). IsTaskAsk (gained_before Shows dispatched begun.0.dispatch.given_at) task (record { number = n; bytes = source_bytes s.held task.source; piece = own.piece; count = own.count })
        task.kind (is_small s task) o begun.0.dispatch.job.number begun.0.ask begun.0.body) (ap (λ (j : JobId). j.op) is_job) own.row) (λ removal. not_removal (sym is_copy ∙ removal)) in
        let ended = has_outcome begun.0 n begun.1 (ap (λ (j : JobId). j.task) is_job) in
        let may = new_where_decided n task is_task by ended.0 (o.causes n task ended.0 is_task ended.1) (delete_waits n task is_task by begun.0 0 begun.1 is_job source.moves) in
        moved_task_is_new Shows s shown.excused shown.held_after run front later step of_plan split n task by.bucket by.key
        (record { is_task = is_task; is_dest = by.is_dest; has_source = sources n task ended.0 is_task is_copy ended.1 may }) is_copy lane sent is_event is_delete
      where
        not_removal : kind.Copy ≡ kind.RemoveObject → ⊥
        not_removal e = cc

module _ (Shows : Ask → ℕ → Talk → Class → List ℕ → Type 0) (HasStatus : Ask → ℕ → Talk → ℕ → Type 0) (Plans : List Dispatched → Type 0) (CallFailed : ℕ → Cause → Type 0)
    (request_text : Ask → List ℕ → ℕ → List ℕ) (host : List ℕ) (port : ℕ) (shown : Shown) (dispatched coming : List Dispatched)
    (o : IsOrderly Shows HasStatus Plans CallFailed request_text host port shown dispatched coming) where
  pub carried_out : IsCarriedOut Shows HasStatus Plans CallFailed request_text host port shown dispatched coming
  carried_out = record {
    schedule = o.schedule;
    carried = o.carried;
    outcomes = o.outcomes;
    causes = o.causes;
    questions = o.questions;
    apart = o.apart;
    one_class = o.one_class;
    threshold = o.threshold;
    limits = o.limits;
  }

  module _ (start : State) (trace part : List Step) (runs : IsTrace shown.setting.limits [] start trace) (honest : IsHonest start trace (IsDest shown.setting.tasks)) (fits : Fits Shows shown.refused_page (events_of trace) shown.journal dispatched)
      (whole : HasJournal shown.journal trace part) where
    abbrev shown_run : Run
    shown_run = run_of shown dispatched start trace

    of_shown : FitsShown Shows shown shown_run
    of_shown = record { of_journal = refl; of_page = refl; fitting = record { runs = runs; honest = honest; fits = fits } }

    pub all_ended : AllEnded shown shown_run part
    all_ended n task how is_task at_how =
        task_ended Shows HasStatus Plans CallFailed request_text host port shown dispatched coming carried_out start trace part runs honest fits whole n task how is_task (o.tasks n task is_task) at_how
        (λ path moves is_source. o.files n task how path is_task at_how moves is_source)
        (λ may. o.sources shown_run refl of_shown n task how is_task at_how may)

    pub all_true : IsAllTrue shown shown_run part
    all_true = (
      all_ended,
      none_changed Shows HasStatus Plans CallFailed request_text host port shown dispatched coming carried_out start trace part runs honest fits whole,
      others Shows HasStatus Plans CallFailed request_text host port shown dispatched coming carried_out start trace part runs honest fits whole,
      moves_after Shows HasStatus Plans CallFailed request_text host port shown dispatched coming carried_out start trace part runs honest fits whole
          (λ n task is_task is_copy. o.tasks n task is_task)
          (λ n task how is_task is_copy at_how may. o.sources shown_run refl of_shown n task how is_task at_how may),
      aborts_are_final shown.setting.limits start trace runs,
    )

module _ (Shows : Ask → ℕ → Talk → Class → List ℕ → Type 0) (HasStatus : Ask → ℕ → Talk → ℕ → Type 0) (Plans : List Dispatched → Type 0) (CallFailed : ℕ → Cause → Type 0) where
  pub promise_holds : PromiseHolds Shows HasStatus Plans CallFailed
  promise_holds request_text host port shown dispatched coming o run part same of_shown whole =
      as_shown Shows shown dispatched run part same of_shown whole
      (λ fitting ended. all_true Shows HasStatus Plans CallFailed request_text host port shown dispatched coming o run.start run.trace part fitting.runs fitting.honest fitting.fits ended)
