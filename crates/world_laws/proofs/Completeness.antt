-- An orderly run over a service that does what it may owes nothing.
use Rattle.std.proofs.Common.{◌≡◌, ◌∙◌, ◌⊎◌, ◌<◌, ◌≤◌, ◌++◌, ℕ, Bool, true, false, List, [], ◌∷◌, Option, Some, None, refl, sym, ap, subst, inl, inr, Contains, length, slice_get, arith}
use Rattle.world_laws.proofs.Fitting.{IsServed, task_asks_no_page}
use Rattle.world_laws.proofs.OpenUploads as opens
use Rattle.world_laws.proofs.OpenUploads.{IsOpenWith, Joins, UsesUpload, part_of, row_joins, row_upload, AsksPart, completed_says, complete_vacant}
use Rattle.world_laws.proofs.Uploads as up
use Rattle.world_laws.proofs.Multipart as multi
use Rattle.world_laws.proofs.TaskLaws as laws
use Rattle.world_laws.proofs.Uploads.{StoresPart, Change, EndsUpload}
use Rattle.std.specs.Cmp.Lexicographic.{nat_list_cmp_total}
use Rattle.std.specs.Prelude.{IsSome, IsNone, is_some}
use Rattle.std.specs.FinMap.{get}
use Rattle.std.proofs.lemmas.List.{append-nil}
use Rattle.std.proofs.lemmas.Option.{slice_get_within}
use Rattle.s3_model.specs.declared.requests.Ask.{Ask}
use Rattle.s3_model.specs.declared.requests.Op.{Op}
use Rattle.s3_model.specs.declared.requests.Op.TheVariants as op
use Rattle.s3_model.specs.declared.answers.Class.{Class}
use Rattle.s3_model.specs.declared.answers.Class.TheVariants as class
use Rattle.s3_model.specs.declared.answers.Reply.{Reply}
use Rattle.s3_model.specs.declared.outcomes.Cause.{Cause}
use Rattle.s3_model.specs.declared.outcomes.Cause.TheVariants as cause
use Rattle.s3_model.specs.declared.outcomes.JobId.{JobId}
use Rattle.s3_model.specs.declared.outcomes.Event.{Event}
use Rattle.s3_model.specs.declared.outcomes.Outcome.{Outcome}
use Rattle.s3_model.specs.declared.outcomes.Outcome.TheVariants as outcome
use Rattle.s3_model.specs.declared.places.Place.{Place}
use Rattle.s3_model.specs.declared.places.Place.TheVariants as place
use Rattle.s3_model.specs.declared.tasks.Kind.{Kind}
use Rattle.s3_model.specs.declared.tasks.Kind.TheVariants as kind
use Rattle.s3_model.specs.declared.tasks.Task.{Task}
use Rattle.s3_model.specs.declared.tries.Mark.{Mark}
use Rattle.s3_model.specs.declared.tries.Mark.TheVariants as mark
use Rattle.s3_model.specs.Talks.{Talk}
use Rattle.s3_service.specs.ServiceState.{State, Object, object_at, Ended, CompletedBy}
use Rattle.s3_service.specs.Serves.{Replied, IsVacant, Succeeds}
use Rattle.job_terms.specs.Dispatches.{Attempt, Dispatched, last_of}
use Rattle.job_terms.specs.Ops.{op_number, deciding}
use Rattle.run_promise.specs.Endings.{IsThereIn}
use Rattle.run_promise.specs.Fits.{request_at}
use Rattle.run_promise.specs.Outcomes.{HasDeciding, HasOutcome, IsCauseOf, IsDecidedByRequest, IsFirstFailure, IsSkippedByFile, IsSkippedByRequest, ReadsSource, IsTakenLast, FailsFirstBy, FailsFor, StaysFor}
use Rattle.run_promise.specs.Runs.{Run}
use Rattle.run_promise.specs.Schedule.{Setting, IsTaskAsk, Known, gained_before, is_small, source_bytes, IsUpload}
use Rattle.job_terms.specs.Jobs.{IsObject, Target, job_of}
use Rattle.run_promise.specs.Traces.{Step, TraceEvent, Serve, IsWilling, Steps, state_after}
use Rattle.run_promise.specs.Truthful.{Shown, AreCertain, HasDestBuckets, IsAlone, IsFinished, MayBeFresh, WasTaken}
use Rattle.shared_lemmas.proofs.Clashes.{some_is, true_is_false}
use Rattle.shared_lemmas.proofs.Maps.{get-insert_other, get-insert_same, not_both, text_decided, text_exact}
use Rattle.shared_lemmas.proofs.Members.{found_or_not}
use Rattle.world_laws.specs.Completeness.{AreCallsCounted, AreSourcesThere, IsOwed, AreFreshByKind, OrderlyIsDone, WillingIsDone}
use Rattle.world_laws.specs.Promises.{run_of, IsByRequests, IsOrderly}
use Rattle.world_laws.specs.Tasks.{IsScheduled, IsTraceOf}
use Rattle.world_laws.proofs.Early as early
use Rattle.world_laws.proofs.Early.{reached}
use Rattle.world_laws.proofs.Fitting as fitting
use Rattle.job_terms.proofs.SameJobs.{either_way}
use Rattle.world_laws.proofs.Promises as promises
use Rattle.world_laws.proofs.Requests.{may_change_decided, success_elsewhere}
use Rattle.world_laws.proofs.Rows as rows
use Rattle.world_laws.proofs.Tasks as tasks
use Rattle.world_laws.proofs.Tasks.{last_place, planning_changes_nothing}
use Rattle.world_laws.proofs.Traces.{begun_through, step_of}
use Rattle.world_laws.proofs.RefusedJobs as jobs
use Rattle.world_laws.proofs.RefusedJobs.{upload_is_no_removal, part_is_no_abort, copied_is_no_abort, complete_is_no_abort, fits_any, put_vacant, bucket_of_object, there_or_not, not_there, same_completed, beyond, refused_is_no_reply, same_answer}

module _ (Shows : Ask → ℕ → Talk → Class → List ℕ → Type 0) (HasStatus : Ask → ℕ → Talk → ℕ → Type 0) (Plans : List Dispatched → Type 0) (CallFailed : ℕ → Cause → Type 0)
    (request_text : Ask → List ℕ → ℕ → List ℕ) (host : List ℕ) (port : ℕ) (shown : Shown) (dispatched coming : List Dispatched)
    (o : IsOrderly Shows HasStatus Plans CallFailed request_text host port shown dispatched coming)
    (certain : AreCertain Shows dispatched) (not_cancelled : shown.setting.cancelled_at ≡ None)
    (start : State) (trace : List Step) (p : IsTraceOf Shows shown.setting (run_of shown dispatched start trace)) (willing : IsWilling shown.setting.limits start trace) (alone : IsAlone trace)
    (buckets : HasDestBuckets shown.setting.tasks start) (sources : AreSourcesThere shown.setting.held shown.setting.tasks start) where
  abbrev s : Setting
  s = shown.setting

  abbrev scheduled : IsScheduled Shows s shown.journal dispatched coming
  scheduled = jobs.scheduled Shows HasStatus Plans CallFailed request_text host port shown dispatched coming o certain not_cancelled start trace p willing alone buckets sources

  -- ---- one task

  module _ (n : ℕ) (task : Task) (is_task : slice_get s.tasks n ≡ Some task) (enough : s.wanted_memory (Some n) ≡ true → ⊥) (may_be_fresh : task.fresh ≡ true → MayBeFresh task.kind) where
    abbrev by : IsByRequests task
    by = jobs.by Shows HasStatus Plans CallFailed request_text host port shown dispatched coming o certain not_cancelled start trace p willing alone buckets sources n task is_task enough may_be_fresh

    abbrev Deciding : JobId
    Deciding = job_of n (deciding task.kind (is_small s task)) 0

    abbrev Gains : ℕ → JobId → Reply → Type 0
    Gains place = gained_before Shows dispatched place

    abbrev known_by : ℕ → ℕ → Known
    known_by piece count = record { number = n; bytes = source_bytes s.held task.source; piece = piece; count = count }

    abbrev HereServed : Dispatched → State → Reply → List ℕ → State → Type 0
    HereServed = IsServed Shows s.limits start trace dispatched

    -- ---- its first failure

    abbrev First : Cause → Type 0
    First why = FailsFirstBy Shows HasStatus CallFailed s dispatched coming n why

    abbrev Skips : Type 0
    Skips = IsSkippedByRequest Shows HasStatus CallFailed s dispatched coming n task

    abbrev Decides : Mark → Type 0
    Decides of_mark = HasDeciding Shows HasStatus CallFailed s dispatched coming n task of_mark

    never_left_open : Decides mark.Uncertain → ⊥
    never_left_open d = jobs.never_open Shows HasStatus Plans CallFailed request_text host port shown dispatched coming o certain not_cancelled start trace p willing alone buckets sources n task is_task enough may_be_fresh d.0 d.1 (ap (λ (j : JobId). j.task) d.2.1) d.3

    abbrev IsRefusal : Cause → Type 0
    IsRefusal (cause.Service of_op code message) = Unit {0}
    IsRefusal other = ⊥

    -- it is a refusal since its destination was there
    module _ (c : Dispatched) (first : IsFirstFailure Shows HasStatus CallFailed s dispatched coming n c) (attempt : Attempt) (is_last : last_of c.dispatch.attempts ≡ Some attempt) where
      known : Contains dispatched c
      known = jobs.known_failed Shows HasStatus Plans CallFailed request_text host port shown dispatched coming o certain not_cancelled start trace p willing alone buckets sources c first.0.0

      at : (k : ℕ) × (slice_get c.dispatch.attempts k ≡ Some attempt)
      at = last_place c.dispatch.attempts attempt is_last

      refused : (code message bytes : List ℕ) → Shows c.ask c.limit attempt.talk (class.Refusal code message) bytes → Skips
      refused code message bytes shows =
          let is = jobs.taken Shows HasStatus Plans CallFailed request_text host port shown dispatched coming o certain not_cancelled start trace p willing alone buckets sources n task is_task enough may_be_fresh c known first.0.1 first.0.0 at.0 attempt at.1 code message bytes shows in (
            is.0,
            is.1,
            never_left_open,
            (c, known, (by.decided, is.2), first, subst (λ (last : Option Attempt). IsTakenLast Shows HasStatus c last) (sym is_last) (code, message, bytes, shows, is.3)),
          )

      -- a Put reads no source
      not_changed : ReadsSource c.dispatch.job.op → (code message bytes : List ℕ) → Shows c.ask c.limit attempt.talk (class.Refusal code message) bytes → ⊥
      not_changed reads code message bytes shows =
          let is = jobs.taken Shows HasStatus Plans CallFailed request_text host port shown dispatched coming o certain not_cancelled start trace p willing alone buckets sources n task is_task enough may_be_fresh c known first.0.1 first.0.0 at.0 attempt at.1 code message bytes shows in
          writes (is_small s task) (subst (λ (k : Kind). ReadsSource (deciding k (is_small s task))) is.1 (subst (λ (j : JobId). ReadsSource j.op) is.2 reads))
        where
          writes : (small : Bool) → ReadsSource (deciding kind.Upload small) → ⊥
          writes true h = h
          writes false h = h

      by_cause : (why : Cause) → IsCauseOf Shows HasStatus c (Some attempt) why → IsRefusal why × Skips
      by_cause (cause.Service of_op code message) h = (tt, refused code message h.1.0 h.1.1)
      by_cause (cause.Lost of_op reason) h = absurd (certain c at.0 attempt reason h.2 known at.1 h.3)
      by_cause cause.Changed h = absurd (not_changed h.0 h.1.0 h.1.1 h.1.2 h.1.3)
      by_cause (cause.BadReply of_op) h = absurd (h.4 (jobs.takes_any Shows HasStatus Plans CallFailed request_text host port shown dispatched coming o certain not_cancelled start trace p willing alone buckets sources n task is_task enough may_be_fresh c known first.0.1 first.0.0 (class.Success h.1)))
      by_cause (cause.Files of_call) h = absurd h
      by_cause (cause.Blocked length) h = absurd h
      by_cause (cause.Cancelled reason) h = absurd h
      by_cause cause.Memory h = absurd h

    by_first : (why : Cause) → First why → IsRefusal why × Skips
    by_first why fails = elim (found_or_not (last_of fails.0.dispatch.attempts)) [
      | inl none ↦ absurd (subst (λ (last : Option Attempt). IsCauseOf Shows HasStatus fails.0 last why) none fails.2)
      | inr last ↦ by_cause fails.0 fails.1 last.0 last.1 why (subst (λ (any : Option Attempt). IsCauseOf Shows HasStatus fails.0 any why) last.1 fails.2)
    ]

    no_cancel : IsSome s.cancelled_at → ⊥
    no_cancel some = true_is_false (sym some ∙ ap (λ (place : Option ℕ). is_some place) not_cancelled)

    -- a task fails by a call on files alone
    fails_by_call : (why : Cause) → FailsFor Shows HasStatus CallFailed s dispatched coming n task why → CallFailed n why
    fails_by_call cause.Memory fails = absurd (enough fails)
    fails_by_call (cause.Files of_call) fails = fails.1
    fails_by_call (cause.Blocked length) fails = fails.1
    fails_by_call (cause.Cancelled reason) fails = absurd (no_cancel fails.0)
    fails_by_call cause.Changed (inl by_file) = by_file.1
    fails_by_call cause.Changed (inr fails) = absurd (by_first cause.Changed fails).0
    fails_by_call (cause.Service of_op code message) fails = absurd (fails.1 (by_first (cause.Service of_op code message) fails.0).1)
    fails_by_call (cause.Lost of_op reason) fails = absurd (by_first (cause.Lost of_op reason) fails).0
    fails_by_call (cause.BadReply of_op) fails = absurd (by_first (cause.BadReply of_op) fails).0

    abbrev IsByFiles : Cause → Type 0
    IsByFiles (cause.Files of_call) = Unit {0}
    IsByFiles other = ⊥

    -- and so its moved source stays
    stays_by_call : (why : Cause) → StaysFor Shows HasStatus CallFailed s dispatched coming n task why → IsByFiles why
    stays_by_call (cause.Files of_call) stays = tt
    stays_by_call cause.Memory stays = enough stays
    stays_by_call (cause.Blocked length) stays = stays
    stays_by_call (cause.Cancelled reason) stays = no_cancel stays.0
    stays_by_call cause.Changed stays = stays
    stays_by_call (cause.Service of_op code message) stays = stays.1 (by_first (cause.Service of_op code message) stays.0).1
    stays_by_call (cause.Lost of_op reason) stays = (by_first (cause.Lost of_op reason) stays).0
    stays_by_call (cause.BadReply of_op) stays = (by_first (cause.BadReply of_op) stays).0

    -- ---- a task that is done

    abbrev IsThereNow : State → Type 0
    IsThereNow t = IsSome (object_at t by.bucket by.key)

    -- its destination is there, and no upload of it was completed
    abbrev IsKeptBack : State → Type 0
    IsKeptBack t = IsThereNow t × ((id : List ℕ) (place : ℕ) → IsUpload (Gains place) n id → (etags : List (List ℕ)) → get t.ended id ≡ Some (CompletedBy etags) → ⊥)

    -- where it is not to replace what was there, no request of it succeeds
    module _ (fresh : task.fresh ≡ true) (is_upload : task.kind ≡ kind.Upload) (was_there : IsThereNow start) where
      not_vacant : (to : Target task) (t : State) → IsThereNow t → IsVacant task.fresh t to.bucket to.key → ⊥
      not_vacant to t now vacant =
          let same = rows.same_place task.dest to.bucket to.key by.bucket by.key to.is_dest (subst (λ (d : Place). IsObject d by.bucket by.key) (sym by.is_dest) (refl, refl)) in
          not_there (object_at t by.bucket by.key) now
          (subst (λ (k : List ℕ). IsNone (object_at t by.bucket k)) same.1 (subst (λ (b : List ℕ). IsNone (object_at t b to.key)) same.0 (vacant fresh)))

      completes_nothing : (c : Dispatched) → Contains dispatched c → c.dispatch.job ≡ job_of n op.Complete 0 → (t : State) (answered : Reply) (bytes : List ℕ) (new : State) → Succeeds s.limits t c.ask c.body answered bytes new → IsKeptBack t → ⊥
      completes_nothing c known is_job t answered bytes new succeeds back =
          let all = (jobs.joins Shows HasStatus Plans CallFailed request_text host port shown dispatched coming o certain not_cancelled start trace p willing alone buckets sources n task is_task enough may_be_fresh c known is_job).1 in
          elim (complete_vacant s.limits c.ask c.body all.to.bucket all.to.key all.id (record { items = all.etags; spare = all.spare }) task.fresh t answered bytes new all.asks succeeds) [
            | inl vacant ↦ not_vacant all.to t back.0 vacant
            | inr before ↦ back.1 all.id c.dispatch.given_at all.created all.etags before
          ]

      replaces_nothing : (c : Dispatched) → Contains dispatched c → c.dispatch.job ≡ Deciding → (t : State) (answered : Reply) (bytes : List ℕ) (new : State) → Succeeds s.limits t c.ask c.body answered bytes new → IsKeptBack t → ⊥
      replaces_nothing c known is_job t answered bytes new succeeds back = elim (either_way (is_small s task)) [
        | inr large ↦
            completes_nothing c known (is_job ∙ ap (λ (k : Kind). job_of n (deciding k (is_small s task)) 0) is_upload ∙ ap (λ (small : Bool). job_of n (deciding kind.Upload small) 0) large) t answered bytes new succeeds back
        | inl is_put ↦
            let row = jobs.own_row Shows HasStatus Plans CallFailed request_text host port shown dispatched coming o certain not_cancelled start trace p willing alone buckets sources n task is_task enough may_be_fresh c known (ap (λ (j : JobId). j.task) is_job) in
            let is_op : c.dispatch.job.op ≡ op.Put = ap (λ (j : JobId). j.op) is_job ∙ ap (λ (k : Kind). deciding k (is_small s task)) is_upload ∙ ap (deciding kind.Upload) is_put in
            let as_put = subst (λ (f : Op). IsTaskAsk (Gains c.dispatch.given_at) task (known_by row.piece row.count) kind.Upload true f c.dispatch.job.number c.ask c.body) is_op
            (subst (λ (small : Bool). IsTaskAsk (Gains c.dispatch.given_at) task (known_by row.piece row.count) kind.Upload small c.dispatch.job.op c.dispatch.job.number c.ask c.body) is_put
            (subst (λ (k : Kind). IsTaskAsk (Gains c.dispatch.given_at) task (known_by row.piece row.count) k (is_small s task) c.dispatch.job.op c.dispatch.job.number c.ask c.body) is_upload row.row)) in
            let vacant = put_vacant (Gains c.dispatch.given_at) task (known_by row.piece row.count) c.dispatch.job.number c.ask c.body as_put s.limits t answered bytes new succeeds in
            not_vacant vacant.0 t back.0 vacant.1
      ]

      -- an upload of it that a request completes
      completer : (d : Dispatched) → Contains dispatched d → (b k id : List ℕ) (place : ℕ) (etags : List (List ℕ)) → IsUpload (Gains place) n id → EndsUpload d.ask b k id (CompletedBy etags) → d.dispatch.job ≡ job_of n op.Complete 0
      completer d known b k id place etags created ends =
          elim (opens.ender Shows s shown.journal dispatched coming scheduled start trace p n task by.bucket by.key is_task by.is_dest (jobs.lasts Shows HasStatus Plans CallFailed request_text host port shown dispatched coming o certain not_cancelled start trace p willing alone buckets sources n task is_task enough may_be_fresh) d known b k id (CompletedBy etags) (place, created) ends) [
            | inl is ↦ is
            | inr aborts ↦
                let row = jobs.own_row Shows HasStatus Plans CallFailed request_text host port shown dispatched coming o certain not_cancelled start trace p willing alone buckets sources n task is_task enough may_be_fresh d known (ap (λ (j : JobId). j.task) aborts) in
                let same = rows.row_op (Gains d.dispatch.given_at) task (known_by row.piece row.count) task.kind (is_small s task) d.dispatch.job.op d.dispatch.job.number d.ask d.body row.row in
                let level : ◌≡◌ {A = ℕ} 8 9 = sym (ap rows.ask_number ends.2) ∙ same ∙ ap (λ (j : JobId). op_number j.op) aborts in
                absurd (omega arith)
          ]

      none_completed : (d : Dispatched) → Contains dispatched d → (t : State) (answered : Reply) (bytes : List ℕ) (new : State) → Succeeds s.limits t d.ask d.body answered bytes new → IsKeptBack t
          → Change d.ask d.body answered t new → (id : List ℕ) (place : ℕ) → IsUpload (Gains place) n id → (etags : List (List ℕ)) → get new.ended id ≡ Some (CompletedBy etags) → ⊥
      none_completed d known t answered bytes new succeeds back (up.none same_uploads same_ended) id place created etags e =
          back.1 id place created etags (ap (λ all. get all id) (sym same_ended) ∙ e)
      none_completed d known t answered bytes new succeeds back (up.created b k content other made is_create is_created was_free is_fresh is_uploads same_ended) id place created etags e =
          back.1 id place created etags (ap (λ all. get all id) (sym same_ended) ∙ e)
      none_completed d known t answered bytes new succeeds back (up.stored b k other number was part stores was_open is_uploads same_ended says) id place created etags e =
          back.1 id place created etags (ap (λ all. get all id) (sym same_ended) ∙ e)
      none_completed d known t answered bytes new succeeds back (up.closed b k other was how ends was_open is_uploads is_ended) id place created etags e = elim (text_decided id other) [
        | inr apart ↦ back.1 id place created etags (sym (get-insert_other nat_list_cmp_total text_exact t.ended other how id apart) ∙ ap (λ all. get all id) (sym is_ended) ∙ e)
        | inl same ↦
            let here : get new.ended other ≡ Some how = ap (λ all. get all other) is_ended ∙ get-insert_same nat_list_cmp_total text_exact t.ended other how in
            let is_how : how ≡ CompletedBy etags = some_is how (CompletedBy etags) (sym here ∙ ap (get new.ended) (sym same) ∙ e) in
            let ends_here : EndsUpload d.ask b k id (CompletedBy etags) = subst (λ (h : Ended). EndsUpload d.ask b k id h) is_how (subst (λ (x : List ℕ). EndsUpload d.ask b k x how) (sym same) ends) in
            completes_nothing d known (completer d known b k id place etags created ends_here) t answered bytes new succeeds back
      ]

      none_at_start : (id : List ℕ) (place : ℕ) → IsUpload (Gains place) n id → (etags : List (List ℕ)) → get start.ended id ≡ Some (CompletedBy etags) → ⊥
      none_at_start id place created etags e =
          let fits = laws.fitting Shows s (run_of shown dispatched start trace) coming scheduled n task by.bucket by.key is_task by.is_dest p in
          let at = multi.created_at Shows s.limits (run_of shown dispatched start trace) by.bucket by.key fits id (tasks.created Shows s shown.journal dispatched coming scheduled n task by.bucket by.key is_task by.is_dest place id created) in
          let free = multi.free_earlier Shows s.limits (run_of shown dispatched start trace) by.bucket by.key fits id [] at.front (at.step ∷ at.back) at.is at.free in
          not_both (get start.ended id) (CompletedBy etags) free.not_ended e

      stays_there : (front back : List Step) → trace ≡ front ++ back → IsKeptBack (state_after start front)
      stays_there front back is =
          let upto : reached front ≤ reached front = omega arith in
          early.holds_until Shows s.limits start trace dispatched shown.journal p.runs p.fits scheduled.given alone (reached front) IsKeptBack
          (λ d old answered bytes new served given kept. (
            there_still d old answered bytes new served kept,
            none_completed d served.known old answered bytes new served.succeeds kept (up.success_changes s.limits old d.ask d.body answered bytes new served.succeeds),
          ))
          front back is upto (was_there, none_at_start)
        where
          there_still : (d : Dispatched) (old : State) (answered : Reply) (bytes : List ℕ) (new : State) → HereServed d old answered bytes new → IsKeptBack old → IsThereNow new
          there_still d old answered bytes new served kept = elim (may_change_decided by.bucket by.key d.ask) [
            | inr apart ↦ subst (λ (found : Option Object). IsSome found) (sym (success_elsewhere by.bucket by.key s.limits old d.ask d.body answered bytes new served.succeeds apart)) kept.0
            | inl may ↦
                let change = tasks.changes Shows s shown.journal dispatched coming scheduled n task by.bucket by.key is_task by.is_dest d served.known may in
                absurd (replaces_nothing d served.known change.is_job old answered bytes new served.succeeds kept)
          ]

      never_decided : Decides mark.Success → ⊥
      never_decided d =
          let told = promises.decided Shows HasStatus Plans CallFailed request_text host port shown dispatched coming (promises.carried_out Shows HasStatus Plans CallFailed request_text host port shown dispatched coming o) n task is_task (o.tasks n task is_task) d in
          let has_come = jobs.come Shows HasStatus Plans CallFailed request_text host port shown dispatched coming o certain not_cancelled start trace p willing alone buckets sources told.request told.known in
          let served = fitting.success_is_served Shows s.limits start trace dispatched shown.journal p.runs p.fits trace [] (sym (append-nil trace)) told.request told.known
          (has_come.0, has_come.1, has_come.2, ap (λ (j : List Event). slice_get j has_come.0) p.fits.moves ∙ has_come.3) told.succeeded
          (λ page. task_asks_no_page n told.request (ap (λ (j : JobId). j.task) told.decides) (page.0, page.1)) in
          let sent = request_at told.request told.succeeded.place in
          let step = step_of trace (Serve sent (Replied served.0 told.succeeded.bytes)) served.2 in
          let steps = subst (λ (event : TraceEvent). Steps s.limits (begun_through [] step.front) (state_after start step.front) event step.step.state) step.is_event
          (fitting.steps_at Shows s.limits start trace dispatched shown.journal p.runs p.fits step.front step.step step.back step.is) in
          replaces_nothing told.request told.known told.decides (state_after start step.front) served.0 told.succeeded.bytes step.step.state steps.1 (stays_there step.front (step.step ∷ step.back) step.is)

    never_taken : Decides mark.Success → WasTaken shown start n → ⊥
    never_taken d taken = by_kind task.kind refl (subst (λ (k : Kind). MayBeFresh k) (ap (λ (t : Task). t.kind) is) taken.3)
      where
        is : taken.0 ≡ task
        is = some_is taken.0 task (sym taken.1 ∙ is_task)

        there_at : (d : Place) → d ≡ place.Object by.bucket by.key → IsThereIn (record { state = start; held = s.held; others = s.others }) d → IsThereNow start
        there_at d is_dest h = subst (λ (q : Place). IsThereIn (record { state = start; held = s.held; others = s.others }) q) is_dest h

        by_kind : (k : Kind) → task.kind ≡ k → MayBeFresh task.kind → ⊥
        by_kind kind.Upload is_kind may =
            never_decided (ap (λ (t : Task). t.fresh) (sym is) ∙ taken.2) is_kind (there_at taken.0.dest (ap (λ (t : Task). t.dest) is ∙ by.is_dest) taken.4) d
        by_kind kind.Copy is_kind may = subst (λ (k : Kind). MayBeFresh k) is_kind may
        by_kind kind.RemoveObject is_kind may = subst (λ (k : Kind). MayBeFresh k) is_kind may
        by_kind kind.RemoveFile is_kind may = subst (λ (k : Kind). MayBeFresh k) is_kind may
        by_kind kind.Download is_kind may = subst (λ (k : Kind). IsDecidedByRequest k) is_kind by.decided

    -- ---- what is owed to it

    not_dry : Decides mark.Success → s.dryrun ≡ true → ⊥
    not_dry d dried = promises.dry_gives_none Shows HasStatus Plans CallFailed request_text host port shown dispatched coming (promises.carried_out Shows HasStatus Plans CallFailed request_text host port shown dispatched coming o) n task is_task (o.tasks n task is_task) dried d.0 d.1 (ap (λ (j : JobId). j.task) d.2.1)

    -- a finished task, where the run is no dry one
    carried_out : (how : Outcome) → (s.dryrun ≡ true → ⊥) → IsFinished false (WasTaken shown start n) how → IsFinished s.dryrun (WasTaken shown start n) how
    carried_out how real finished = elim (either_way s.dryrun) [
      | inl dried ↦ absurd (real dried)
      | inr wet ↦ subst (λ (dry : Bool). IsFinished dry (WasTaken shown start n) how) (sym wet) finished
    ]

    copied_by_call : (why : Cause) → IsByFiles why → Decides mark.Success → IsFinished false (WasTaken shown start n) (outcome.Copied why)
    copied_by_call (cause.Files of_call) files d = never_taken d
    copied_by_call (cause.Service of_op code message) files d = absurd files
    copied_by_call (cause.Lost of_op reason) files d = absurd files
    copied_by_call cause.Changed files d = absurd files
    copied_by_call (cause.BadReply of_op) files d = absurd files
    copied_by_call (cause.Blocked length) files d = absurd files
    copied_by_call (cause.Cancelled reason) files d = absurd files
    copied_by_call cause.Memory files d = absurd files

    module _ (counted : AreCallsCounted Shows HasStatus Plans CallFailed shown) where
      owed : (how : Outcome) → slice_get shown.outcomes n ≡ Some how → HasOutcome Shows HasStatus CallFailed s dispatched coming n task how → IsOwed shown start n how
      owed outcome.Done at caused =
          let d = promises.decided_at Shows HasStatus Plans CallFailed request_text host port shown dispatched coming (promises.carried_out Shows HasStatus Plans CallFailed request_text host port shown dispatched coming o) n task is_task (o.tasks n task is_task) task.kind by.decided caused.1 in
          inl (carried_out outcome.Done (not_dry d) (never_taken d))
      owed (outcome.Copied why) at caused =
          let d = promises.decided_at Shows HasStatus Plans CallFailed request_text host port shown dispatched coming (promises.carried_out Shows HasStatus Plans CallFailed request_text host port shown dispatched coming o) n task is_task (o.tasks n task is_task) task.kind by.decided caused.1 in
          inl (carried_out (outcome.Copied why) (not_dry d) (copied_by_call why (stays_by_call why caused.3) d))
      owed (outcome.Failed why) at caused = inr (inl (counted n why at (fails_by_call why caused.2)))
      owed (outcome.Unknown why) at caused = absurd (never_left_open caused.0.0)
      owed outcome.Dry at caused = inl (subst (λ (dry : Bool). IsFinished dry (WasTaken shown start n) outcome.Dry) (sym caused) refl)
      owed outcome.Skipped at caused = inl (carried_out outcome.Skipped (λ dried. true_is_false (sym dried ∙ caused.0)) (skipped caused.1))
        where
          skipped : (Skips ⊎ IsSkippedByFile Shows HasStatus CallFailed s dispatched coming n task) → WasTaken shown start n
          skipped (inr by_file) = absurd (subst (λ (k : Kind). IsDecidedByRequest k) by_file.1 by.decided)
          skipped (inl met) =
              let ended = promises.all_ended Shows HasStatus Plans CallFailed request_text host port shown dispatched coming o start trace trace p.runs p.honest p.fits
              ([], sym (append-nil trace), p.fits.moves) n task outcome.Skipped is_task at in
              (task, is_task, met.0, subst (λ (k : Kind). MayBeFresh k) (sym met.1) tt, ended.1)

  -- each task has one of the plan
  task_of : (n : ℕ) (how : Outcome) → slice_get shown.outcomes n ≡ Some how → (task : Task) × (slice_get s.tasks n ≡ Some task)
  task_of n how at = elim o.outcomes [
    | inl each ↦
        let inside = slice_get_within shown.outcomes n how at in
        let within : n < length s.tasks = subst (λ (k : ℕ). n < k) each inside in
        elim (found_or_not (slice_get s.tasks n)) [ inr found ↦ found | inl none ↦ absurd (beyond s.tasks n within none) ]
    | inr none ↦ absurd (promises.none_at Shows HasStatus Plans CallFailed request_text host port shown dispatched coming (promises.carried_out Shows HasStatus Plans CallFailed request_text host port shown dispatched coming o) n how none.1 at)
  ]

  pub nothing_owed : AreCallsCounted Shows HasStatus Plans CallFailed shown → AreFreshByKind shown.setting.tasks → (n : ℕ) (how : Outcome) → slice_get shown.outcomes n ≡ Some how → IsOwed shown start n how
  nothing_owed counted fresh n how at =
      let of = task_of n how at in
      elim (either_way (s.wanted_memory (Some n))) [
        | inl wanting ↦ inr (inr wanting)
        | inr none ↦ owed n of.0 of.1 (λ wanting. true_is_false (sym wanting ∙ none)) (fresh n of.0 of.1) counted how at (o.causes n of.0 how of.1 at)
      ]

module _ (Shows : Ask → ℕ → Talk → Class → List ℕ → Type 0) (HasStatus : Ask → ℕ → Talk → ℕ → Type 0) (Plans : List Dispatched → Type 0) (CallFailed : ℕ → Cause → Type 0) where
  pub willing_is_done : WillingIsDone Shows HasStatus Plans CallFailed
  willing_is_done request_text host port shown run coming o counted fresh of_shown willing certain alone buckets sources not_cancelled =
      nothing_owed Shows HasStatus Plans CallFailed request_text host port shown run.dispatched coming o certain not_cancelled run.start run.trace
      (subst (λ (r : Run). IsTraceOf Shows shown.setting r) (promises.run_is shown run.dispatched run refl of_shown.of_journal of_shown.of_page) of_shown.fitting) willing alone buckets sources counted fresh

  pub orderly_is_done : OrderlyIsDone Shows HasStatus Plans CallFailed
  orderly_is_done request_text host port shown counted fresh orderly sources run coming scheduled carried of_shown willing certain alone buckets not_cancelled =
      willing_is_done request_text host port shown run coming (orderly run.dispatched coming scheduled carried) counted fresh of_shown
      willing certain alone buckets (sources run coming scheduled carried of_shown willing alone) not_cancelled
