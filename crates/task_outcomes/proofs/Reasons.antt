-- Why a task failed, why its source stayed, and why nobody can know how it ended.
use Rattle.std.proofs.Common.{append_assoc, ◌≡◌, ◌≢◌, ◌∙◌, ◌==◌, ◌&&◌, ◌⊎◌, ◌++◌, ◌<◌, ℕ, suc, Bool, true, false, List, [], ◌∷◌, Option, Some, None, Contains, length, map, refl, sym, subst, ap, inl, inr, arith, slice_get}
use Rattle.std.specs.Option.{option_or}
use Rattle.std.specs.Prelude.{if◌then◌else◌, is_some, nat_lt}
use Rattle.jobs.specs.Endings.{IsEnded, SeenCarried}
use Rattle.jobs.specs.declared.ending.Ending.{Ending}
use Rattle.jobs.specs.declared.ending.Ending.TheVariants as ending
use Rattle.manager_moves.specs.Runs.{Back, Called, Events, Sent, Shared, Stopped, share}
use Rattle.job_terms.specs.Dispatches.{Attempt, Dispatched}
use Rattle.job_terms.specs.Ops.{is_op}
use Rattle.run_promise.specs.Outcomes.{FailsFirstBy, FailsFor, IsCallOf, IsDecidingJob, IsFilePlace, IsLastCause, IsLastTried, IsOpenFor, StaysFor}
use Rattle.run_promise.specs.Schedule.{Setting}
use Rattle.job_terms.specs.Jobs.{job_of}
use Rattle.s3_model.specs.Talks.{Talk}
use Rattle.s3_model.specs.declared.answers.Class.{Class}
use Rattle.s3_model.specs.declared.outcomes.Cause.{Cause}
use Rattle.s3_model.specs.declared.outcomes.Cause.TheVariants as cause
use Rattle.s3_model.specs.declared.outcomes.FileCall.TheVariants as call
use Rattle.s3_model.specs.declared.outcomes.JobId.{JobId}
use Rattle.s3_model.specs.declared.outcomes.Outcome.{Outcome}
use Rattle.s3_model.specs.declared.outcomes.Reason.{Reason}
use Rattle.s3_model.specs.declared.requests.Ask.{Ask}
use Rattle.s3_model.specs.declared.requests.Op.{Op}
use Rattle.s3_model.specs.declared.requests.Op.TheVariants as op
use Rattle.s3_model.specs.declared.tasks.Kind.{Kind}
use Rattle.s3_model.specs.declared.tasks.Kind.TheVariants as kind
use Rattle.s3_model.specs.declared.tasks.Task.{Task}
use Rattle.s3_model.specs.declared.tries.Mark.{Mark}
use Rattle.s3_outside.specs.declared.files.FileFault.TheVariants as fault
use Rattle.shared_lemmas.proofs.Clashes.{false_true, none_is_some, some_is}
use Rattle.shared_lemmas.proofs.Members.{Has, contains_of, has-append_cases, has-append_right, has_middle}
use Rattle.task_acts.specs.declared.acts.Act.{Act}
use Rattle.task_acts.specs.declared.acts.Act.TheVariants as act
use Rattle.task_acts.specs.declared.acts.FileCame.{FileCame}
use Rattle.task_acts.specs.declared.acts.FileCame.TheVariants as file
use Rattle.task_acts.specs.declared.work.Work.{Work}
use Rattle.task_acts.specs.Ends.{cancel_cause, has_tries, is_by_request, last_cause, open_cause, removal, stop_cause}
use Rattle.task_acts.specs.Failures.{call_of, carried_cause, failure_by, file_cause, first_failure, first_reason, is_cut_short, is_memory, reads_source, result_cause, wanted_memory}
use Rattle.task_acts.specs.Histories.{Came, Cancelled, Gave, Happening, History, Returned, Taken, sent}
use Rattle.task_acts.specs.Kept.{IsHistory, MayCome, is_file_act}
use Rattle.task_acts.specs.Rule.{is_decided_in}
use Rattle.task_acts.specs.Work.{IsWorkOf, deciding_op}
use Rattle.task_progress.specs.Progress.{HasPiece}
use Rattle.task_progress.proofs.Endings.{no}
use Rattle.task_schedule.specs.Journals.{IsBack, IsRunOf, ShowOne, place_after}
use Rattle.task_schedule.proofs.Deciders.{call_failed, follows_done, job_failed, returned_begun}
use Rattle.task_schedule.proofs.Deciding.{by_request, op_is}
use Rattle.task_schedule.proofs.Failing.{counted_call}
use Rattle.task_schedule.proofs.Joined as joined
use Rattle.task_schedule.proofs.Joined.{IsReturn, all_holds, return_of}
use Rattle.task_schedule.proofs.Places.{between_of, entry_fills, filled, fills}
use Rattle.task_schedule.proofs.Returned.{has_come_back}
use Rattle.task_schedule.proofs.SentJobs.{IsAt, at_of, twice}
use Rattle.task_schedule.proofs.Shares.{BackAt, back_at, share_called, share_stopped, since_came}
use Rattle.task_schedule.proofs.Shown.{decides_is}
use Rattle.task_schedule.proofs.Standing.{earlier}
use Rattle.task_schedule.proofs.Stopping.{reason_there}
use Rattle.task_outcomes.specs.Causes.{HaveOneStatus, IsTold, MovesSource}
use Rattle.task_outcomes.proofs.Acts.{IsCallFor, call_for, decided_by_request, failed_removal}
use Rattle.task_outcomes.proofs.FirstFailures.{fails_first_by, none_failed, return}
use Rattle.task_outcomes.proofs.JobCauses.{IsOfJob, cause_shown, changed_reads, not_cancelled}
use Rattle.task_outcomes.proofs.Settling.{Ended, FailsFirst, TriedLast, failure_then, fails_first, none_forgotten, tried_last}

-- ---- what a failure is by

-- a job that came back so, or a call on files
abbrev pub IsBy : Work → Happening → Cause → Type 0
IsBy w (Came c) why = (is_cut_short w c ≡ false) × (carried_cause w c ≡ Some why)
IsBy w (Returned a r) why = file_cause a r ≡ Some why
IsBy w e why = ⊥

pub is_by : (w : Work) (e : Happening) (why : Cause) → failure_by w e ≡ Some why → IsBy w e why
is_by w (Came c) why e = by (is_cut_short w c) refl e
  where
    by : (b : Bool) → is_cut_short w c ≡ b → (if b then None else carried_cause w c) ≡ Some why → (is_cut_short w c ≡ false) × (carried_cause w c ≡ Some why)
    by true cut f = absurd (none_is_some why f)
    by false uncut f = (uncut, f)
is_by w (Returned a r) why e = e
is_by w (Gave a) why e = absurd (none_is_some why e)
is_by w (Cancelled reason) why e = absurd (none_is_some why e)
is_by w (Taken o k) why e = absurd (none_is_some why e)

-- want of memory, the first failure, or the cancel
abbrev StopsFor : Work → History → Cause → Type 0
StopsFor w h why = (why ≡ cause.Memory) ⊎ ((wanted_memory w h ≡ false) × (first_failure w h ≡ Some why))
    ⊎ ((first_failure w h ≡ None) × (reason : Reason) × (first_reason h ≡ Some reason) × (why ≡ cause.Cancelled reason))

stops_for : (w : Work) (h : History) (why : Cause) → stop_cause w h ≡ Some why → StopsFor w h why
stops_for w h why e = by (wanted_memory w h) refl (first_failure w h) refl (first_reason h) refl e
  where
    by : (m : Bool) → wanted_memory w h ≡ m → (x : Option Cause) → first_failure w h ≡ x → (y : Option Reason) → first_reason h ≡ y
        → (if m then Some cause.Memory else option_or x (cancel_cause y)) ≡ Some why → StopsFor w h why
    by true m x f y g e = inl (sym (some_is cause.Memory why e))
    by false m (Some x) f y g e = inr (inl (m, f ∙ e))
    by false m None f (Some reason) g e = inr (inr (f, reason, g, sym (some_is (cause.Cancelled reason) why e)))
    by false m None f None g e = absurd (none_is_some why e)

memory_or_not : (why : Cause) → (why ≡ cause.Memory) ⊎ (is_memory (Some why) ≡ false)
memory_or_not cause.Memory = inl refl
memory_or_not (cause.Service o code message) = inr refl
memory_or_not (cause.Lost o reason) = inr refl
memory_or_not cause.Changed = inr refl
memory_or_not (cause.BadReply o) = inr refl
memory_or_not (cause.Files of_call) = inr refl
memory_or_not (cause.Blocked length) = inr refl
memory_or_not (cause.Cancelled reason) = inr refl

abbrev job_in : ℕ → Act → JobId
job_in n (act.Send o k) = job_of n o k
job_in n a = job_of n op.Head 0

send_is_no_call : (o : Op) (k : ℕ) (a : Act) → a ≡ act.Send o k → is_file_act a ≡ true → ⊥
send_is_no_call o k a e call = false_true (ap is_file_act (sym e) ∙ call)

send_remove : (o : Op) (k : ℕ) → act.Send o k ≡ act.Remove → ⊥
send_remove o k e = cc

op_of_send : (o p : Op) (k m : ℕ) → act.Send o k ≡ act.Send p m → o ≡ p
op_of_send o p k m e = cc

map_none : {X Y : Type 0} (f : X → Y) (xs : List X) → map f xs ≡ [] → xs ≡ []
map_none f [] e = refl
map_none f (x ∷ xs) e = absurd (clash (f x) (map f xs) e)
  where
    clash : {Z : Type 0} (z : Z) (zs : List Z) → z ∷ zs ≡ [] → ⊥
    clash z zs e = cc

no_tries : (xs : List Mark) → nat_lt 0 (length xs) ≡ false → xs ≡ []
no_tries [] e = refl
no_tries (x ∷ xs) e = absurd (false_true (sym e ∙ positive (length xs)))
  where
    positive : (n : ℕ) → nat_lt 0 (suc n) ≡ true
    positive n = grind arith

module _ (Shows : Ask → ℕ → Talk → Class → List ℕ → Type 0) (HasStatus : Ask → ℕ → Talk → ℕ → Type 0) (CallFailed : ℕ → Cause → Type 0)
    (s : Shared) (setting : Setting) (planned : ℕ) (events : Events) (dispatched coming : List Dispatched) (one : ShowOne Shows) (status_one : HaveOneStatus Shows HasStatus CallFailed)
    (r : IsRunOf Shows s setting planned events dispatched coming) (told : IsTold Shows HasStatus CallFailed s setting planned events dispatched)
    (n : ℕ) (w : Work) (task : Task) (of_plan : slice_get s.works n ≡ Some w) (is_task : slice_get setting.tasks n ≡ Some task) where
  pub work : IsWorkOf task setting.config setting.limits w
  work = let its = r.works.each n w of_plan in subst (λ (t : Task). IsWorkOf t setting.config setting.limits w) (some_is its.0 task (sym its.1 ∙ is_task)) its.2

  pub piece : HasPiece w
  piece = (r.works.each n w of_plan).3

  pub holds : IsHistory w (share w n events)
  holds = all_holds Shows s setting planned events dispatched coming r n w of_plan

  abbrev pub FailsBy : Cause → Type 0
  FailsBy why = FailsFirstBy Shows HasStatus CallFailed setting dispatched coming n why

  abbrev pub Fails : Cause → Type 0
  Fails why = FailsFor Shows HasStatus CallFailed setting dispatched coming n task why

  abbrev pub Stays : Cause → Type 0
  Stays why = StaysFor Shows HasStatus CallFailed setting dispatched coming n task why

  -- ---- the first failure

  -- a job
  job_fails : (later before : History) (c : SeenCarried) → share w n events ≡ later ++ Came c ∷ before → first_failure w before ≡ None → is_cut_short w c ≡ false
      → (why : Cause) → carried_cause w c ≡ Some why → is_memory (Some why) ≡ false → FailsBy why × IsOfJob why
  job_fails later before c is none uncut why cause_is remembered =
      let some = ap (λ (x : Option Cause). is_some x) cause_is in
      let no_memory = ap is_memory cause_is ∙ remembered in
      let back = return Shows HasStatus CallFailed s setting planned events dispatched coming r one n w of_plan later before c is none uncut some no_memory in
      let its_cause = ap (carried_cause w) back.same ∙ cause_is in
      let its_uncut = ap (is_cut_short w) back.same ∙ uncut in
      let shown = cause_shown Shows HasStatus CallFailed s setting planned events dispatched coming r one status_one told.statuses n w of_plan c.job.id.op c.job.id.number back.x back.known back.a back.back why its_cause remembered
      (not_cancelled Shows HasStatus CallFailed s setting planned events dispatched coming r one status_one told.statuses n w of_plan c.job.id.op c.job.id.number back.x back.known back.a back.back its_uncut) in
      (fails_first_by Shows HasStatus CallFailed s setting planned events dispatched coming r one n w of_plan later before c is none uncut some no_memory why shown.0, shown.1)

  -- a call on files
  call_is_told : (a : Act) (result : FileCame) (why : Cause) → Has (share w n events) (Returned a result) → file_cause a result ≡ Some why → CallFailed n why
  call_is_told a result why known is = told.calls n a result why (contains_of events (Called n a result) (share_called w n events a result known)) is

  call_holds : (later before : History) (a : Act) (result : FileCame) → share w n events ≡ later ++ Returned a result ∷ before → (is_file_act a ≡ true) × MayCome a result
  call_holds later before a result is = let then_ = earlier w later (Returned a result ∷ before) (subst (IsHistory w) is holds) in (then_.0.0, then_.0.2)

  -- a cancel, and no failure
  cancelled : (reason : Reason) → Has (share w n events) (Cancelled reason) → first_failure w (share w n events) ≡ None → Fails (cause.Cancelled reason)
  cancelled reason known none =
      (r.cancelled reason (contains_of events (Stopped reason) (share_stopped w n events reason known)), none_failed Shows HasStatus CallFailed s setting planned events dispatched coming r one n w of_plan none)

  by_job : (why : Cause) → IsOfJob why → FailsBy why → Fails why
  by_job (cause.Service o code message) of f = (f, λ skipped. no (sym work.replaces ∙ skipped.0))
  by_job (cause.Lost o reason) of f = f
  by_job cause.Changed of f = inr f
  by_job (cause.BadReply o) of f = f
  by_job why of f = absurd of

  -- ---- calls on files

  shown_by_call : (a : Act) (result : FileCame) (why : Cause) → result_cause a result ≡ Some why → (result ≡ file.Short → task.kind ≡ kind.Upload)
      → ((length : ℕ) → result ≡ file.Fault (fault.Blocked length) → task.kind ≡ kind.Download) → IsCallOf task.kind (call_of a) → CallFailed n why
      → (why ≡ cause.Memory → setting.wanted_memory (Some n) ≡ true) → Fails why
  shown_by_call a file.Fine why is short blocked kind_is failed forgot = absurd (none_is_some why is)
  shown_by_call a file.Short why is short blocked kind_is failed forgot =
      let same = some_is cause.Changed why is in subst Fails same (inl (short refl, subst (CallFailed n) (sym same) failed))
  shown_by_call a (file.Fault fault.Failed) why is short blocked kind_is failed forgot =
      let same = some_is (cause.Files (call_of a)) why is in subst Fails same (kind_is, subst (CallFailed n) (sym same) failed)
  shown_by_call a (file.Fault (fault.Blocked length)) why is short blocked kind_is failed forgot =
      let same = some_is (cause.Blocked length) why is in subst Fails same (blocked length refl, subst (CallFailed n) (sym same) failed)
  shown_by_call a (file.Fault fault.Memory) why is short blocked kind_is failed forgot =
      let same = some_is cause.Memory why is in subst Fails same (forgot (sym same))

  module _ (result : FileCame) (why : Cause) (failed : CallFailed n why) (forgot : why ≡ cause.Memory → setting.wanted_memory (Some n) ≡ true) where
    call_of_kind : (k : Kind) → task.kind ≡ k → (a : Act) → IsCallFor k a → (k ≡ kind.Upload → a ≡ act.Remove → ⊥) → MayCome a result → file_cause a result ≡ Some why → Fails why
    call_of_kind kind.Upload so (act.Read m) c apart may is =
        shown_by_call (act.Read m) result why is (λ e. so) (λ length e. absurd (subst (MayCome (act.Read m)) e may)) (subst (λ (k : Kind). IsCallOf k call.Read) (sym so) tt) failed forgot
    call_of_kind kind.Upload so act.Remove c apart may is = absurd (apart refl refl)
    call_of_kind kind.Download so act.Assemble c apart may is =
        shown_by_call act.Assemble result why is (λ e. absurd (subst (MayCome act.Assemble) e may)) (λ length e. so) (subst (λ (k : Kind). IsCallOf k call.Create) (sym so) tt) failed forgot
    call_of_kind kind.Download so (act.Place m) c apart may is =
        shown_by_call (act.Place m) result why is (λ e. absurd (subst (MayCome (act.Place m)) e may)) (λ length e. absurd (subst (MayCome (act.Place m)) e may))
        (subst (λ (k : Kind). IsCallOf k call.Write) (sym so) tt) failed forgot
    call_of_kind kind.Download so act.Rename c apart may is =
        shown_by_call act.Rename result why is (λ e. absurd (subst (MayCome act.Rename) e may)) (λ length e. so) (subst (λ (k : Kind). IsCallOf k call.Rename) (sym so) tt) failed forgot
    call_of_kind kind.RemoveFile so act.Remove c apart may is =
        shown_by_call act.Remove result why is (λ e. absurd (subst (MayCome act.Remove) e may)) (λ length e. absurd (subst (MayCome act.Remove) e may))
        (subst (λ (k : Kind). IsCallOf k call.Remove) (sym so) tt) failed forgot
    call_of_kind k so a c apart may is = absurd c

    -- a call that removes the source of a move
    removal_stays : IsFilePlace task.source → MayCome act.Remove result → file_cause act.Remove result ≡ Some why → Stays why
    removal_stays place may is = by result may is
      where
        by : (x : FileCame) → MayCome act.Remove x → result_cause act.Remove x ≡ Some why → Stays why
        by file.Fine m e = absurd (none_is_some why e)
        by file.Short m e = absurd m
        by (file.Fault fault.Failed) m e = let same = some_is (cause.Files call.Remove) why e in subst Stays same (place, subst (CallFailed n) (sym same) failed)
        by (file.Fault (fault.Blocked length)) m e = absurd m
        by (file.Fault fault.Memory) m e = let same = some_is cause.Memory why e in subst Stays same (forgot (sym same))

  -- ---- by the end of its history

  module _ (how : Outcome) (ends : Ended w (share w n events) how) (why : Cause) (forgot : why ≡ cause.Memory → setting.wanted_memory (Some n) ≡ true) where
    abbrev g : History
    g = ends.then_

    holds_then : IsHistory w ends.then_
    holds_then = earlier w ends.later ends.then_ (subst (IsHistory w) ends.is holds)

    whole_of : (later before : History) (e : Happening) → ends.then_ ≡ later ++ e ∷ before → share w n events ≡ (ends.later ++ later) ++ e ∷ before
    whole_of later before e is = ends.is ∙ ap (λ (h : History). ends.later ++ h) is ∙ sym (append_assoc ends.later later (e ∷ before))

    in_whole : (e : Happening) → Has ends.then_ e → Has (share w n events) e
    in_whole e known = subst (λ (h : History). Has h e) (sym ends.is) (has-append_right ends.later ends.then_ e known)

    remembers : wanted_memory w ends.then_ ≡ false → (f : FailsFirst w ends.then_ why) → is_memory (Some why) ≡ false
    remembers none f = sym (ap is_memory f.failure) ∙ none_forgotten w ends.then_ none f.event (subst (λ (h : History). Has h f.event) (sym f.is) (has_middle f.later f.event f.before))

    first_job : (f : FailsFirst w ends.then_ why) (c : SeenCarried) → f.event ≡ Came c → is_cut_short w c ≡ false → carried_cause w c ≡ Some why → is_memory (Some why) ≡ false → FailsBy why × IsOfJob why
    first_job f c same uncut cause_is remembered =
        job_fails (ends.later ++ f.later) f.before c (whole_of f.later f.before (Came c) (f.is ∙ ap (λ (e : Happening). f.later ++ e ∷ f.before) same)) f.none uncut why cause_is remembered

    event_there : (f : FailsFirst w ends.then_ why) (e : Happening) → f.event ≡ e → Has ends.then_ e
    event_there f e same = subst (λ (h : History). Has h e) (sym (f.is ∙ ap (λ (x : Happening). f.later ++ x ∷ f.before) same)) (has_middle f.later e f.before)

    cancel : (reason : Reason) → first_failure w ends.then_ ≡ None → first_reason ends.then_ ≡ Some reason → Fails (cause.Cancelled reason)
    cancel reason none is = cancelled reason (in_whole (Cancelled reason) (reason_there ends.then_ reason is)) (failure_then w (share w n events) how ends ∙ none)

    kind_is : w.of_kind ≡ task.kind
    kind_is = work.kind_is

    -- ---- a task that failed

    pub fails : is_decided_in w ends.then_ ≡ false → stop_cause w ends.then_ ≡ Some why → Fails why
    fails undecided is = elim (stops_for w ends.then_ why is) [
      | inl memory ↦ subst Fails (sym memory) (forgot memory)
      | inr rest ↦ elim rest [
        | inl failure ↦ let f = fails_first w ends.then_ why failure.1 in by f f.event refl (is_by w f.event why f.failure) (remembers failure.0 f)
        | inr stopped ↦ subst Fails (sym stopped.3) (cancel stopped.1 stopped.0 stopped.2)
      ]
    ]
      where
        -- the file of a move is removed only after the decision
        no_removal : (result : FileCame) → Has ends.then_ (Returned act.Remove result) → w.of_kind ≡ kind.Upload → ⊥
        no_removal result known so =
            let done = follows_done w ends.then_ holds_then kind.Upload so act.Remove tt tt tt (returned_begun w ends.then_ holds_then act.Remove result known) in
            false_true (sym undecided ∙ decided_by_request w ends.then_ so done)

        call_fails : (f : FailsFirst w ends.then_ why) (a : Act) (result : FileCame) → f.event ≡ Returned a result → file_cause a result ≡ Some why → Fails why
        call_fails f a result same is =
            let known = event_there f (Returned a result) same in
            let at = call_holds (ends.later ++ f.later) f.before a result (whole_of f.later f.before (Returned a result) (f.is ∙ ap (λ (e : Happening). f.later ++ e ∷ f.before) same)) in
            let kind = call_for w ends.then_ holds_then a (returned_begun w ends.then_ holds_then a result known) (counted_call a result (ap (λ (x : Option Cause). is_some x) is)) at.0 in
            call_of_kind result why (call_is_told a result why (in_whole (Returned a result) known) is) forgot task.kind refl a (subst (λ (k : Kind). IsCallFor k a) kind_is kind)
            (λ so remove. no_removal result (subst (λ (b : Act). Has ends.then_ (Returned b result)) remove known) (kind_is ∙ so)) at.1 is

        by : (f : FailsFirst w ends.then_ why) (e : Happening) → f.event ≡ e → IsBy w e why → is_memory (Some why) ≡ false → Fails why
        by f (Came c) same is remembered = let job = first_job f c same is.0 is.1 remembered in by_job why job.1 job.0
        by f (Returned a result) same is remembered = call_fails f a result same is
        by f e same is remembered = absurd is

    -- ---- a source that stayed

    pub stays : is_decided_in w ends.then_ ≡ true → task.moves ≡ true → stop_cause w ends.then_ ≡ Some why → Stays why
    stays decided moves is = elim (stops_for w ends.then_ why is) [
      | inl memory ↦ subst Stays (sym memory) (forgot memory)
      | inr rest ↦ elim rest [
        | inl failure ↦ let f = fails_first w ends.then_ why failure.1 in by f f.event refl (is_by w f.event why f.failure) (remembers failure.0 f)
        | inr stopped ↦ subst Stays (sym stopped.3) (cancel stopped.1 stopped.0 stopped.2)
      ]
    ]
      where
        by_its_job : (why : Cause) → IsOfJob why → FailsBy why → (why ≡ cause.Changed → ⊥) → Stays why
        by_its_job (cause.Service o code message) of f apart = by_job (cause.Service o code message) of f
        by_its_job (cause.Lost o reason) of f apart = f
        by_its_job (cause.BadReply o) of f apart = f
        by_its_job cause.Changed of f apart = absurd (apart refl)
        by_its_job y of f apart = absurd of

        removal_op : (k : Kind) (o : Op) (m : ℕ) → act.Send o m ≡ removal k → o ≡ op.Delete
        removal_op kind.Upload o m e = absurd (send_remove o m e)
        removal_op kind.RemoveFile o m e = absurd (send_remove o m e)
        removal_op kind.Download o m e = op_of_send o op.Delete m 0 e
        removal_op kind.Copy o m e = op_of_send o op.Delete m 0 e
        removal_op kind.RemoveObject o m e = op_of_send o op.Delete m 0 e

        removal_call : (k : Kind) (a : Act) → a ≡ removal k → is_file_act a ≡ true → MovesSource task k → (a ≡ act.Remove) × IsFilePlace task.source
        removal_call kind.Upload a e call source = (e, source)
        removal_call kind.RemoveFile a e call source = absurd source
        removal_call kind.Download a e call source = absurd (send_is_no_call op.Delete 0 a e call)
        removal_call kind.Copy a e call source = absurd (send_is_no_call op.Delete 0 a e call)
        removal_call kind.RemoveObject a e call source = absurd (send_is_no_call op.Delete 0 a e call)

        by : (f : FailsFirst w ends.then_ why) (e : Happening) → f.event ≡ e → IsBy w e why → is_memory (Some why) ≡ false → Stays why
        by f (Came c) same is remembered =
            let job = first_job f c same is.0 is.1 remembered in
            let failed = job_failed w ends.then_ holds_then c (event_there f (Came c) same) is.0 (ap (λ (x : Option Cause). is_some x) is.1) in
            let its_op = removal_op w.of_kind c.job.id.op c.job.id.number (failed_removal w ends.then_ holds_then decided piece (sent c) tt failed) in
            by_its_job why job.1 job.0 (λ e. false_true (ap reads_source (sym its_op) ∙ changed_reads w c c.ending (is.1 ∙ ap Some e)))
        by f (Returned a result) same is remembered =
            let known = event_there f (Returned a result) same in
            let at = call_holds (ends.later ++ f.later) f.before a result (whole_of f.later f.before (Returned a result) (f.is ∙ ap (λ (e : Happening). f.later ++ e ∷ f.before) same)) in
            let some = ap (λ (x : Option Cause). is_some x) is in
            let removes = failed_removal w ends.then_ holds_then decided piece a (counted_call a result some) (call_failed w ends.then_ holds_then a result known some) in
            let call = removal_call task.kind a (removes ∙ ap removal kind_is) at.0 (told.moves n task is_task moves) in
            removal_stays result why (call_is_told a result why (in_whole (Returned a result) known) is) forgot call.1 (subst (λ (b : Act). MayCome b result) call.0 at.1)
            (subst (λ (b : Act). file_cause b result ≡ Some why) call.0 is)
        by f e same is remembered = absurd is

    -- ---- a task of which nobody can know

    abbrev Open : Cause → Type 0
    Open y = IsOpenFor Shows HasStatus CallFailed setting dispatched coming n task y

    module _ (t : TriedLast w ends.then_ why) (remembered : is_memory (Some why) ≡ false) where
      stands : BackAt w n events (ends.later ++ t.later) t.before t.carried
      stands = back_at w n events (ends.later ++ t.later) t.before t.carried (whole_of t.later t.before (Came t.carried) t.is)

      abbrev o : Op
      o = t.carried.job.id.op

      abbrev m : ℕ
      m = t.carried.job.id.number

      back_of_it : IsReturn Shows s setting planned events dispatched coming r n w of_plan stands.lane t.carried stands.rest
      back_of_it = return_of Shows s setting planned events dispatched coming r n w of_plan stands.newer stands.rest stands.lane t.carried stands.is stands.task

      abbrev x : Dispatched
      x = back_of_it.x

      its_decides : (is_by_request w.of_kind ≡ true) × (sent t.carried ≡ act.Send (deciding_op w) 0)
      its_decides = decides_is w ends.then_ holds_then t.carried t.decided

      is_deciding : IsDecidingJob setting n task back_of_it.x.dispatch.job
      is_deciding = (
        by_request task.kind (sym (ap is_by_request kind_is) ∙ its_decides.0),
        back_of_it.a.job_is ∙ ap (job_in n) its_decides.1 ∙ ap (λ (p : Op). job_of n p 0) (op_is setting work),
      )

      not_by_cell : (reason : Reason) → back_of_it.back.carried.ending ≢ ending.Cancelled reason
      not_by_cell reason e =
          let ended = subst (λ (y : Ending). IsEnded y t.carried.job.id.op t.carried.job.part t.carried.job.cell t.carried.tries) (sym (ap (λ (c : SeenCarried). c.ending) back_of_it.same) ∙ e)
          (came_ended t.later t.before t.carried t.is) in
          false_true (ap (λ (tries : List Mark). nat_lt 0 (length tries)) (sym ended.0) ∙ t.tried)
        where
          came_ended : (later before : History) (c : SeenCarried) → ends.then_ ≡ later ++ Came c ∷ before → IsEnded c.ending c.job.id.op c.job.part c.job.cell c.tries
          came_ended later before c is = (earlier w later (Came c ∷ before) (subst (IsHistory w) is holds_then)).0.3

      -- what was given later made no attempt
      none_later : IsLastTried dispatched back_of_it.x
      none_later d known job less = map_none (λ (t : Attempt). t.mark) d.dispatch.attempts (back_d.brings.marks ∙ no_tries back_d.carried.tries tried)
        where
          b : IsAt Shows s setting planned events dispatched coming r n w of_plan o m d
          b = at_of Shows s setting planned events dispatched coming r n w of_plan o m d known (job ∙ back_of_it.a.job_is)

          back_d : IsBack Shows planned b.later (Sent n o m b.lane ∷ b.before) d
          back_d = has_come_back Shows s setting planned events dispatched coming r n w of_plan o m d b

          farther : filled stands.rest < filled (back_d.between ++ Sent n o m b.lane ∷ b.before)
          farther =
              let pair = twice Shows s setting planned events dispatched coming r n w of_plan o m back_of_it.x d back_of_it.a b less in
              let place = some_is pair.place (place_after planned stands.rest) (sym pair.came_at ∙ back_of_it.came_at) in
              let ahead = pair.ahead_of in
              let given = b.given_at in
              let more = fills back_d.between (Sent n o m b.lane ∷ b.before) in
              let entry = entry_fills (Sent n o m b.lane) b.before tt in
              omega arith

          there : Has stands.newer (Back back_d.lane back_d.carried)
          there =
              let between = between_of stands.newer stands.rest back_d.newer (back_d.between ++ Sent n o m b.lane ∷ b.before) (Back stands.lane t.carried) (Back back_d.lane back_d.carried)
              (sym stands.is ∙ joined.back_at Shows s setting planned events dispatched coming r n w of_plan o m d b back_d) farther in
              subst (λ (z : Events). Has z (Back back_d.lane back_d.carried)) (sym between.after) (has_middle back_d.newer (Back back_d.lane back_d.carried) between.mid)

          same_id : back_d.carried.job.id ≡ t.carried.job.id
          same_id = back_d.of_job ∙ job ∙ sym back_of_it.back.of_job ∙ ap (λ (c : SeenCarried). c.job.id) back_of_it.same

          in_later : Has t.later (Came back_d.carried)
          in_later = elim (has-append_cases ends.later t.later (Came back_d.carried) (subst (λ (h : History). Has h (Came back_d.carried)) stands.since_is
              (since_came w n stands.newer (Back stands.lane t.carried ∷ stands.rest) back_d.lane back_d.carried there (ap (λ (j : JobId). j.task) same_id ∙ stands.task)))) [
                | inl late ↦ absurd (ends.idle (Came back_d.carried) late)
                | inr here ↦ here
              ]

          tried : has_tries back_d.carried ≡ false
          tried = t.none back_d.carried in_later
              (subst (λ (j : JobId). (is_by_request w.of_kind && is_op j.op (deciding_op w) && (j.number == 0)) ≡ true) (sym same_id) t.decided)

      opens : Open why
      opens =
          let shown = cause_shown Shows HasStatus CallFailed s setting planned events dispatched coming r one status_one told.statuses n w of_plan o m back_of_it.x back_of_it.known back_of_it.a back_of_it.back why
          (ap (carried_cause w) back_of_it.same ∙ t.cause_is) remembered not_by_cell in
          open_by why shown.1 (back_of_it.x, back_of_it.known, is_deciding, none_later, shown.0)
        where
          open_by : (y : Cause) → IsOfJob y
              → (c : Dispatched) × Contains dispatched c × IsDecidingJob setting n task c.dispatch.job × IsLastTried dispatched c × IsLastCause Shows HasStatus c y → Open y
          open_by (cause.Service p code message) of is = is
          open_by (cause.Lost p reason) of is = is
          open_by cause.Changed of is = is
          open_by (cause.BadReply p) of is = is
          open_by y of is = absurd of

    pub is_open_for : open_cause w ends.then_ ≡ Some why → Open why
    is_open_for is = elim (memory_or_not why) [
      | inl memory ↦ subst Open (sym memory) (forgot memory)
      | inr remembered ↦ opens (tried_last w ends.then_ why (by (wanted_memory w ends.then_) is remembered)) remembered
    ]
      where
        by : (b : Bool) → (if b then Some cause.Memory else last_cause w ends.then_) ≡ Some why → is_memory (Some why) ≡ false → last_cause w ends.then_ ≡ Some why
        by true f remembered = absurd (false_true (sym remembered ∙ ap is_memory (sym f)))
        by false f remembered = f
