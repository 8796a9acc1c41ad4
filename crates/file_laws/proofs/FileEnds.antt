-- Tasks whose destination is a file ended as their outcomes say.
use Rattle.std.proofs.Common.{◌≡◌, ◌∙◌, ◌⊎◌, ◌++◌, ℕ, true, false, List, [], Option, Some, None, refl, sym, ap, subst, inl, inr, Contains, slice_get}
use Rattle.std.specs.Bool.{OnTrue}
use Rattle.std.specs.FinMap.{get}
use Rattle.std.proofs.lemmas.Bool.{OnTrue_from}
use Rattle.std.proofs.lemmas.List.{append-nil}
use Rattle.s3_model.specs.declared.answers.Class.{Class}
use Rattle.s3_model.specs.declared.outcomes.Cause.{Cause}
use Rattle.s3_model.specs.declared.outcomes.Event.{Event}
use Rattle.s3_model.specs.declared.outcomes.JobId.{JobId}
use Rattle.s3_model.specs.declared.outcomes.Outcome.{Outcome}
use Rattle.s3_model.specs.declared.outcomes.Outcome.TheVariants as outcome
use Rattle.s3_model.specs.declared.places.Place.{Place}
use Rattle.s3_model.specs.declared.places.Place.TheVariants as place
use Rattle.s3_model.specs.declared.requests.Ask.{Ask}
use Rattle.s3_model.specs.declared.requests.Op.TheVariants as op
use Rattle.s3_model.specs.declared.tasks.Kind.{Kind}
use Rattle.s3_model.specs.declared.tasks.Kind.TheVariants as kind
use Rattle.s3_model.specs.declared.tasks.Task.{Task}
use Rattle.s3_model.specs.Files.{HeldFile}
use Rattle.s3_model.specs.Maps.{MapOf}
use Rattle.s3_model.specs.Talks.{Talk}
use Rattle.s3_service.specs.ServiceState.{State}
use Rattle.job_terms.specs.Dispatches.{Dispatched}
use Rattle.run_promise.specs.Endings.{Excused, Holds, IsLeftover, IsAbsent, IsAsBefore, IsEnded, IsGone, IsGoneOrThere, IsNew, IsSpared, IsThereIn, IsUntimed, Scene}
use Rattle.run_promise.specs.Outcomes.{HasOutcome, IsDecidedByRequest, IsObjectPlace, IsSourceDeleted, StoodAt}
use Rattle.run_promise.specs.Schedule.{Setting, is_small}
use Rattle.run_promise.specs.Traces.{Step, state_after, states}
use Rattle.run_promise.specs.Truthful.{IsTouchedFile}
use Rattle.run_promise.specs.Runs.{HasJournal, Run}
use Rattle.run_promise.specs.FileOutcomes.{IsFileLeft}
use Rattle.world_laws.specs.Tasks.{HasSourceObject, IsScheduled, IsTraceOf, MayBeNew}
use Rattle.shared_lemmas.proofs.Clashes.{some_is}
use Rattle.shared_lemmas.proofs.Members.{has, split_of}
use Rattle.run_promise.specs.FileCalls.{IsRemoved, IsRenamed, TaskCall, files_after}
use Rattle.run_promise.specs.FileCalls.{AreCalls}
use Rattle.run_promise.specs.FileOutcomes.{HasFailedAct, IsDestChanged, IsShownByCalls}
use Rattle.run_promise.specs.Truthful.{run_shown}
use Rattle.file_laws.specs.FileEnds.{FileTaskEnds, MovedFilesAreLeft, PromisedFilesStay}
use Rattle.file_laws.proofs.Downloads as downloads
use Rattle.file_laws.proofs.Files as files
use Rattle.file_laws.proofs.Keeping as keeping
use Rattle.file_laws.proofs.Keeping.{removal_downloads, run_of, some_place, true_false, upload_downloads, upload_removes}
use Rattle.file_laws.proofs.Ranges.{are_sound, last_range}
use Rattle.file_laws.proofs.Requests as requests

none_task : (n : ℕ) → ◌≡◌ {A = Option ℕ} None (Some n) → ⊥
none_task n e = cc

module _ {page : Option ℕ} (Shows : Ask → ℕ → Talk → Class → List ℕ → Type 0) (HasStatus : Ask → ℕ → Talk → ℕ → Type 0) (CallFailed : ℕ → Cause → Type 0) (s : Setting) (excused : Excused) (dispatched coming : List Dispatched) (calls : List TaskCall)
    (start : State) (trace part : List Step) (journal : List Event) (a : AreCalls Shows (run_of s excused dispatched coming calls)) (r : IsScheduled Shows s journal dispatched coming)
    (traced : IsTraceOf Shows s (record { start = start; trace = trace; journal = journal; dispatched = dispatched; refused_page = page })) (whole : HasJournal journal trace part)
    (n : ℕ) (task : Task) (is_task : slice_get s.tasks n ≡ Some task) (path : List ℕ) (is_dest : task.dest ≡ place.File path) where
  abbrev run : Run
  run = record { start = start; trace = trace; journal = journal; dispatched = dispatched; refused_page = page }

  abbrev before : Scene
  before = record { state = start; held = s.held; others = s.others }

  abbrev after : Scene
  after = record { state = state_after start part; held = files_after s.held calls; others = s.others }

  all : calls ≡ calls ++ []
  all = sym (append-nil calls)

  as_before : get (files_after s.held calls) path ≡ get s.held path → IsAsBefore before after task.dest
  as_before same = subst (λ (d : Place). IsAsBefore before after d) (sym is_dest) same

  -- a dry run leaves all files
  dry_stays : s.dryrun ≡ true → get (files_after s.held calls) path ≡ get s.held path
  dry_stays dry = ap (λ (cs : List TaskCall). get (files_after s.held cs) path) (a.keep.dry dry)

  -- a source that is an object is spared where no Delete of the task was given
  spared : (bucket key : List ℕ) → task.source ≡ Some (place.Object bucket key) → ((c : Dispatched) → Contains dispatched c → c.dispatch.job.task ≡ Some n → c.dispatch.job.op ≡ op.Delete → ⊥)
      → IsSpared n journal before after task.source
  spared bucket key source none = subst (λ (o : Option Place). IsSpared n journal before after o) (sym source) never
    where
      never : IsSpared n journal before after (Some (place.Object bucket key))
      never number lane h =
          let given = requests.given_is_dispatched Shows s journal dispatched coming r (record { task = Some n; op = op.Delete; number = number }) lane h in
          none given.0 given.1 (ap (λ (j : JobId). j.task) given.2) (ap (λ (j : JobId). j.op) given.2)

  -- ---- downloads

  module _ (load : task.kind ≡ kind.Download) (from : (bucket : List ℕ) × (key : List ℕ) × (task.source ≡ Some (place.Object bucket key))) where
    new : HasSourceObject (states start trace) task → IsRenamed calls n → IsNew excused s.held (states start trace) after task task.kind
    new source renamed =
        let content = downloads.new_from Shows s excused dispatched coming calls a n task path is_task load is_dest start trace journal r traced source calls [] all renamed in
        let timed = downloads.timed_in_the_end Shows s excused dispatched coming calls a n task path is_task load is_dest renamed in
        let same : timed.0 ≡ content.0 = some_is timed.0 content.0 (sym timed.1 ∙ content.1) in
        let time : (content.0.micros ≡ task.micros) ⊎ IsUntimed excused path =
        subst (λ (f : HeldFile). (f.micros ≡ task.micros) ⊎ IsUntimed excused path) same (elim timed.2 [ inl set ↦ inl set | inr failed ↦ inr failed.1 ]) in
        let holds : Holds excused after (place.File path) task.micros content.0.bytes = (content.0, content.1, refl, time) in
        subst (λ (k : Kind). IsNew excused s.held (states start trace) after task k) (sym load)
        (content.0.bytes, content.2, subst (λ (d : Place). Holds excused after d task.micros content.0.bytes) (sym is_dest) holds)

    old : ¬ (IsRenamed calls n) → IsAsBefore before after task.dest
    old none = as_before (downloads.old_until Shows s excused dispatched coming calls a n task path is_task load is_dest calls [] all none)

    spared_by : ((c : Dispatched) → Contains dispatched c → c.dispatch.job.task ≡ Some n → c.dispatch.job.op ≡ op.Delete → ⊥) → OnTrue task.moves (IsSpared n journal before after task.source)
    spared_by none = OnTrue_from task.moves _ (λ moves. spared from.0 from.1 from.2 none)

    unrenamed_spares : ¬ (IsRenamed calls n) → (c : Dispatched) → Contains dispatched c → c.dispatch.job.task ≡ Some n → c.dispatch.job.op ≡ op.Delete → ⊥
    unrenamed_spares none c known of is = let re = a.keep.deletes_last c n task known of is is_task load in none (re.0, re.1, re.2, re.3, re.4, re.5)

    -- what is renamed was got
    renamed_gets : IsRenamed calls n → (c : Dispatched) × Contains dispatched c × (c.dispatch.job.task ≡ Some n)
    renamed_gets re =
        let split = split_of calls re.0 (has calls re.0 re.1) in
        let at_own : slice_get s.tasks re.0.task ≡ Some task = ap (slice_get s.tasks) re.2 ∙ is_task in
        let written = a.keep.renames split.front re.0 task re.3 re.4 None (split.back, split.is) at_own re.5 in
        let sound = are_sound s task written.piece written.count r.threshold r.limits load written.pieces in
        let last = last_range (is_small s task) task.size written.piece written.count sound in
        let w = written.each last.0 last.1 last.2 last.3 in
        let of : w.0.task ≡ n = w.2 ∙ re.2 in
        let known = keeping.within_front Shows s excused dispatched coming calls a split.front re.0 split.back w.0 split.is (has split.front w.0 w.1) in
        let body = a.keep.writes w.0 task re.3 last.1 w.3 true known (ap (slice_get s.tasks) of ∙ is_task) w.4 in
        (body.get, body.known, ap (λ (j : JobId). j.task) body.is_get ∙ ap Some of)

    gone : (task.moves ≡ true → IsObjectPlace task.source → IsSourceDeleted Shows HasStatus CallFailed s dispatched coming n task) → OnTrue task.moves (IsGone trace after task.source)
    gone deleted = OnTrue_from task.moves _ (λ moves.
        let is = deleted moves (subst (λ (o : Option Place). IsObjectPlace o) (sym from.2) tt) in
        let c = is.1 in
        requests.deleted_is_gone Shows s journal dispatched coming r (files_after s.held calls) start trace part traced whole n task from.0 from.1 is_task load moves from.2 c.0 c.1 c.2 is.0 c.3)

    gone_or_there : OnTrue task.moves (IsGoneOrThere before after task.source)
    gone_or_there = OnTrue_from task.moves _ (λ moves. subst (λ (o : Option Place). IsGoneOrThere before after o) (sym from.2) tt)

    no_upload : task.kind ≡ kind.Upload → ⊥
    no_upload is = upload_downloads (sym is ∙ load)

    undecided : IsDecidedByRequest task.kind → ⊥
    undecided is = subst (λ (k : Kind). IsDecidedByRequest k) load is

    stood : StoodAt s.held s.others task.dest → IsThereIn before task.dest
    stood h = subst (λ (d : Place). IsThereIn before d) (sym is_dest) (subst (λ (d : Place). StoodAt s.held s.others d) is_dest h)

    download_ends : (how : Outcome) → (MayBeNew how → HasSourceObject (states start trace) task) → HasOutcome Shows HasStatus CallFailed s dispatched coming n task how → IsShownByCalls how (IsRenamed calls n) (HasFailedAct calls n)
        → IsEnded excused run before after n task how
    download_ends outcome.Done source is shown = (new (source tt) shown.0, gone is.2)
    download_ends (outcome.Copied why) source is shown = (new (source tt) shown.0, gone_or_there)
    download_ends (outcome.Failed why) source is shown = (old shown.0, spared_by (unrenamed_spares shown.0))
    download_ends (outcome.Unknown why) source is shown = absurd (undecided is.0.0.2.0)
    download_ends outcome.Dry source is shown = (
      as_before (dry_stays is),
      spared_by (λ c known of of_op. none_task n (sym (r.schedule.dry c is known) ∙ of)),
    )
    download_ends outcome.Skipped source is shown = elim is.1 [
      | inl by_request ↦ absurd (no_upload by_request.1)
      | inr by_file ↦ (
        old (λ renamed. let got = renamed_gets renamed in by_file.3 got.0 got.1 got.2),
        stood by_file.2,
        spared_by (λ c known of of_op. by_file.3 c known of),
      )
    ]

  -- ---- removals

  module _ (removal : task.kind ≡ kind.RemoveFile) (keeps : task.moves ≡ false) where
    moves_nothing : (P : Type 0) → OnTrue task.moves P
    moves_nothing P = OnTrue_from task.moves P (λ moves. absurd (true_false (sym moves ∙ keeps)))

    removal_ends : (how : Outcome) → HasOutcome Shows HasStatus CallFailed s dispatched coming n task how → IsShownByCalls how (IsRemoved calls n) (HasFailedAct calls n) → IsEnded excused run before after n task how
    removal_ends outcome.Done is shown =
        let absent : IsAbsent excused after (place.File path) =
        elim ((files.file_is_removed Shows (run_of s excused dispatched coming calls) a n task path (is_task, is_dest) removal).0 shown.0) [ inl e ↦ inl e | inr stayed ↦ inr stayed.1 ] in (
          subst (λ (k : Kind). IsNew excused s.held (states start trace) after task k) (sym removal) (subst (λ (d : Place). IsAbsent excused after d) (sym is_dest) absent),
          moves_nothing _,
        )
    removal_ends (outcome.Copied why) is shown = absurd (true_false (sym is.0 ∙ keeps))
    removal_ends (outcome.Failed why) is shown = (
      as_before ((files.file_is_removed Shows (run_of s excused dispatched coming calls) a n task path (is_task, is_dest) removal).1 calls [] all shown.0),
      moves_nothing _,
    )
    removal_ends (outcome.Unknown why) is shown = absurd (subst (λ (k : Kind). IsDecidedByRequest k) removal is.0.0.2.0)
    removal_ends outcome.Dry is shown = (as_before (dry_stays is), moves_nothing _)
    removal_ends outcome.Skipped is shown = elim is.1 [
      | inl by_request ↦ absurd (upload_removes (sym by_request.1 ∙ removal))
      | inr by_file ↦ absurd (removal_downloads (sym removal ∙ by_file.1))
    ]

module _ (Shows : Ask → ℕ → Talk → Class → List ℕ → Type 0) (HasStatus : Ask → ℕ → Talk → ℕ → Type 0) (CallFailed : ℕ → Cause → Type 0) where
  pub file_task_ends : FileTaskEnds Shows HasStatus CallFailed
  file_task_ends run over part same a r traced whole n task how is_task by source is shown = elim by.decided [
    | inl load ↦ download_ends Shows HasStatus CallFailed run.setting run.excused run.dispatched run.coming run.calls over.start over.trace part over.journal a r
        (downloads.traced_as Shows run.setting over run.dispatched same traced) whole n task is_task by.path by.is_dest load (by.from load) how
        (λ new. source new load) is (subst (λ (k : Kind). IsShownByCalls how (IsDestChanged k run.calls n) (HasFailedAct run.calls n)) load shown)
    | inr removal ↦ removal_ends Shows HasStatus CallFailed run.setting run.excused run.dispatched run.coming run.calls over.start over.trace part over.journal a r
        (downloads.traced_as Shows run.setting over run.dispatched same traced) whole n task is_task by.path by.is_dest removal (by.keeps removal) how is
        (subst (λ (k : Kind). IsShownByCalls how (IsDestChanged k run.calls n) (HasFailedAct run.calls n)) removal shown)
  ]

-- ---- moved files

module _ (Shows : Ask → ℕ → Talk → Class → List ℕ → Type 0) where
  left_by : (how : Outcome) (removed absent same : Type 0) → (removed → absent) → (¬ removed → same) → IsFileLeft how removed (¬ removed) → IsFileLeft how absent same
  left_by outcome.Done removed absent same gone stays h = gone h
  left_by (outcome.Copied why) removed absent same gone stays h = stays h
  left_by (outcome.Failed why) removed absent same gone stays h = stays h
  left_by (outcome.Unknown why) removed absent same gone stays h = stays h
  left_by outcome.Dry removed absent same gone stays h = stays h
  left_by outcome.Skipped removed absent same gone stays h = stays h

  pub moved_files_are_left : MovedFilesAreLeft Shows
  moved_files_are_left shown dispatched coming calls a after each n task how path is_task is_outcome moves is_source =
      subst (λ (held : MapOf HeldFile). IsFileLeft how (get held path ≡ None) (get held path ≡ get shown.setting.held path)) (sym after)
      (left_by how (IsRemoved calls n) _ _ law.0 law.1 (each n task how path (is_task, moves, is_source) is_outcome).0)
    where
      law : (IsRemoved calls n → get (files_after shown.setting.held calls) path ≡ None) × (¬ (IsRemoved calls n) → get (files_after shown.setting.held calls) path ≡ get shown.setting.held path)
      law = let all = files.file_is_moved Shows (run_shown shown dispatched coming calls) a n task path (is_task, moves, is_source) in (all.0, λ none. all.1 calls [] (sym (append-nil calls)) none)

  pub promised_files_stay : PromisedFilesStay Shows
  promised_files_stay shown dispatched coming calls a after path =
      subst (λ (held : MapOf HeldFile). IsTouchedFile shown.setting.tasks path ⊎ IsLeftover shown.excused shown.setting.held path ⊎ (get held path ≡ get shown.setting.held path)) (sym after)
      (elim (files.files_stay Shows (run_shown shown dispatched coming calls) a path) [
        | inl touched ↦ inl touched
        | inr untouched ↦ inr (elim untouched.ended [ inl e ↦ inr e | inr stayed ↦ inl (stayed.0.1, stayed.1) ])
      ])
