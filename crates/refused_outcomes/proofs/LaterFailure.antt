-- A later failure is not the first one, and no task is copied whose source was deleted.
use Rattle.std.proofs.Common.{◌≡◌, ◌≢◌, ◌∙◌, ◌++◌, ◌<◌, ℕ, suc, false, List, [], ◌∷◌, Option, Some, None, refl, sym, ap, subst, inl, inr, map, AllPairs, Contains, arith}
use Rattle.std.proofs.lemmas.List.Sorted.{IsPermutation-sym, Contains-permutation}
use Rattle.s3_model.specs.declared.answers.Class.{Class}
use Rattle.s3_model.specs.declared.answers.Class.TheVariants as class
use Rattle.s3_model.specs.declared.answers.Listed.{Listed}
use Rattle.s3_model.specs.declared.answers.Reply.{Reply}
use Rattle.s3_model.specs.declared.answers.Why.{Why}
use Rattle.s3_model.specs.declared.answers.Why.TheVariants as why
use Rattle.s3_model.specs.declared.outcomes.Cause.{Cause}
use Rattle.s3_model.specs.declared.outcomes.Cause.TheVariants as cause
use Rattle.s3_model.specs.declared.outcomes.JobId.{JobId}
use Rattle.s3_model.specs.declared.outcomes.Outcome.{Outcome}
use Rattle.s3_model.specs.declared.outcomes.Outcome.TheVariants as outcome
use Rattle.s3_model.specs.declared.requests.Ask.{Ask}
use Rattle.s3_model.specs.declared.requests.Op.{Op}
use Rattle.s3_model.specs.declared.requests.Op.TheVariants as op
use Rattle.s3_model.specs.declared.tasks.Task.{Task}
use Rattle.s3_model.specs.declared.tries.Mark.{Mark}
use Rattle.s3_model.specs.declared.tries.Mark.TheVariants as mark
use Rattle.s3_model.specs.Talks.{Talk}
use Rattle.job_terms.specs.Dispatches.{Attempt, Dispatch, Dispatched, last_of}
use Rattle.job_terms.specs.Jobs.{job_of}
use Rattle.run_promise.specs.Dispatches.{FitsAsk, IsCompletedWell, IsCut}
use Rattle.run_promise.specs.Outcomes.{FailsFirstBy, HasOutcome, IsCauseOf, IsFailureOf, IsFirstFailure, IsLastCause, IsSourceDeleted}
use Rattle.run_promise.specs.Schedule.{IsBeforeAny, IsBeforePlace, IsSchedule, IsTaskAsk, Known, gained_before, is_small, source_bytes}
use Rattle.shared_lemmas.proofs.Clashes.{false_true as never, some_is}
use Rattle.shared_lemmas.proofs.Members.{contains_of, has-map, has_middle, index_of, mapped, pair_of, split_of}
use Rattle.promise_examples.specs.Everything.{create_answered, create_job, part_job, upload}
use Rattle.promise_examples.specs.FailedUpload.{denied, failed_run, other_lost}
use Rattle.promise_examples.specs.Orders.{abort_answered, abort_job, part_denied}
use Rattle.promise_examples.specs.Reading.{HasNoStatus, NeverFailed, Reads}
use Rattle.promise_examples.proofs.Carrying.{same_again}
use Rattle.promise_examples.proofs.Concrete.{Has, each_has, has}
use Rattle.promise_examples.proofs.FailedUpload.{failed_upload_is_met}
use Rattle.promise_examples.proofs.Readings.{reads, refusal_success}
use Rattle.promise_examples.proofs.Repeats.{other_job}
use Rattle.promise_examples.proofs.Shown.{made}
use Rattle.rare_runs.specs.MovedDownload.{delete_job, delete_talk, get_job, get_talk, load, moved_run}
use Rattle.rare_runs.proofs.MovedFile.{moved_download_is_met}
use Rattle.refused_outcomes.specs.LaterFailure.{CopiedCausesAreRefused, DeletedSourcesAreMet, EachCopiedCauseIsRefused, FirstFailuresAreMet, LaterFailuresAreRefused}
use Rattle.refused_outcomes.specs.Told.{IsTold}

abbrev lost_part : Cause
lost_part = cause.Lost op.Part why.WireFailed

success_lost : (said : Reply) (reason : Why) → class.Success said ≡ class.Uncertain reason → ⊥
success_lost said reason e = cc

refusal_lost : (code message : List ℕ) (reason : Why) → class.Refusal code message ≡ class.Uncertain reason → ⊥
refusal_lost code message reason e = cc

-- what stands behind another
behind : {X : Type 0} (R : X → X → Type 0) (front : List X) (x : X) (later : List X) (y : X) → AllPairs R (front ++ x ∷ later) → Contains later y → R x y
behind R [] x later y all known = let place = index_of later y known in pair_of R (x ∷ later) all 0 (suc place.0) x y (omega arith) refl place.1
behind R (z ∷ front) x later y all known = behind R front x later y (λ i j d before within. all (suc i) (suc j) d (omega arith) (omega arith)) known

-- ---- jobs as they are shown

abbrev shown_of : List Dispatched → List Dispatch
shown_of dispatched = map (λ (c : Dispatched). c.dispatch) dispatched

-- what was shown of a member, and a member of which it was shown
is_shown : (given : List Dispatch) (dispatched : List Dispatched) (c : Dispatched) → shown_of dispatched ≡ given → Contains dispatched c → Has given c.dispatch
is_shown given dispatched c shown known = subst (λ (ds : List Dispatch). Has ds c.dispatch) shown (has-map (λ (x : Dispatched). x.dispatch) dispatched c (has dispatched c known))

shows_it : (given : List Dispatch) (dispatched : List Dispatched) (d : Dispatch) → shown_of dispatched ≡ given → Has given d → (c : Dispatched) × Contains dispatched c × (c.dispatch ≡ d)
shows_it given dispatched d shown known =
    let found = mapped (λ (x : Dispatched). x.dispatch) dispatched d (subst (λ (ds : List Dispatch). Has ds d) (sym shown) known) in
    (found.0, contains_of dispatched found.0 found.1, found.2)

-- ---- the upload that failed

abbrev dispatch_of : JobId → (lane given came : ℕ) → Mark → Talk → Dispatch
dispatch_of job lane given came of_mark talk =
    record { job = job; lane = lane; given_at = given; came_at = Some came; earlier = 0; is_second = false; attempts = record { mark = of_mark; talk = talk } ∷ [] }

abbrev first_part : Dispatch
first_part = dispatch_of (part_job 1) 0 2 4 mark.Refusal part_denied

abbrev second_part : Dispatch
second_part = dispatch_of (part_job 2) 1 3 5 mark.Uncertain other_lost

abbrev created : Dispatch
created = dispatch_of create_job 0 0 1 mark.Success create_answered

abbrev aborted : Dispatch
aborted = dispatch_of abort_job 0 6 7 mark.Success abort_answered

abbrev given : List Dispatch
given = created ∷ first_part ∷ second_part ∷ aborted ∷ []

abbrev was_denied : Cause
was_denied = cause.Service op.Part denied []

service_is : (of_op : Op) (code message : List ℕ) → of_op ≡ op.Part → class.Refusal denied [] ≡ class.Refusal code message → cause.Service of_op code message ≡ was_denied
service_is of_op code message is same = cc

success_refusal : (said : Reply) (code message : List ℕ) → class.Success said ≡ class.Refusal code message → ⊥
success_refusal said code message e = cc

lost_denied : outcome.Failed lost_part ≡ outcome.Failed was_denied → ⊥
lost_denied e = cc

module _ (page_of : List ℕ → Listed) where
  abbrev Shows : Ask → ℕ → Talk → Class → List ℕ → Type 0
  Shows = Reads page_of

  module _ (dispatched coming : List Dispatched) (schedule : IsSchedule Shows failed_run.setting (λ planning. planning ≡ []) dispatched coming) (shown : shown_of dispatched ≡ given) where
    came : (c : Dispatched) → Contains coming c → Contains dispatched c
    came c known = Contains-permutation coming dispatched c (IsPermutation-sym dispatched coming schedule.is_coming) known

    came_at_place : (c : Dispatched) (front later : List Dispatched) → coming ≡ front ++ c ∷ later → Contains coming c
    came_at_place c front later e = subst (λ (xs : List Dispatched). Contains xs c) (sym e) (contains_of (front ++ c ∷ later) c (has_middle front c later))

    -- the job of the first part came once
    one_place : (c : Dispatched) → Contains dispatched c → c.dispatch.job ≡ part_job 1 → c.dispatch.came_at ≡ Some 4
    one_place c known same = each_has (λ (d : Dispatch). d.job ≡ part_job 1 → d.came_at ≡ Some 4) given
        ((λ e. absurd (other_job create_job (part_job 1) refl e)), ((λ e. refl), ((λ e. absurd (other_job (part_job 2) (part_job 1) refl e)), ((λ e. absurd (other_job abort_job (part_job 1) refl e)), tt)))) c.dispatch (is_shown given dispatched c shown known) same

    abbrev first_as : Ask → List ℕ → ℕ → ℕ → Dispatched
    first_as asked body limit size = made first_part asked body limit size

    uncut : (asked : Ask) (body : List ℕ) (limit size : ℕ) (front later : List Dispatched) → coming ≡ front ++ first_as asked body limit size ∷ later → (WasStopped : Type 0) → IsCut Shows 2 (first_as asked body limit size) later WasStopped → ⊥
    uncut asked body limit size front later e WasStopped (inl again) =
        let c = first_as asked body limit size in
        let known = came again.0 (contains_of coming again.0 (subst (λ (xs : List Dispatched). Has xs again.0) (sym e) (has_behind front c later again.0 (has later again.0 again.1)))) in
        let after = behind (λ (a b : Dispatched). IsBeforeAny a.dispatch.came_at b.dispatch.came_at) front c later again.0 (subst (AllPairs (λ (a b : Dispatched). IsBeforeAny a.dispatch.came_at b.dispatch.came_at)) e schedule.in_order) again.1 in
        let late : 4 < 4 = subst (λ (o : Option ℕ). IsBeforeAny (Some 4) o) (one_place again.0 known again.2) after in omega arith
      where
        has_behind : {X : Type 0} (front : List X) (x : X) (later : List X) (y : X) → Has later y → Has (front ++ x ∷ later) y
        has_behind [] x later y h = inr h
        has_behind (z ∷ front) x later y h = inr (has_behind front x later y h)
    uncut asked body limit size front later e WasStopped (inr stopped) =
        let goes = stopped.3 in never (same_again (class.Refusal denied []) goes.0 goes.2.0 ∙ goes.3)

    -- the first part failed
    first_failed : (d : Dispatched) × IsFailureOf Shows HasNoStatus NeverFailed failed_run.setting dispatched coming 0 d × (d.dispatch ≡ first_part)
    first_failed =
        let first = shows_it given dispatched first_part shown (inr (inl refl)) in
        let f = first_as first.0.ask first.0.body first.0.limit first.0.size in
        let is_f : first.0 ≡ f = ap (λ (d : Dispatch). made d first.0.ask first.0.body first.0.limit first.0.size) first.2 in
        let known = subst (λ (x : Dispatched). Contains coming x) is_f (Contains-permutation dispatched coming first.0 schedule.is_coming first.1) in
        let split = split_of coming f (has coming f known) in
        (f, ((split.front, split.back, split.is, uncut first.0.ask first.0.body first.0.limit first.0.size split.front split.back split.is _, (λ well. refusal_success well.0)), refl), refl)

    -- what came after it is no first failure, and so is what is not its job
    not_first : (c : Dispatched) (d : Dispatch) → IsFirstFailure Shows HasNoStatus NeverFailed failed_run.setting dispatched coming 0 c → c.dispatch ≡ d → (part_job 1 ≡ d.job → ⊥) → (IsBeforePlace d.came_at (Some 4) → ⊥) → ⊥
    not_first c d first is other late = elim (first.1 first_failed.0 first_failed.1) [
      | inl same ↦ other (ap (λ (x : Dispatch). x.job) (sym first_failed.2 ∙ same ∙ is))
      | inr before ↦ late (subst (λ (x : Dispatch). IsBeforePlace x.came_at (Some 4)) is (subst (λ (x : Dispatch). IsBeforePlace c.dispatch.came_at x.came_at) first_failed.2 before))
    ]

    -- its Create did what it was to do
    created_well : (asked : Ask) (body : List ℕ) (limit size : ℕ) → Contains dispatched (made created asked body limit size) → IsCompletedWell Shows (made created asked body limit size)
    created_well asked body limit size known =
        let c = made created asked body limit size in
        let row = schedule.asks c 0 known refl in
        (refl, (λ of_class said shows. asks_nothing c of_class asked row.0 (bytes_known row.1 row.2 row.0) (some_is upload row.0 row.3) row.7))
      where
        bytes_known : (piece count : ℕ) → Task → Known
        bytes_known piece count task = record { number = 0; bytes = source_bytes failed_run.setting.held task.source; piece = piece; count = count }

        asks_nothing : (c : Dispatched) (of_class : Class) (asked : Ask) (task : Task) (known : Known) → upload ≡ task
            → IsTaskAsk (gained_before Shows dispatched 0) task known task.kind (is_small failed_run.setting task) op.Create 0 asked body → FitsAsk c asked of_class
        asks_nothing c of_class asked task known is asks =
            let row = subst (λ (t : Task). IsTaskAsk (gained_before Shows dispatched 0) t known t.kind (is_small failed_run.setting t) op.Create 0 asked body) (sym is) asks in
            subst (λ (a : Ask). FitsAsk c a of_class) (sym row.2) tt

    refusal_is : (c : Dispatched) (reason : Cause) → IsLastCause Shows HasNoStatus (made first_part c.ask c.body c.limit c.size) reason → reason ≡ was_denied
    refusal_is c (cause.Service of_op said message) is = service_is of_op said message is.0 is.1.1.0
    refusal_is c (cause.Lost of_op reason) is = absurd (refusal_lost _ _ reason is.3.0)
    refusal_is c cause.Changed is = absurd is.0
    refusal_is c (cause.BadReply of_op) is = absurd (success_refusal _ _ _ (sym is.3.0))
    refusal_is c other is = absurd is

    only_cause : (reason : Cause) → FailsFirstBy Shows HasNoStatus NeverFailed failed_run.setting dispatched coming 0 reason → reason ≡ was_denied
    only_cause reason by =
        let c = by.0 in
        let known = came c (came_at_place c by.1.0.0.0 by.1.0.0.1 by.1.0.0.2) in
        each_has (λ (d : Dispatch). c.dispatch ≡ d → reason ≡ was_denied) given (
          (λ is. absurd (by.1.0.0.4 (subst (λ (x : Dispatched). IsCompletedWell Shows x) (sym (as_made c created is)) (created_well c.ask c.body c.limit c.size (subst (λ (x : Dispatched). Contains dispatched x) (as_made c created is) known))))),
          (
            (λ is. refusal_is c reason (subst (λ (x : Dispatched). IsLastCause Shows HasNoStatus x reason) (as_made c first_part is) by.2)),
            (
              (λ is. absurd (not_first c second_part by.1 is (other_job (part_job 1) (part_job 2) refl) (λ early. omega arith))),
              ((λ is. absurd (not_first c aborted by.1 is (other_job (part_job 1) abort_job refl) (λ early. omega arith))), tt),
            ),
          ),
        ) c.dispatch (is_shown given dispatched c shown known) refl
      where
        as_made : (c : Dispatched) (d : Dispatch) → c.dispatch ≡ d → c ≡ made d c.ask c.body c.limit c.size
        as_made c d is = ap (λ (x : Dispatch). made x c.ask c.body c.limit c.size) is

    abbrev Is : Outcome → Type 0
    Is how = HasOutcome Shows HasNoStatus NeverFailed failed_run.setting dispatched coming 0 upload how

    fails_for : (reason : Cause) → Is (outcome.Failed reason) → reason ≡ was_denied
    fails_for cause.Memory how = absurd (never how.2)
    fails_for (cause.Files call) how = absurd how.2.1
    fails_for (cause.Blocked length) how = absurd how.2.1
    fails_for (cause.Cancelled reason) how = absurd (never how.2.0)
    fails_for cause.Changed how = elim how.2 [ inl call ↦ absurd call.1 | inr by ↦ only_cause cause.Changed by ]
    fails_for (cause.Service of_op code message) how = only_cause (cause.Service of_op code message) how.2.0
    fails_for (cause.Lost of_op reason) how = only_cause (cause.Lost of_op reason) how.2
    fails_for (cause.BadReply of_op) how = only_cause (cause.BadReply of_op) how.2

    none_completes : (d : Dispatched) → Contains dispatched d → d.dispatch.job ≡ job_of 0 op.Complete 0 → ⊥
    none_completes d known same = each_has (λ (x : Dispatch). x.job ≡ job_of 0 op.Complete 0 → ⊥) given
        (other_job create_job _ refl, (other_job (part_job 1) _ refl, (other_job (part_job 2) _ refl, (other_job abort_job _ refl, tt)))) d.dispatch (is_shown given dispatched d shown known) same

    no_other : (other : Outcome) → other ≢ outcome.Failed was_denied → Is other → ⊥
    no_other outcome.Done differs how = how.0 first_failed.0 first_failed.1
    no_other (outcome.Copied reason) differs how = never how.0
    no_other (outcome.Failed reason) differs how = differs (ap (λ (x : Cause). outcome.Failed x) (fails_for reason how))
    no_other (outcome.Unknown reason) differs how = none_completes how.0.0.0 how.0.0.1 how.0.0.2.1
    no_other outcome.Dry differs how = never how
    no_other outcome.Skipped differs how = elim how.1 [ inl by_request ↦ never by_request.0 | inr by_file ↦ never by_file.0 ]

  -- ---- the moved download

  abbrev moved_given : List Dispatch
  moved_given = dispatch_of get_job 0 0 1 mark.Success get_talk ∷ dispatch_of delete_job 0 2 3 mark.Success delete_talk ∷ []

  was_deleted : (dispatched coming : List Dispatched) → shown_of dispatched ≡ moved_given → IsSourceDeleted Shows HasNoStatus NeverFailed moved_run.setting dispatched coming 0 load
  was_deleted dispatched coming shown =
      let delete = shows_it moved_given dispatched (dispatch_of delete_job 0 2 3 mark.Success delete_talk) shown (inr (inl refl)) in
      let c = made (dispatch_of delete_job 0 2 3 mark.Success delete_talk) delete.0.ask delete.0.body delete.0.limit delete.0.size in
      let is_c : delete.0 ≡ c = ap (λ (d : Dispatch). made d delete.0.ask delete.0.body delete.0.limit delete.0.size) delete.2 in
      (_, (c, subst (λ (x : Dispatched). Contains dispatched x) is_c delete.1, refl, (refl, _, reads page_of c.ask c.limit delete_talk)))

  -- of which request a cause speaks
  reply_of : (c : Dispatched) (last : Option Attempt) (of_op : Op) → IsCauseOf Shows HasNoStatus c last (cause.BadReply of_op) → of_op ≡ c.dispatch.job.op
  reply_of c None of_op is = absurd is
  reply_of c (Some attempt) of_op is = is.0

  copied : CopiedCausesAreRefused page_of
  copied = record {
    deleted = λ reason dispatched coming reading how. how.2 (was_deleted dispatched coming reading.carried.shown);
    bad_reply = λ e task of_op other dispatched coming reading how.
        let by = how.3 in
        other (reply_of by.0 (last_of by.0.dispatch.attempts) of_op by.2 ∙ ap (λ (job : JobId). job.op) (how.4 by.0 by.1.0));
  }

  first : IsTold page_of NeverFailed failed_run upload (outcome.Failed (cause.Service op.Part denied []))
  first =
      let met = failed_upload_is_met page_of in
      record { dispatched = met.dispatched; coming = met.coming; reading = record { schedule = met.schedule; carried = met.carried }; has_outcome = met.causes 0 upload _ refl refl }

  done : IsTold page_of NeverFailed moved_run load outcome.Done
  done =
      let met = (moved_download_is_met page_of).met in
      record { dispatched = met.dispatched; coming = met.coming; reading = record { schedule = met.schedule; carried = met.carried }; has_outcome = met.causes 0 load _ refl refl }

pub first_failures_are_met : FirstFailuresAreMet
first_failures_are_met page_of = record { first = first page_of }

pub later_failures_are_refused : LaterFailuresAreRefused
later_failures_are_refused page_of = record {
  later = λ dispatched coming reading how. no_other page_of dispatched coming reading.schedule reading.carried.shown _ lost_denied how;
  others = λ other differs dispatched coming reading how. no_other page_of dispatched coming reading.schedule reading.carried.shown other differs how;
}

pub deleted_sources_are_met : DeletedSourcesAreMet
deleted_sources_are_met page_of = record { done = done page_of }

pub each_copied_cause_is_refused : EachCopiedCauseIsRefused
each_copied_cause_is_refused page_of = copied page_of
