-- The outcome of a task is the one that the promise of a run says.
use Rattle.std.proofs.Common.{◌≡◌, ◌≢◌, ◌∙◌, ◌&&◌, ◌||◌, ◌⊎◌, ◌++◌, ℕ, Bool, true, false, List, [], ◌∷◌, Option, Some, None, Contains, refl, sym, subst, ap, inl, inr, not, slice_get}
use Rattle.std.specs.Prelude.{if◌then◌else◌, is_some, nat_lt}
use Rattle.jobs.specs.Endings.{SeenCarried}
use Rattle.jobs.specs.declared.ending.Ending.TheVariants as ending
use Rattle.manager_moves.specs.Runs.{Events, Sent, Shared, lacks_memory, made_count, outcome_in, share, with_taken}
use Rattle.run_progress.proofs.Waiting.{is_waiting, memory_waits}
use Rattle.job_terms.specs.Dispatches.{Dispatched}
use Rattle.run_promise.specs.Outcomes.{HasDeciding, HasOutcome, IsDecidedAt, IsFilePlace, IsObjectPlace, IsSourceDeleted, OnlyDeleteFailed, came_with}
use Rattle.job_terms.specs.Ops.{deciding}
use Rattle.run_promise.specs.Schedule.{IsDecidedBy, Setting, is_small}
use Rattle.job_terms.specs.Jobs.{job_of}
use Rattle.run_promise.specs.Settled.{cause_of}
use Rattle.run_promise.specs.Settled as promised
use Rattle.s3_model.specs.Talks.{Talk}
use Rattle.s3_model.specs.declared.answers.Class.{Class}
use Rattle.s3_model.specs.declared.answers.Reply.{Reply}
use Rattle.s3_model.specs.declared.outcomes.Cause.{Cause}
use Rattle.s3_model.specs.declared.outcomes.Cause.TheVariants as cause
use Rattle.s3_model.specs.declared.outcomes.JobId.{JobId}
use Rattle.s3_model.specs.declared.outcomes.Outcome.{Outcome}
use Rattle.s3_model.specs.declared.outcomes.Outcome.TheVariants as outcome
use Rattle.s3_model.specs.declared.places.Place.{Place}
use Rattle.s3_model.specs.declared.places.Place.TheVariants as place
use Rattle.s3_model.specs.declared.requests.Ask.{Ask}
use Rattle.s3_model.specs.declared.requests.Op.{Op}
use Rattle.s3_model.specs.declared.requests.Op.TheVariants as op
use Rattle.s3_model.specs.declared.tasks.Kind.{Kind}
use Rattle.s3_model.specs.declared.tasks.Kind.TheVariants as kind
use Rattle.s3_model.specs.declared.tasks.Task.{Task}
use Rattle.s3_model.specs.declared.tries.Mark.{Mark}
use Rattle.s3_model.specs.declared.tries.Mark.TheVariants as mark
use Rattle.shared_lemmas.proofs.Clashes.{none_is_some, some_is}
use Rattle.shared_lemmas.proofs.Members.{Has, contains_of, has, has_middle}
use Rattle.task_acts.specs.declared.acts.Act.{Act}
use Rattle.task_acts.specs.declared.acts.Act.TheVariants as act
use Rattle.task_acts.specs.declared.acts.FileCame.TheVariants as file
use Rattle.task_acts.specs.declared.acts.Stage.{Stage}
use Rattle.task_acts.specs.declared.acts.Stage.TheVariants as at
use Rattle.task_acts.specs.declared.work.Work.{Work}
use Rattle.task_acts.specs.Ends.{copied_for, failed_for, has_uncertain, how_ended, is_by_request, open_cause, outcome_of, removal, stop_cause, unknown_for}
use Rattle.task_acts.specs.Failures.{first_failure, is_stopped}
use Rattle.task_acts.specs.Histories.{Came, Gave, Happening, History, Returned, is_act, sent}
use Rattle.task_acts.specs.Laws.{MayLoseSource}
use Rattle.task_acts.specs.Kept.{IsHistory}
use Rattle.task_acts.specs.Rule.{is_decided_by, is_decided_in}
use Rattle.task_acts.specs.Stages.{has_done, stage}
use Rattle.task_acts.specs.Work.{IsWorkOf}
use Rattle.task_acts.proofs.RuleLaws.{sources_go_last}
use Rattle.task_progress.specs.Progress.{HasPiece}
use Rattle.task_progress.proofs.Begun.{has_begun}
use Rattle.task_progress.proofs.Endings.{no}
use Rattle.task_progress.proofs.Progress.{IsCounted}
use Rattle.task_progress.proofs.Tags.{came_fine}
use Rattle.task_schedule.specs.Asks.{gained_in}
use Rattle.task_schedule.specs.Journals.{IsBack, IsRunOf, ShowOne}
use Rattle.task_schedule.specs.Outcomes.{HasDecidingMark, HasGone, HasHappened, IsShownBy}
use Rattle.task_schedule.proofs.Deciders.{call_failed, decided_then, decider_of, gets_done, job_failed}
use Rattle.task_schedule.proofs.Deciding.{marks_are_of_dispatches}
use Rattle.task_schedule.proofs.Failing.{counted_call}
use Rattle.task_schedule.proofs.Failures.{failed_stage}
use Rattle.task_schedule.proofs.Growth.{decided_grows}
use Rattle.task_schedule.proofs.Joined.{came_in_all, given_at_is, of_its_task, sent_as, shown_gained, success_shown}
use Rattle.task_schedule.proofs.Returned.{has_come_back}
use Rattle.task_schedule.proofs.SentJobs.{at_of, sent_begun}
use Rattle.task_schedule.proofs.Shares.{since}
use Rattle.task_schedule.proofs.Shown.{decides_is, outcomes_show}
use Rattle.task_schedule.proofs.Sources.{download_decided}
use Rattle.task_schedule.proofs.Standing.{act_itself, earlier}
use Rattle.task_schedule.proofs.Successes.{sends}
use Rattle.job_terms.proofs.SameJobs.{job_is}
use Rattle.job_terms.proofs.PieceCounts.{pieces_are_one}
use Rattle.task_outcomes.specs.Causes.{HaveOneStatus, IsTold, MovesSource, OutcomesHaveCauses}
use Rattle.task_outcomes.proofs.Acts.{failed_removal, removes_moved}
use Rattle.task_outcomes.proofs.FirstFailures.{failed_at, failed_back, failed_known, none_failed}
use Rattle.task_outcomes.proofs.Reasons.{IsBy, fails, holds, is_by, is_open_for, piece, stays, work}
use Rattle.task_outcomes.proofs.Settling.{Ended, FailsFirst, ended_at, failure_then, fails_first}

-- ---- how it ended

-- the parts of an outcome, by how the history ended
abbrev EndsSo : Work → History → Outcome → Type 0
EndsSo w g outcome.Done = (is_decided_in w g ≡ true) × (w.moves ≡ true → has_done (stage w g (removal w.of_kind)) ≡ true)
EndsSo w g (outcome.Copied why) = (is_decided_in w g ≡ true) × (w.moves ≡ true) × (stop_cause w g ≡ Some why)
EndsSo w g (outcome.Unknown why) = open_cause w g ≡ Some why
EndsSo w g (outcome.Failed why) = (is_decided_in w g ≡ false) × (stop_cause w g ≡ Some why)
EndsSo w g how = ⊥

ends_so : (w : Work) (g : History) (how : Outcome) → how_ended w g ≡ Some how → EndsSo w g how
ends_so w g how e = by (is_decided_in w g) refl w.moves refl (has_done (stage w g (removal w.of_kind))) refl (has_uncertain w g) (open_cause w g) refl (stop_cause w g) refl e
  where
    none_is : {X : Type 0} (x : X) → None ≡ Some x → ⊥
    none_is x f = cc

    by : (decided : Bool) → is_decided_in w g ≡ decided → (moves : Bool) → w.moves ≡ moves → (gone : Bool) → has_done (stage w g (removal w.of_kind)) ≡ gone → (unsure : Bool)
        → (unsure_why : Option Cause) → open_cause w g ≡ unsure_why → (stop : Option Cause) → stop_cause w g ≡ stop
        → (if decided && (not moves || gone) then Some outcome.Done else if unsure && not decided then unknown_for unsure_why
        else if decided then copied_for stop else failed_for stop) ≡ Some how → EndsSo w g how
    by true d false m gone g_is unsure unsure_why o stop s f = subst (EndsSo w g) (some_is outcome.Done how f) (d, λ t. no (sym m ∙ t))
    by true d true m true g_is unsure unsure_why o stop s f = subst (EndsSo w g) (some_is outcome.Done how f) (d, λ t. g_is)
    by true d true m false g_is true unsure_why o None s f = absurd (none_is how f)
    by true d true m false g_is true unsure_why o (Some why) s f = subst (EndsSo w g) (some_is (outcome.Copied why) how f) (d, m, s)
    by true d true m false g_is false unsure_why o None s f = absurd (none_is how f)
    by true d true m false g_is false unsure_why o (Some why) s f = subst (EndsSo w g) (some_is (outcome.Copied why) how f) (d, m, s)
    by false d moves m gone g_is true None o stop s f = absurd (none_is how f)
    by false d moves m gone g_is true (Some why) o stop s f = subst (EndsSo w g) (some_is (outcome.Unknown why) how f) o
    by false d moves m gone g_is false unsure_why o None s f = absurd (none_is how f)
    by false d moves m gone g_is false unsure_why o (Some why) s f = subst (EndsSo w g) (some_is (outcome.Failed why) how f) (d, s)

send_is_no_removal : (c : SeenCarried) → sent c ≡ act.Remove → ⊥
send_is_no_removal c e = cc

file_or_object : (p : Option Place) → IsFilePlace p → IsObjectPlace p → ⊥
file_or_object None f o = f
file_or_object (Some (place.File path)) f o = o
file_or_object (Some (place.Object bucket key)) f o = f

waits_not : (how : Stage) → has_begun how ≡ true → is_waiting how ≡ true → false ≡ true
waits_not at.Waiting b e = b
waits_not how b e = e

module _ (Shows : Ask → ℕ → Talk → Class → List ℕ → Type 0) (HasStatus : Ask → ℕ → Talk → ℕ → Type 0) (CallFailed : ℕ → Cause → Type 0)
    (s : Shared) (setting : Setting) (planned : ℕ) (events : Events) (dispatched coming : List Dispatched) (one : ShowOne Shows) (status_one : HaveOneStatus Shows HasStatus CallFailed)
    (r : IsRunOf Shows s setting planned events dispatched coming) (told : IsTold Shows HasStatus CallFailed s setting planned events dispatched)
    (n : ℕ) (w : Work) (task : Task) (of_plan : slice_get s.works n ≡ Some w) (is_task : slice_get setting.tasks n ≡ Some task) where
  abbrev h : History
  h = share w n events

  is : IsHistory w (share w n events)
  is = holds Shows HasStatus CallFailed s setting planned events dispatched coming one status_one r told n w task of_plan is_task

  has_piece : HasPiece w
  has_piece = piece Shows HasStatus CallFailed s setting planned events dispatched coming one status_one r told n w task of_plan is_task

  of_task : IsWorkOf task setting.config setting.limits w
  of_task = work Shows HasStatus CallFailed s setting planned events dispatched coming one status_one r told n w task of_plan is_task

  abbrev Deciding : Mark → Type 0
  Deciding of_mark = HasDeciding Shows HasStatus CallFailed setting dispatched coming n task of_mark

  abbrev Outcome_is : Outcome → Type 0
  Outcome_is how = HasOutcome Shows HasStatus CallFailed setting dispatched coming n task how

  mark_told : (of_mark : Mark) → (HasDecidingMark w (share w n events) of_mark → Deciding of_mark) × (Deciding of_mark → HasDecidingMark w (share w n events) of_mark)
  mark_told of_mark = marks_are_of_dispatches Shows HasStatus CallFailed s setting planned events dispatched coming r n w task of_mark of_plan is_task

  -- a success that the history says, the dispatches say
  gained_is : (job : JobId) (said : Reply) → gained_in (share w n events) job said → came_with Shows HasStatus CallFailed setting dispatched coming job said
  gained_is job said g = let found = success_shown Shows s setting planned events dispatched coming r n w of_plan [] events job said refl g in (found.0, found.1, found.2, found.4)

  -- ---- what the task is for

  by_its_kind : (k : Kind) → HasHappened w (share w n events) k → w.of_kind ≡ k → IsDecidedAt Shows HasStatus CallFailed setting dispatched coming n task k
  by_its_kind kind.Upload d so = (mark_told mark.Success).0 d
  by_its_kind kind.Copy d so = (mark_told mark.Success).0 d
  by_its_kind kind.RemoveObject d so = (mark_told mark.Success).0 d
  by_its_kind kind.RemoveFile d so = tt
  by_its_kind kind.Download d so = λ size count pieces.
      let counted = pieces_are_one setting.config setting.limits task.kind task.size size w.piece count w.count pieces of_task.pieces in
      let got = download_decided w n (share w n events) is (of_its_task Shows s setting planned events dispatched coming r n w of_plan events) has_piece w.small refl
      (λ k known. came_fine w op.Get k (share w n events) is (gets_done w has_piece (share w n events) is so (has (share w n events) (Returned act.Rename file.Fine) d) k known)) in
      let grown = decided_grows (gained_in (share w n events)) (came_with Shows HasStatus CallFailed setting dispatched coming) gained_is kind.Download w.small n w.count got in
      subst (λ (k : Kind). IsDecidedBy k (is_small setting task) n count (came_with Shows HasStatus CallFailed setting dispatched coming)) (sym so ∙ of_task.kind_is)
      (subst (λ (b : Bool). IsDecidedBy kind.Download b n count (came_with Shows HasStatus CallFailed setting dispatched coming)) of_task.small_is
      (subst (λ (m : ℕ). IsDecidedBy kind.Download w.small n m (came_with Shows HasStatus CallFailed setting dispatched coming)) (sym counted.1) grown))

  decided_at : HasHappened w (share w n events) w.of_kind → IsDecidedAt Shows HasStatus CallFailed setting dispatched coming n task task.kind
  decided_at d = subst (λ (k : Kind). IsDecidedAt Shows HasStatus CallFailed setting dispatched coming n task k) of_task.kind_is (by_its_kind w.of_kind d refl)

  -- ---- the source of a move

  abbrev Deleted : Type 0
  Deleted = IsSourceDeleted Shows HasStatus CallFailed setting dispatched coming n task

  sends_so : (c : SeenCarried) → sent c ≡ act.Send op.Delete 0 → (c.job.id.op ≡ op.Delete) × (c.job.id.number ≡ 0)
  sends_so c e = sends op.Delete 0 c (subst (λ (a : Act). is_act (act.Send op.Delete 0) a ≡ true) (sym e) (act_itself op.Delete 0))

  deleted_by : ((carried : SeenCarried) × Contains (share w n events) (Came carried) × (sent carried ≡ act.Send op.Delete 0) × (said : Reply) × (carried.ending ≡ ending.Gained said)) → Deleted
  deleted_by d = (
    d.3,
    gained_is (job_of n op.Delete 0) d.3 (
      d.0,
      d.1,
      job_is d.0.job.id (job_of n op.Delete 0) (of_its_task Shows s setting planned events dispatched coming r n w of_plan events d.0 d.1)
          (sends_so d.0 d.2).0 (sends_so d.0 d.2).1,
      d.4,
    ),
  )

  gone_deleted : task.moves ≡ true → (k : Kind) → task.kind ≡ k → HasGone (share w n events) k → IsObjectPlace task.source → Deleted
  gone_deleted moves kind.Upload so gone object = absurd (file_or_object task.source (subst (MovesSource task) so (told.moves n task is_task moves)) object)
  gone_deleted moves kind.RemoveFile so gone object = absurd (subst (MovesSource task) so (told.moves n task is_task moves))
  gone_deleted moves kind.Download so gone object = deleted_by gone
  gone_deleted moves kind.Copy so gone object = deleted_by gone
  gone_deleted moves kind.RemoveObject so gone object = deleted_by gone

  -- a Delete that came with success
  delete_came : Deleted → (carried : SeenCarried) × Contains (share w n events) (Came carried) × (sent carried ≡ act.Send op.Delete 0) × (said : Reply) × (carried.ending ≡ ending.Gained said)
  delete_came d =
      let a = at_of Shows s setting planned events dispatched coming r n w of_plan op.Delete 0 d.1.0 d.1.1 d.1.2 in
      let back = has_come_back Shows s setting planned events dispatched coming r n w of_plan op.Delete 0 d.1.0 a in
      let gained = shown_gained Shows s setting planned events dispatched coming r n w of_plan op.Delete 0 d.1.0 a back d.0 d.1.3 in (
        back.carried,
        contains_of (share w n events) (Came back.carried) (came_in_all Shows s setting planned events dispatched coming r n w of_plan op.Delete 0 d.1.0 a back),
        sent_as Shows s setting planned events dispatched coming r n w of_plan op.Delete 0 d.1.0 a back,
        gained.0,
        gained.1,
      )

  not_deleted : task.moves ≡ true → (k : Kind) → w.of_kind ≡ k → HasHappened w (share w n events) k → ¬ (HasGone (share w n events) k) → Deleted → ⊥
  not_deleted moves kind.Download so happened stays d = stays (delete_came d)
  not_deleted moves kind.Copy so happened stays d = stays (delete_came d)
  not_deleted moves kind.RemoveObject so happened stays d = stays (delete_came d)
  not_deleted moves kind.RemoveFile so happened stays d = stays happened
  not_deleted moves kind.Upload so happened stays d =
      let a = at_of Shows s setting planned events dispatched coming r n w of_plan op.Delete 0 d.1.0 d.1.1 d.1.2 in
      let given = subst (IsHistory w) (given_at_is Shows s setting planned events dispatched coming r n w of_plan op.Delete 0 d.1.0 a) is in
      let then_ = earlier w (since w n a.later (Sent n op.Delete 0 a.lane ∷ a.before)) (Gave (act.Send op.Delete 0) ∷ with_taken w op.Delete 0 (share w n a.before)) given in
      subst (λ (k : Kind). MayLoseSource w (stage w (with_taken w op.Delete 0 (share w n a.before))) (is_stopped w (with_taken w op.Delete 0 (share w n a.before))) k) so
      (sources_go_last w (with_taken w op.Delete 0 (share w n a.before)) 0 then_.0)

  -- ---- by its outcome

  module _ (how : Outcome) (of_share : outcome_of w (share w n events) ≡ Some how) (forgot : (why : Cause) → cause_of (Some how) ≡ Some why → why ≡ cause.Memory → setting.wanted_memory (Some n) ≡ true) where
    ends : Ended w (share w n events) how
    ends = ended_at w has_piece (share w n events) how is of_share

    ended_so : EndsSo w ends.then_ how
    ended_so = ends_so w ends.then_ how ends.so

    shown : IsShownBy w (share w n events) how
    shown = outcomes_show w (share w n events) how has_piece is of_share

    then_holds : IsHistory w ends.then_
    then_holds = earlier w ends.later ends.then_ (subst (IsHistory w) ends.is is)

    -- ---- what of a task can fail that was decided

    -- what failed in the whole history has failed by its end
    decided_in_all : is_decided_in w ends.then_ ≡ true → is_decided_in w (share w n events) ≡ true
    decided_in_all decided = by w.of_kind (decided_then w (share w n events) is ends.later ends.then_ ends.is (is_stopped w ends.then_) decided)
      where
        by : (k : Kind) → has_done (stage w (share w n events) (decider_of w k)) ≡ true → is_decided_by w (stage w (share w n events)) (is_stopped w (share w n events)) k ≡ true
        by kind.Upload d = d
        by kind.Download d = d
        by kind.Copy d = d
        by kind.RemoveObject d = d
        by kind.RemoveFile d = d

    only_delete : is_decided_in w ends.then_ ≡ true → task.moves ≡ true → OnlyDeleteFailed Shows HasStatus CallFailed setting dispatched coming n
    only_delete decided moves c failure = job_is c.dispatch.job (job_of n op.Delete 0) failure.1 (deletes.0) (deletes.1)
      where
        back : IsBack Shows planned (failed_at Shows HasStatus CallFailed s setting planned events dispatched coming r one n w of_plan c failure.0 failure.1).later
            (Sent n c.dispatch.job.op c.dispatch.job.number (failed_at Shows HasStatus CallFailed s setting planned events dispatched coming r one n w of_plan c failure.0 failure.1).lane ∷ (failed_at Shows HasStatus CallFailed s setting planned events dispatched coming r one n w of_plan c failure.0 failure.1).before) c
        back = failed_back Shows HasStatus CallFailed s setting planned events dispatched coming r one n w of_plan c failure.0 failure.1

        is_removal : sent back.carried ≡ removal w.of_kind
        is_removal = failed_removal w (share w n events) is (decided_in_all decided) has_piece (sent back.carried) tt
            (failed_stage Shows s setting planned events dispatched coming r one n w of_plan c.dispatch.job.op c.dispatch.job.number c
            (failed_known Shows HasStatus CallFailed s setting planned events dispatched coming r one n w of_plan c failure.0 failure.1)
            (failed_at Shows HasStatus CallFailed s setting planned events dispatched coming r one n w of_plan c failure.0 failure.1) back failure.0)

        by_kind : (k : Kind) → sent back.carried ≡ removal k → sent back.carried ≡ act.Send op.Delete 0
        by_kind kind.Upload e = absurd (send_is_no_removal back.carried e)
        by_kind kind.RemoveFile e = absurd (send_is_no_removal back.carried e)
        by_kind kind.Download e = e
        by_kind kind.Copy e = e
        by_kind kind.RemoveObject e = e

        of_job : back.carried.job.id ≡ c.dispatch.job
        of_job = back.of_job

        deletes : (c.dispatch.job.op ≡ op.Delete) × (c.dispatch.job.number ≡ 0)
        deletes = subst (λ (j : JobId). (j.op ≡ op.Delete) × (j.number ≡ 0)) of_job (sends_so back.carried (by_kind w.of_kind is_removal))

    -- what is done has no failure
    no_failure : is_decided_in w ends.then_ ≡ true → (w.moves ≡ true → has_done (stage w ends.then_ (removal w.of_kind)) ≡ true) → first_failure w ends.then_ ≡ None
    no_failure decided gone = by (first_failure w ends.then_) refl
      where
        failed_not_done : (how : Stage) → how ≡ at.Failed → has_done how ≡ true → false ≡ true
        failed_not_done x e d = subst (λ (y : Stage). has_done y ≡ true) e d

        failed_begun : (how : Stage) → how ≡ at.Failed → has_begun how ≡ true
        failed_begun x e = subst (λ (y : Stage). has_begun y ≡ true) (sym e) refl

        -- the removal of an object or of a file is what the task is for
        decides_itself : (k : Kind) → w.of_kind ≡ k → is_decided_by w (stage w ends.then_) (is_stopped w ends.then_) k ≡ true → ((k ≢ kind.RemoveObject) × (k ≢ kind.RemoveFile)) ⊎ (has_done (stage w ends.then_ (removal k)) ≡ true)
        decides_itself kind.Upload so d = inl (λ e. cc, λ e. cc)
        decides_itself kind.Download so d = inl (λ e. cc, λ e. cc)
        decides_itself kind.Copy so d = inl (λ e. cc, λ e. cc)
        decides_itself kind.RemoveObject so d = inr (subst (λ (o : Op). has_done (stage w ends.then_ (act.Send o 0)) ≡ true) (ap (λ (k : Kind). deciding k w.small) so) d)
        decides_itself kind.RemoveFile so d = inr d

        never : stage w ends.then_ (removal w.of_kind) ≡ at.Failed → ⊥
        never failed = elim (decides_itself w.of_kind refl decided) [
          | inl other ↦ no (failed_not_done (stage w ends.then_ (removal w.of_kind)) failed
              (gone (removes_moved w ends.then_ then_holds other.0 other.1 (failed_begun (stage w ends.then_ (removal w.of_kind)) failed))))
          | inr done ↦ no (failed_not_done (stage w ends.then_ (removal w.of_kind)) failed done)
        ]

        at_removal : (a : Act) → IsCounted a → stage w ends.then_ a ≡ at.Failed → ⊥
        at_removal a counted failed = never (ap (stage w ends.then_) (sym (failed_removal w ends.then_ then_holds decided has_piece a counted failed)) ∙ failed)

        there : (f : (why : Cause) × FailsFirst w ends.then_ why) (e : Happening) → f.1.event ≡ e → Has ends.then_ e
        there f e same = subst (λ (x : History). Has x e) (sym (f.1.is ∙ ap (λ (x : Happening). f.1.later ++ x ∷ f.1.before) same)) (has_middle f.1.later e f.1.before)

        by_event : (f : (why : Cause) × FailsFirst w ends.then_ why) (e : Happening) → f.1.event ≡ e → IsBy w e f.0 → ⊥
        by_event f (Came c) same by_it = at_removal (sent c) tt (job_failed w ends.then_ then_holds c (there f (Came c) same) by_it.0 (ap (λ (x : Option Cause). is_some x) by_it.1))
        by_event f (Returned a result) same by_it =
            let some = ap (λ (x : Option Cause). is_some x) by_it in
            at_removal a (counted_call a result some) (call_failed w ends.then_ then_holds a result (there f (Returned a result) same) some)
        by_event f e same by_it = by_it

        by : (x : Option Cause) → first_failure w ends.then_ ≡ x → first_failure w ends.then_ ≡ None
        by None e = e
        by (Some why) e = let f = fails_first w ends.then_ why e in absurd (by_event (why, f) f.event refl (is_by w f.event why f.failure))

    done_is : how ≡ outcome.Done → Outcome_is outcome.Done
    done_is same =
        let so = subst (EndsSo w ends.then_) same ended_so in
        let its = subst (IsShownBy w (share w n events)) same shown in (
          none_failed Shows HasStatus CallFailed s setting planned events dispatched coming r one n w of_plan (failure_then w (share w n events) how ends ∙ no_failure so.0 so.1),
          decided_at its.0,
          λ moves object. gone_deleted moves task.kind refl (subst (HasGone (share w n events)) of_task.kind_is (its.1 (of_task.moves_is ∙ moves))) object,
          λ fresh down. no (sym of_task.replaces ∙ fresh),
        )

    copied_is : (why : Cause) → how ≡ outcome.Copied why → Outcome_is (outcome.Copied why)
    copied_is why same =
        let so = subst (EndsSo w ends.then_) same ended_so in
        let its = subst (IsShownBy w (share w n events)) same shown in
        let moves = sym of_task.moves_is ∙ so.1 in (
          moves,
          decided_at its.0,
          not_deleted moves w.of_kind refl its.0 its.2,
          stays Shows HasStatus CallFailed s setting planned events dispatched coming one status_one r told n w task of_plan is_task how ends why (forgot why (ap (λ (x : Outcome). cause_of (Some x)) same)) so.0 moves so.2,
          only_delete so.0 moves,
          λ fresh down. no (sym of_task.replaces ∙ fresh),
        )

    unknown_is : (why : Cause) → how ≡ outcome.Unknown why → Outcome_is (outcome.Unknown why)
    unknown_is why same =
        let so = subst (EndsSo w ends.then_) same ended_so in
        let its = subst (IsShownBy w (share w n events)) same shown in (
          ((mark_told mark.Uncertain).0 its.0, λ d. its.1 ((mark_told mark.Success).1 d)),
          is_open_for Shows HasStatus CallFailed s setting planned events dispatched coming one status_one r told n w task of_plan is_task how ends why (forgot why (ap (λ (x : Outcome). cause_of (Some x)) same)) so,
        )

    success_happens : (k : Kind) → w.of_kind ≡ k → HasDecidingMark w (share w n events) mark.Success → HasHappened w (share w n events) k
    success_happens kind.Upload so d = d
    success_happens kind.Copy so d = d
    success_happens kind.RemoveObject so d = d
    success_happens kind.Download so d = no (ap is_by_request (sym so) ∙ (decides_is w (share w n events) is d.0 d.2).0)
    success_happens kind.RemoveFile so d = no (ap is_by_request (sym so) ∙ (decides_is w (share w n events) is d.0 d.2).0)

    failed_is : (why : Cause) → how ≡ outcome.Failed why → Outcome_is (outcome.Failed why)
    failed_is why same =
        let so = subst (EndsSo w ends.then_) same ended_so in
        let its = subst (IsShownBy w (share w n events)) same shown in (
          λ d. its.0 (success_happens w.of_kind refl ((mark_told mark.Success).1 d)),
          λ left. its.1 ((mark_told mark.Uncertain).1 left.0),
          fails Shows HasStatus CallFailed s setting planned events dispatched coming one status_one r told n w task of_plan is_task how ends why (forgot why (ap (λ (x : Outcome). cause_of (Some x)) same)) so.0 so.1,
          λ fresh. no (sym of_task.replaces ∙ fresh),
        )

    is_its_outcome : (x : Outcome) → how ≡ x → IsShownBy w (share w n events) x → Outcome_is x
    is_its_outcome outcome.Done same shows = done_is same
    is_its_outcome (outcome.Copied why) same shows = copied_is why same
    is_its_outcome (outcome.Unknown why) same shows = unknown_is why same
    is_its_outcome (outcome.Failed why) same shows = failed_is why same
    is_its_outcome x same shows = absurd shows

    pub its_outcome : Outcome_is how
    its_outcome = is_its_outcome how refl shown

  -- ---- a task that was not made for want of memory

  no_job : lacks_memory n events ≡ true → (o : Op) (k : ℕ) (x : Dispatched) → Contains dispatched x → x.dispatch.job ≡ job_of n o k → ⊥
  no_job lacks o k x known job =
      let a = at_of Shows s setting planned events dispatched coming r n w of_plan o k x known job in
      let there = subst (λ (z : Events). Has z (Sent n o k a.lane)) (sym a.is) (has_middle a.later (Sent n o k a.lane) a.before) in
      no (waits_not (stage w (share w n events) (act.Send o k)) (sent_begun events n k a.lane w o there) (memory_waits s n w of_plan (act.Send o k) events r.run lacks))

  not_made : lacks_memory n events ≡ true → setting.wanted_memory (Some n) ≡ true → Outcome_is (outcome.Failed cause.Memory)
  not_made lacks wanted = (λ d. no_job lacks _ 0 d.0 d.1 d.2.1, λ left. no_job lacks _ 0 left.0.0 left.0.1 left.0.2.1, wanted, λ fresh. no (sym of_task.replaces ∙ fresh))

  memory_is : (why : Cause) → why ≡ cause.Memory → (how : Outcome) → cause_of (Some how) ≡ Some why → promised.is_memory (cause_of (Some how)) ≡ true
  memory_is why m how e = ap promised.is_memory (e ∙ ap Some m)

  pub has_its_outcome : (how : Outcome) → outcome_in w n events ≡ Some how → Outcome_is how
  has_its_outcome how e = by (nat_lt n (made_count events)) (lacks_memory n events) refl (outcome_of w (share w n events)) refl e
    where
      forgot : (why : Cause) → cause_of (Some how) ≡ Some why → why ≡ cause.Memory → setting.wanted_memory (Some n) ≡ true
      forgot why its m = told.memory n w how of_plan e (memory_is why m how its)

      by : (made lacks : Bool) → lacks_memory n events ≡ lacks → (x : Option Outcome) → outcome_of w (share w n events) ≡ x → (if made then (if lacks then Some (outcome.Failed cause.Memory) else x) else None) ≡ Some how → Outcome_is how
      by false lacks l x f g = absurd (none_is_some how g)
      by true true l x f g =
          let same = some_is (outcome.Failed cause.Memory) how g in
          subst Outcome_is same (not_made l (forgot cause.Memory (ap (λ (y : Outcome). cause_of (Some y)) (sym same)) refl))
      by true false l x f g = its_outcome how (f ∙ g) forgot

pub outcomes_have_causes : (Shows : Ask → ℕ → Talk → Class → List ℕ → Type 0) (HasStatus : Ask → ℕ → Talk → ℕ → Type 0) (CallFailed : ℕ → Cause → Type 0) → OutcomesHaveCauses Shows HasStatus CallFailed
outcomes_have_causes Shows HasStatus CallFailed s setting planned events dispatched coming one status_one r told n w task how of_plan is_task e =
    has_its_outcome Shows HasStatus CallFailed s setting planned events dispatched coming one status_one r told n w task of_plan is_task how e
