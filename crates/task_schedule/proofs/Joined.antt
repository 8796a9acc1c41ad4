-- The clauses of the schedule, from the shares of the tasks.
use Rattle.std.proofs.Common.{append_assoc, ◌≡◌, ◌≢◌, ◌∙◌, ◌⊎◌, ◌+◌, ◌++◌, ◌<◌, ◌≤◌, ℕ, Bool, true, false, List, [], ◌∷◌, Option, Some, None, Contains, refl, sym, subst, ap, inl, inr, arith, slice_get}
use Rattle.std.specs.Option.{option_or}
use Rattle.std.specs.Prelude.{IsSome, is_some, if◌then◌else◌}
use Rattle.jobs.specs.Endings.{IsEnded, IsReplyTo, SeenCarried}
use Rattle.jobs.specs.declared.ending.Ending.{Ending}
use Rattle.jobs.specs.declared.ending.Ending.TheVariants as ending
use Rattle.job_terms.specs.Dispatches.{Attempt, Dispatched, last_of}
use Rattle.run_promise.specs.Schedule.{HasReply, IsBefore, IsDecided, IsDecidedBy, IsTaskAsk, IsUpload, Setting, gained_before, is_small, limit_of, source_bytes}
use Rattle.job_terms.specs.Jobs.{job_of}
use Rattle.s3_model.specs.Parts.{HasPieces}
use Rattle.s3_model.specs.Talks.{Talk}
use Rattle.s3_model.specs.declared.answers.Class.{Class}
use Rattle.s3_model.specs.declared.answers.Class.TheVariants as class
use Rattle.s3_model.specs.declared.answers.Reply.{Reply}
use Rattle.s3_model.specs.declared.answers.Reply.TheVariants as reply
use Rattle.s3_model.specs.declared.outcomes.JobId.{JobId}
use Rattle.s3_model.specs.declared.requests.Ask.{Ask}
use Rattle.s3_model.specs.declared.requests.Op.{Op}
use Rattle.s3_model.specs.declared.requests.Op.TheVariants as op
use Rattle.s3_model.specs.declared.tasks.Kind.{Kind}
use Rattle.s3_model.specs.declared.tasks.Kind.TheVariants as kind
use Rattle.s3_model.specs.declared.tasks.Task.{Task}
use Rattle.s3_model.specs.declared.tries.Mark.{Mark}
use Rattle.s3_model.specs.declared.tries.Mark.TheVariants as mark
use Rattle.task_acts.specs.declared.acts.Act.{Act}
use Rattle.task_acts.specs.declared.acts.Act.TheVariants as act
use Rattle.task_acts.specs.declared.work.Work.{Work}
use Rattle.task_acts.specs.Histories.{Came, Cancelled, Gave, History, Returned, Taken, is_act, sent}
use Rattle.task_acts.specs.Kept.{IsHistory, kept_job, created_in, upload_in, upload_of}
use Rattle.task_acts.specs.Work.{IsWorkOf}
use Rattle.shared_lemmas.proofs.Clashes.{none_is_some, some_is, true_is_false}
use Rattle.shared_lemmas.proofs.Lists.{tail_is}
use Rattle.shared_lemmas.proofs.Members.{Has, contains_of, has, has_at, has_middle, split_of}
use Rattle.job_terms.proofs.SameJobs.{job_is}
use Rattle.job_terms.proofs.PieceCounts.{pieces_are_one}
use Rattle.task_progress.proofs.Endings.{no}
use Rattle.manager_moves.specs.Runs.{Back, Events, Sent, Shared, share, with_taken}
use Rattle.task_schedule.specs.Asks.{AreOfTask, gained_in, known_of}
use Rattle.task_schedule.specs.Journals.{EndsAs, IsBack, IsRunOf, ShowsLast, place_after}
use Rattle.task_schedule.proofs.AskRows.{asks_are_of_schedule}
use Rattle.task_schedule.proofs.Givings.{aborted_is_not_completed, created_is_ended}
use Rattle.task_schedule.proofs.Growth.{decided_grows, row_grows}
use Rattle.task_schedule.proofs.Marks.{gained_by, gained_last, last_map, pair_of}
use Rattle.task_schedule.proofs.Places.{entry_fills, filled, fills, same_place}
use Rattle.task_schedule.proofs.SentJobs.{IsAt, at_of, came_before_abort, holds, no_third_sent, share_since, work_of}
use Rattle.task_schedule.proofs.Shares.{back_is, since, share_back, share_came, share_gave}
use Rattle.task_schedule.proofs.Sources.{sources_go_after_success}
use Rattle.task_schedule.proofs.Standing.{act_itself}
use Rattle.task_schedule.proofs.Successes.{sends}
use Rattle.task_schedule.specs.Givings.{IsGiven, IsGivenAt}
use Rattle.task_progress.specs.Progress.{HasPiece}
use Rattle.jobs.specs.Jobs.{IsAskOf}

-- ---- an upload that was named

upload_named : (h : History) (c : SeenCarried) (id : List ℕ) → Has h (Came c) → is_act (act.Send op.Create 0) (sent c) ≡ true → c.ending ≡ ending.Gained (reply.Created id) → is_some (upload_of h) ≡ true
upload_named [] c id known same gained = absurd known
upload_named (Came d ∷ h) c id known same gained = by known (λ f. upload_named h c id f same gained)
  where
    or_some : (x y : Option (List ℕ)) → (is_some x ≡ true) ⊎ (is_some y ≡ true) → is_some (option_or x y) ≡ true
    or_some (Some x) y e = refl
    or_some None y (inl e) = no e
    or_some None y (inr e) = e

    came_same : Came d ≡ Came c → d ≡ c
    came_same e = cc

    named : is_some (upload_in c) ≡ true
    named = ap (λ (b : Bool). is_some (if b then created_in c.ending else None)) same ∙ ap (λ (e : Ending). is_some (created_in e)) gained

    by : Has (Came d ∷ h) (Came c) → (Has h (Came c) → is_some (upload_of h) ≡ true) → is_some (option_or (upload_in d) (upload_of h)) ≡ true
    by (inl e) rest = or_some (upload_in d) (upload_of h) (inl (subst (λ (x : SeenCarried). is_some (upload_in x) ≡ true) (sym (came_same e)) named))
    by (inr f) rest = or_some (upload_in d) (upload_of h) (inr (rest f))
upload_named (Gave g ∷ h) c id (inl e) same gained = absurd (clash g c e)
  where
    clash : (g : Act) (c : SeenCarried) → Gave g ≡ Came c → ⊥
    clash g c e = cc
upload_named (Gave g ∷ h) c id (inr known) same gained = upload_named h c id known same gained
upload_named (Returned a r ∷ h) c id (inl e) same gained = absurd (clash a r c e)
  where
    clash : (a : Act) (r : _) (c : SeenCarried) → Returned a r ≡ Came c → ⊥
    clash a r c e = cc
upload_named (Returned a r ∷ h) c id (inr known) same gained = upload_named h c id known same gained
upload_named (Cancelled reason ∷ h) c id (inl e) same gained = absurd (clash reason c e)
  where
    clash : (r : _) (c : SeenCarried) → Cancelled r ≡ Came c → ⊥
    clash r c e = cc
upload_named (Cancelled reason ∷ h) c id (inr known) same gained = upload_named h c id known same gained
upload_named (Taken o k ∷ h) c id (inl e) same gained = absurd (clash o k c e)
  where
    clash : (o : Op) (k : ℕ) (c : SeenCarried) → Taken o k ≡ Came c → ⊥
    clash o k c e = cc
upload_named (Taken o k ∷ h) c id (inr known) same gained = upload_named h c id known same gained

created_is : (said : Reply) → IsReplyTo op.Create said → (id : List ℕ) × (said ≡ reply.Created id)
created_is (reply.Created id) is = (id, refl)
created_is said is = absurd is

back_same : (l m : ℕ) (c d : SeenCarried) (xs ys : Events) → Back l c ∷ xs ≡ Back m d ∷ ys → c ≡ d
back_same l m c d xs ys e = cc

module _ (Shows : Ask → ℕ → Talk → Class → List ℕ → Type 0) (s : Shared) (setting : Setting) (planned : ℕ) (events : Events) (dispatched coming : List Dispatched)
    (r : IsRunOf Shows s setting planned events dispatched coming) where
  -- an abbreviation for what every lemma takes
  abbrev At : (n : ℕ) (w : Work) → slice_get s.works n ≡ Some w → Op → ℕ → Dispatched → Type 0
  At n w of_plan o k x = IsAt Shows s setting planned events dispatched coming r n w of_plan o k x

  module _ (n : ℕ) (w : Work) (of_plan : slice_get s.works n ≡ Some w) where
    abbrev at : (o : Op) (k : ℕ) (x : Dispatched) → Contains dispatched x → x.dispatch.job ≡ job_of n o k → At n w of_plan o k x
    at o k x known is = at_of Shows s setting planned events dispatched coming r n w of_plan o k x known is

    -- ---- what a return shows

    module _ (o : Op) (k : ℕ) (x : Dispatched) (a : At n w of_plan o k x) (back : IsBack Shows planned a.later (Sent n o k a.lane ∷ a.before) x) where
      pub back_at : events ≡ back.newer ++ Back back.lane back.carried ∷ (back.between ++ Sent n o k a.lane ∷ a.before)
      back_at = a.is ∙ ap (λ (z : Events). z ++ Sent n o k a.lane ∷ a.before) back.is ∙ append_assoc back.newer (Back back.lane back.carried ∷ back.between) (Sent n o k a.lane ∷ a.before)

      pub its_task : back.carried.job.id.task ≡ Some n
      its_task = ap (λ (j : JobId). j.task) (back.of_job ∙ a.job_is)

      pub came_holds : IsHistory w (Came back.carried ∷ share w n (back.between ++ Sent n o k a.lane ∷ a.before))
      came_holds = subst (IsHistory w) (back_is w n back.lane back.carried (back.between ++ Sent n o k a.lane ∷ a.before) its_task)
          (holds Shows s setting planned events dispatched coming r n w of_plan back.newer (Back back.lane back.carried ∷ (back.between ++ Sent n o k a.lane ∷ a.before)) back_at)

      pub is_ended : IsEnded back.carried.ending back.carried.job.id.op back.carried.job.part back.carried.job.cell back.carried.tries
      is_ended = came_holds.0.3

      pub its_last : (attempt : Attempt) → last_of x.dispatch.attempts ≡ Some attempt → last_of back.carried.tries ≡ Some attempt.mark
      its_last attempt e = ap (λ (tries : List Mark). last_of tries) (sym back.brings.marks) ∙ last_map (λ (z : Attempt). z.mark) x.dispatch.attempts attempt e

      -- a success that the dispatch shows was gained
      pub shown_gained : (said : Reply) → HasReply Shows x (last_of x.dispatch.attempts) said → (other : Reply) × (back.carried.ending ≡ ending.Gained other)
      shown_gained said has_reply = by (last_of x.dispatch.attempts) refl has_reply
        where
          by : (o : Option Attempt) → last_of x.dispatch.attempts ≡ o → HasReply Shows x o said → (other : Reply) × (back.carried.ending ≡ ending.Gained other)
          by None e h = absurd h
          by (Some attempt) e h = gained_by back.carried back.carried.ending is_ended (its_last attempt e ∙ ap Some h.0)

      -- and what was gained is shown
      pub gained_shown : (said : Reply) → back.carried.ending ≡ ending.Gained said → HasReply Shows x (last_of x.dispatch.attempts) said
      gained_shown said gained =
          let shown : ShowsLast Shows x (class.Success said) = subst (λ (e : Ending). EndsAs Shows x e) gained back.brings.ends in
          let is_success = some_is shown.attempt.mark mark.Success (sym (its_last shown.attempt shown.last) ∙ gained_last back.carried said is_ended gained) in
          subst (λ (o : Option Attempt). HasReply Shows x o said) (sym shown.last) (is_success, shown.bytes, shown.shows)

    -- a job that came back is one that was dispatched
    pub record IsReturn (lane : ℕ) (c : SeenCarried) (before : Events) : Type 0 where
      pub x : Dispatched
      pub known : Contains dispatched x
      pub a : At n w of_plan c.job.id.op c.job.id.number x
      pub back : IsBack Shows planned a.later (Sent n c.job.id.op c.job.id.number a.lane ∷ a.before) x
      pub same : back.carried ≡ c
      pub rest_is : back.between ++ Sent n c.job.id.op c.job.id.number a.lane ∷ a.before ≡ before
      pub came_at : x.dispatch.came_at ≡ Some (place_after planned before)

    pub return_of : (later before : Events) (lane : ℕ) (c : SeenCarried) → events ≡ later ++ Back lane c ∷ before → c.job.id.task ≡ Some n → IsReturn lane c before
    return_of later before lane c is task =
        let found = r.sent.each_back later before lane c is in
        let a = at c.job.id.op c.job.id.number found.0 found.1 (found.2 ∙ job_is c.job.id (job_of n c.job.id.op c.job.id.number) task refl refl) in
        elim a.comes [
          | inl none ↦ absurd (none_is_some (place_after planned before) (sym none.0 ∙ found.3))
          | inr back ↦ record {
            x = found.0;
            known = found.1;
            a = a;
            back = back;
            same = back_same back.lane lane back.carried c (back.between ++ Sent n c.job.id.op c.job.id.number a.lane ∷ a.before) before (one_event found.0 a back found.3);
            rest_is = tail_is (Back back.lane back.carried) (Back lane c) (back.between ++ Sent n c.job.id.op c.job.id.number a.lane ∷ a.before) before (one_event found.0 a back found.3);
            came_at = found.3;
          }
        ]
      where
        both : {u v : ℕ} → planned + u ≡ planned + v → u ≡ v
        both e = omega arith

        one_event : (x : Dispatched) (a : At n w of_plan c.job.id.op c.job.id.number x) (back : IsBack Shows planned a.later (Sent n c.job.id.op c.job.id.number a.lane ∷ a.before) x)
            → x.dispatch.came_at ≡ Some (place_after planned before) → Back back.lane back.carried ∷ (back.between ++ Sent n c.job.id.op c.job.id.number a.lane ∷ a.before) ≡ Back lane c ∷ before
        one_event x a back came =
            same_place back.newer (back.between ++ Sent n c.job.id.op c.job.id.number a.lane ∷ a.before) later before (Back back.lane back.carried) (Back lane c)
            (sym (back_at c.job.id.op c.job.id.number x a back) ∙ is) tt tt
            (both (some_is (place_after planned (back.between ++ Sent n c.job.id.op c.job.id.number a.lane ∷ a.before)) (place_after planned before) (sym back.came_at ∙ came)))

    -- ---- successes

    -- what the history says came with success, the dispatches show
    pub success_shown : (later before : Events) (job : JobId) (said : Reply) → events ≡ later ++ before → gained_in (share w n before) job said → gained_before Shows dispatched (place_after planned before) job said
    success_shown later before job said is gained =
        let back = share_back w n before gained.0 (has (share w n before) (Came gained.0) gained.1) in
        let split = split_of before (Back back.0 gained.0) back.1 in
        let whole : events ≡ (later ++ split.front) ++ Back back.0 gained.0 ∷ split.back = is ∙ ap (λ (z : Events). later ++ z) split.is ∙ sym (append_assoc later split.front (Back back.0 gained.0 ∷ split.back)) in
        let return = return_of (later ++ split.front) split.back back.0 gained.0 whole back.2 in
        let shown = gained_shown gained.0.job.id.op gained.0.job.id.number return.x return.a return.back said (subst (λ (c : SeenCarried). c.ending ≡ ending.Gained said) (sym return.same) gained.3) in (
          return.x,
          return.known,
          return.a.job_is ∙ sym (job_is gained.0.job.id (job_of n gained.0.job.id.op gained.0.job.id.number) back.2 refl refl) ∙ gained.2,
          subst (λ (o : Option ℕ). IsBefore o (place_after planned before)) (sym return.came_at) (earlier split.front split.back back.0 gained.0 split.is),
          shown,
        )
      where
        earlier : (front rest : Events) (lane : ℕ) (c : SeenCarried) → before ≡ front ++ Back lane c ∷ rest → place_after planned rest < place_after planned before
        earlier front rest lane c e =
            let one = entry_fills (Back lane c) rest tt in
            let more = fills front (Back lane c ∷ rest) in
            let same = ap filled e in
            omega arith

    -- the jobs that came are of the task
    pub of_its_task : (before : Events) → AreOfTask n (share w n before)
    of_its_task before c known = (share_back w n before c (has (share w n before) (Came c) known)).2

    -- what was kept is no success
    ahead_gained : (o : Op) (k : ℕ) (before : Events) (job : JobId) (said : Reply) → gained_in (with_taken w o k (share w n before)) job said → gained_in (share w n before) job said
    ahead_gained o k before job said g = (g.0, contains_of (share w n before) (Came g.0) (by (is_some (kept_job w (share w n before) (act.Send o k))) (has (with_taken w o k (share w n before)) (Came g.0) g.1)), g.2, g.3)
      where
        taken_came : Taken o k ≡ Came g.0 → ⊥
        taken_came e = cc

        by : (b : Bool) → Has (if b then Taken o k ∷ share w n before else share w n before) (Came g.0) → Has (share w n before) (Came g.0)
        by true (inl e) = absurd (taken_came e)
        by true (inr known) = known
        by false known = known

    -- the whole history
    pub all_holds : IsHistory w (share w n events)
    all_holds = holds Shows s setting planned events dispatched coming r n w of_plan [] events refl

    -- a job that came back is in it
    pub came_in_all : (o : Op) (k : ℕ) (x : Dispatched) (a : At n w of_plan o k x) (back : IsBack Shows planned a.later (Sent n o k a.lane ∷ a.before) x) → Has (share w n events) (Came back.carried)
    came_in_all o k x a back = share_came w n events back.lane back.carried
        (subst (λ (z : Events). Has z (Back back.lane back.carried)) (sym (back_at o k x a back)) (has_middle back.newer (Back back.lane back.carried) (back.between ++ Sent n o k a.lane ∷ a.before)))
        (its_task o k x a back)

    pub sent_as : (o : Op) (k : ℕ) (x : Dispatched) (a : At n w of_plan o k x) (back : IsBack Shows planned a.later (Sent n o k a.lane ∷ a.before) x) → sent back.carried ≡ act.Send o k
    sent_as o k x a back = ap (λ (j : JobId). act.Send j.op j.number) (back.of_job ∙ a.job_is)

    -- what came before a place came back
    pub back_of : (o : Op) (k : ℕ) (x : Dispatched) (a : At n w of_plan o k x) (place : ℕ) → IsBefore x.dispatch.came_at place → IsBack Shows planned a.later (Sent n o k a.lane ∷ a.before) x
    back_of o k x a place less = elim a.comes [
      | inl none ↦ absurd (subst (λ (c : Option ℕ). IsBefore c place) none.0 less)
      | inr back ↦ back
    ]

    pub given_at_is : (o : Op) (k : ℕ) (x : Dispatched) (a : At n w of_plan o k x)
        → IsGivenAt (share w n events) (since w n a.later (Sent n o k a.lane ∷ a.before)) (with_taken w o k (share w n a.before)) o k
    given_at_is o k x a = ap (share w n) a.is ∙ share_since Shows s setting planned events dispatched coming r n w of_plan o k a.later a.before a.lane

    -- ---- an upload that was created

    pub upload_ends : (piece : HasPiece w) (x : Dispatched) (known : Contains dispatched x) (id : List ℕ) (end : ℕ) → x.dispatch.job ≡ job_of n op.Create 0
        → IsBefore x.dispatch.came_at end → HasReply Shows x (last_of x.dispatch.attempts) (reply.Created id)
        → ((c : Dispatched) → Contains dispatched c → IsBefore c.dispatch.came_at end)
        → gained_before Shows dispatched end (job_of n op.Complete 0) reply.Completed ⊎ ((a : Dispatched) × Contains dispatched a × (a.dispatch.job ≡ job_of n op.Abort 0))
    upload_ends piece x known id end job less shown all =
        let a = at op.Create 0 x known job in
        let back = back_of op.Create 0 x a end less in
        let gained = shown_gained op.Create 0 x a back (reply.Created id) shown in
        let ended = subst (λ (e : Ending). IsEnded e back.carried.job.id.op back.carried.job.part back.carried.job.cell back.carried.tries) gained.1 (is_ended op.Create 0 x a back) in
        let created = created_is gained.0 (subst (λ (o : Op). IsReplyTo o gained.0) (ap (λ (j : JobId). j.op) (back.of_job ∙ a.job_is)) ended.1) in
        let upload = upload_named (share w n events) back.carried created.0 (came_in_all op.Create 0 x a back)
        (subst (λ (z : Act). is_act (act.Send op.Create 0) z ≡ true) (sym (sent_as op.Create 0 x a back)) (act_itself op.Create 0)) (gained.1 ∙ ap ending.Gained created.1) in
        let sent_there = contains_of events (Sent n op.Create 0 a.lane) (subst (λ (z : Events). Has z (Sent n op.Create 0 a.lane)) (sym a.is) (has_middle a.later (Sent n op.Create 0 a.lane) a.before)) in
        by (created_is_ended w (share w n events) piece all_holds (r.ended n 0 a.lane w op.Create of_plan sent_there) upload)
      where
        by : ((carried : SeenCarried) × Contains (share w n events) (Came carried) × (sent carried ≡ act.Send op.Complete 0) × (carried.ending ≡ ending.Gained reply.Completed))
            ⊎ IsGiven (share w n events) op.Abort 0
            → gained_before Shows dispatched end (job_of n op.Complete 0) reply.Completed ⊎ ((a : Dispatched) × Contains dispatched a × (a.dispatch.job ≡ job_of n op.Abort 0))
        by (inl came) =
            let back = share_back w n events came.0 (has (share w n events) (Came came.0) came.1) in
            let split = split_of events (Back back.0 came.0) back.1 in
            let return = return_of split.front split.back back.0 came.0 split.is back.2 in
            let is = sends op.Complete 0 came.0 (subst (λ (z : Act). is_act (act.Send op.Complete 0) z ≡ true) (sym came.2) (act_itself op.Complete 0)) in
            inl (
              return.x,
              return.known,
              return.a.job_is ∙ job_is (job_of n came.0.job.id.op came.0.job.id.number) (job_of n op.Complete 0) refl is.0 is.1,
              all return.x return.known,
              gained_shown came.0.job.id.op came.0.job.id.number return.x return.a return.back reply.Completed (subst (λ (c : SeenCarried). c.ending ≡ ending.Gained reply.Completed) (sym return.same) came.3),
            )
        by (inr given) =
            let found = share_gave w n s events op.Abort 0 r.run (has (share w n events) (Gave (act.Send op.Abort 0)) given) in
            let split = split_of events (Sent n op.Abort 0 found.0) found.1 in
            let abort = r.sent.each_sent split.front split.back n 0 found.0 op.Abort split.is in
            inr (abort.0, abort.1, abort.2)

    pub never_completed : (x y : Dispatched) (end : ℕ) → Contains dispatched x → x.dispatch.job ≡ job_of n op.Abort 0 → Contains dispatched y → y.dispatch.job ≡ job_of n op.Complete 0
        → IsBefore y.dispatch.came_at end → HasReply Shows y (last_of y.dispatch.attempts) reply.Completed → ⊥
    never_completed x y end known job known_y job_y less shown =
        let a = at op.Abort 0 x known job in
        let b = at op.Complete 0 y known_y job_y in
        let back = back_of op.Complete 0 y b end less in
        let gained = shown_gained op.Complete 0 y b back reply.Completed shown in
        aborted_is_not_completed w (share w n events) 0 all_holds
        (contains_of (share w n events) (Gave (act.Send op.Abort 0)) (subst (λ (h : History). Has h (Gave (act.Send op.Abort 0))) (sym (given_at_is op.Abort 0 x a))
        (has_middle (since w n a.later (Sent n op.Abort 0 a.lane ∷ a.before)) (Gave (act.Send op.Abort 0)) (with_taken w op.Abort 0 (share w n a.before)))))
        back.carried gained.0 (contains_of (share w n events) (Came back.carried) (came_in_all op.Complete 0 y b back)) (sent_as op.Complete 0 y b back) gained.1

    -- ---- the source of a move

    pub decided_before : (piece : HasPiece w) (k : ℕ) (x : Dispatched) → Contains dispatched x → x.dispatch.job ≡ job_of n op.Delete k → w.of_kind ≢ kind.RemoveObject
        → IsDecidedBy w.of_kind w.small n w.count (gained_before Shows dispatched x.dispatch.given_at)
    decided_before piece k x known job moved =
        let a = at op.Delete k x known job in
        let decided = sources_go_after_success w (share w n events) (since w n a.later (Sent n op.Delete k a.lane ∷ a.before)) (with_taken w op.Delete k (share w n a.before)) n k
        piece all_holds (of_its_task events) moved (given_at_is op.Delete k x a) in
        decided_grows (gained_in (with_taken w op.Delete k (share w n a.before))) (gained_before Shows dispatched x.dispatch.given_at)
        (λ j said g. subst (λ (z : ℕ). gained_before Shows dispatched z j said) (sym a.given_at)
        (success_shown (a.later ++ Sent n op.Delete k a.lane ∷ []) a.before j said (a.is ∙ sym (append_assoc a.later (Sent n op.Delete k a.lane ∷ []) a.before)) (ahead_gained op.Delete k a.before j said g)))
        w.of_kind w.small n w.count decided

  -- ---- the clauses

  -- the work of the task of a dispatch
  pub record HasWork (n : ℕ) : Type 0 where
    pub w : Work
    pub of_plan : slice_get s.works n ≡ Some w
    pub task : Task
    pub is_task : slice_get setting.tasks n ≡ Some task
    pub is_work : IsWorkOf task setting.config setting.limits w
    pub piece : HasPiece w
    pub removes : task.kind ≡ kind.RemoveObject → task.moves ≡ false

  pub has_work : (x : Dispatched) (n : ℕ) → Contains dispatched x → x.dispatch.job.task ≡ Some n → HasWork n
  has_work x n known is =
      let sent = r.sent.sent x n known is in
      let found = work_of Shows s setting planned events dispatched coming r sent.later sent.before n x.dispatch.job.number sent.lane x.dispatch.job.op sent.is in
      let works = r.works.each n found.0 found.1 in
      record { w = found.0; of_plan = found.1; task = works.0; is_task = works.1; is_work = works.2; piece = works.3; removes = works.4 }

  pub its_id : (x : Dispatched) (n : ℕ) → x.dispatch.job.task ≡ Some n → x.dispatch.job ≡ job_of n x.dispatch.job.op x.dispatch.job.number
  its_id x n is = job_is x.dispatch.job (job_of n x.dispatch.job.op x.dispatch.job.number) is refl refl

  pub task_of : (x : Dispatched) → IsSome x.dispatch.job.task → (n : ℕ) × (x.dispatch.job.task ≡ Some n)
  task_of x some = by (x.dispatch.job.task) refl some
    where
      by : (t : Option ℕ) → x.dispatch.job.task ≡ t → is_some t ≡ true → (n : ℕ) × (x.dispatch.job.task ≡ Some n)
      by None e f = no f
      by (Some n) e f = (n, e)

  pub all_ask : (c : Dispatched) (n : ℕ) → Contains dispatched c → c.dispatch.job.task ≡ Some n
      → (task : Task) × (piece : ℕ) × (count : ℕ) × (slice_get setting.tasks n ≡ Some task)
      × HasPieces setting.config setting.limits task.kind task.size piece count × (c.size ≡ task.size)
      × (c.limit ≡ limit_of task.size piece c.dispatch.job.number c.ask)
      × IsTaskAsk (gained_before Shows dispatched c.dispatch.given_at) task
      (record { number = n; bytes = source_bytes setting.held task.source; piece = piece; count = count })
      task.kind (is_small setting task) c.dispatch.job.op c.dispatch.job.number c.ask c.body
  all_ask c n known is =
      let its = has_work c n known is in
      let sent = r.sent.sent c n known is in
      let asked = r.asked c n sent.lane its.task its.w sent.later sent.before known its.is_task its.of_plan sent.is sent.given_at in
      let up_to : events ≡ (sent.later ++ Sent n c.dispatch.job.op c.dispatch.job.number sent.lane ∷ asked.since) ++ asked.then =
      sent.is ∙ ap (λ (z : Events). sent.later ++ Sent n c.dispatch.job.op c.dispatch.job.number sent.lane ∷ z) asked.is
      ∙ sym (append_assoc sent.later (Sent n c.dispatch.job.op c.dispatch.job.number sent.lane ∷ asked.since) asked.then) in
      let row = asks_are_of_schedule its.task setting.config setting.limits its.w (share its.w n asked.then) n (source_bytes setting.held its.task.source) c.dispatch.job.op c.dispatch.job.number asked.for c.ask c.body
      its.is_work (holds Shows s setting planned events dispatched coming r n its.w its.of_plan (sent.later ++ Sent n c.dispatch.job.op c.dispatch.job.number sent.lane ∷ asked.since) asked.then up_to)
      (of_its_task n its.w its.of_plan asked.then) asked.ready asked.step (subst (λ (j : JobId). IsAskOf j asked.for c.ask) (its_id c n is) asked.asks) asked.body in
      let grown = row_grows (gained_in (share its.w n asked.then)) (gained_before Shows dispatched c.dispatch.given_at)
      (λ job said g. later_gained (place_after planned asked.then) c.dispatch.given_at job said (no_later sent.before asked.since asked.then asked.is c.dispatch.given_at sent.given_at)
      (success_shown n its.w its.of_plan (sent.later ++ Sent n c.dispatch.job.op c.dispatch.job.number sent.lane ∷ asked.since) asked.then job said up_to g))
      its.task (known_of n its.w (source_bytes setting.held its.task.source)) c.dispatch.job.number c.ask c.body its.task.kind its.w.small c.dispatch.job.op row in (
        its.task,
        its.w.piece,
        its.w.count,
        its.is_task,
        its.is_work.pieces,
        asked.size,
        asked.limit,
        subst (λ (b : Bool). IsTaskAsk (gained_before Shows dispatched c.dispatch.given_at) its.task (known_of n its.w (source_bytes setting.held its.task.source)) its.task.kind b c.dispatch.job.op c.dispatch.job.number c.ask c.body)
            its.is_work.small_is grown,
      )
    where
      no_later : (before front then_ : Events) → before ≡ front ++ then_ → (g : ℕ) → g ≡ place_after planned before → place_after planned then_ ≤ g
      no_later before front then_ e g f = let more = fills front then_ in let same = ap filled e in omega arith

      is_before : (c : Option ℕ) (u v : ℕ) → u ≤ v → IsBefore c u → IsBefore c v
      is_before None u v l b = absurd b
      is_before (Some p) u v l b = omega arith

      later_gained : (u v : ℕ) (job : JobId) (said : Reply) → u ≤ v → gained_before Shows dispatched u job said → gained_before Shows dispatched v job said
      later_gained u v job said l g = (g.0, g.1, g.2, is_before g.0.dispatch.came_at u v l g.3, g.4)

  pub in_turn : (i j : ℕ) (a b : Dispatched) → i < j → slice_get dispatched i ≡ Some a → slice_get dispatched j ≡ Some b → a.dispatch.given_at < b.dispatch.given_at
  in_turn i j a b l e f = pair_of (λ (x y : Dispatched). x.dispatch.given_at < y.dispatch.given_at) dispatched r.sent.in_order i j a b l e f

  known_at : (i : ℕ) (a : Dispatched) → slice_get dispatched i ≡ Some a → Contains dispatched a
  known_at i a e = contains_of dispatched a (has_at dispatched i a e)

  pub none_thrice : (a b c : Dispatched) (i j k : ℕ) → i < j → j < k → slice_get dispatched i ≡ Some a → slice_get dispatched j ≡ Some b → slice_get dispatched k ≡ Some c
      → IsSome a.dispatch.job.task → a.dispatch.job ≡ b.dispatch.job → b.dispatch.job ≡ c.dispatch.job → ⊥
  none_thrice a b c i j k l m at_i at_j at_k some same next =
      let of = task_of a some in
      let its = has_work a of.0 (known_at i a at_i) of.1 in
      let o = a.dispatch.job.op in
      let number = a.dispatch.job.number in
      let job = its_id a of.0 of.1 in
      no_third_sent Shows s setting planned events dispatched coming r of.0 its.w its.of_plan o number a b c
      (at of.0 its.w its.of_plan o number a (known_at i a at_i) job)
      (at of.0 its.w its.of_plan o number b (known_at j b at_j) (sym same ∙ job))
      (at of.0 its.w its.of_plan o number c (known_at k c at_k) (sym next ∙ sym same ∙ job))
      (in_turn i j a b l at_i at_j) (in_turn j k b c m at_j at_k)

  pub aborts_last : (a c : Dispatched) → Contains dispatched a → Contains dispatched c → IsSome a.dispatch.job.task → a.dispatch.job.op ≡ op.Abort
      → c.dispatch.job.task ≡ a.dispatch.job.task → c.dispatch.job.op ≢ op.Abort → IsBefore c.dispatch.came_at a.dispatch.given_at
  aborts_last a c known_a known_c some is same apart =
      let of = task_of a some in
      let its = has_work a of.0 known_a of.1 in
      let job = job_is a.dispatch.job (job_of of.0 op.Abort a.dispatch.job.number) of.1 is refl in
      let found = came_before_abort Shows s setting planned events dispatched coming r of.0 its.w its.of_plan c.dispatch.job.op a.dispatch.job.number c.dispatch.job.number a c
      (at of.0 its.w its.of_plan op.Abort a.dispatch.job.number a known_a job)
      (at of.0 its.w its.of_plan c.dispatch.job.op c.dispatch.job.number c known_c (its_id c of.0 (same ∙ of.1))) apart in
      subst (λ (z : Option ℕ). IsBefore z a.dispatch.given_at) (sym found.1) found.2

  pub uploads_end : (n : ℕ) (id : List ℕ) (end : ℕ) → IsUpload (gained_before Shows dispatched end) n id → ((c : Dispatched) → Contains dispatched c → IsBefore c.dispatch.came_at end)
      → gained_before Shows dispatched end (job_of n op.Complete 0) reply.Completed ⊎ ((a : Dispatched) × Contains dispatched a × (a.dispatch.job ≡ job_of n op.Abort 0))
  uploads_end n id end created all =
      let its = has_work created.0 n created.1 (ap (λ (j : JobId). j.task) created.2) in
      upload_ends n its.w its.of_plan its.piece created.0 created.1 id end created.2 created.3 created.4 all

  pub completed_stay : (n : ℕ) (end : ℕ) (a : Dispatched) → Contains dispatched a → a.dispatch.job ≡ job_of n op.Abort 0 → ¬ (gained_before Shows dispatched end (job_of n op.Complete 0) reply.Completed)
  completed_stay n end a known is completed =
      let its = has_work a n known (ap (λ (j : JobId). j.task) is) in
      never_completed n its.w its.of_plan a completed.0 end known is completed.1 completed.2 completed.3 completed.4

  pub move_last : (c : Dispatched) (n : ℕ) (task : Task) → Contains dispatched c → c.dispatch.job.task ≡ Some n → slice_get setting.tasks n ≡ Some task → task.moves ≡ true → c.dispatch.job.op ≡ op.Delete
      → IsDecided setting task n (gained_before Shows dispatched c.dispatch.given_at)
  move_last c n task known of is_task moves is piece count pieces =
      let its = has_work c n known of in
      let same : its.task ≡ task = some_is its.task task (sym its.is_task ∙ is_task) in
      let work = subst (λ (t : Task). IsWorkOf t setting.config setting.limits its.w) same its.is_work in
      let removes = subst (λ (t : Task). t.kind ≡ kind.RemoveObject → t.moves ≡ false) same its.removes in
      let counted = pieces_are_one setting.config setting.limits task.kind task.size piece its.w.piece count its.w.count pieces work.pieces in
      let decided = decided_before n its.w its.of_plan its.piece c.dispatch.job.number c known (job_is c.dispatch.job (job_of n op.Delete c.dispatch.job.number) of is refl)
      (λ e. true_is_false (sym moves ∙ removes (sym work.kind_is ∙ e))) in
      subst (λ (k : Kind). IsDecidedBy k (is_small setting task) n count (gained_before Shows dispatched c.dispatch.given_at)) work.kind_is
      (subst (λ (b : Bool). IsDecidedBy its.w.of_kind b n count (gained_before Shows dispatched c.dispatch.given_at)) work.small_is
      (subst (λ (m : ℕ). IsDecidedBy its.w.of_kind its.w.small n m (gained_before Shows dispatched c.dispatch.given_at)) (sym counted.1) decided))
