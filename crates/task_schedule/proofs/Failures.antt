-- The clauses of the schedule on jobs that failed, or are given again.
use Rattle.std.proofs.Common.{◌≡◌, ◌≢◌, ◌∙◌, ◌||◌, ◌⊎◌, ◌++◌, ◌<◌, ℕ, Bool, true, false, List, [], ◌∷◌, Option, Some, None, Contains, AllPairs, refl, sym, subst, ap, inl, inr, arith, get_or, slice_get}
use Rattle.std.proofs.lemmas.Bool.{ltb-true}
use Rattle.std.proofs.lemmas.Option.{slice_get-get_or}
use Rattle.std.specs.Prelude.{is_some, nat_lt, IsSome, if◌then◌else◌}
use Rattle.run_promise.specs.Dispatches.{IsSuccessLast}
use Rattle.job_terms.specs.Dispatches.{Attempt, Dispatched, last_of}
use Rattle.run_promise.specs.Schedule.{IsBefore, IsBeforeAny, IsFailed, IsStopped, Setting}
use Rattle.s3_model.specs.Talks.{Talk}
use Rattle.s3_model.specs.declared.answers.Class.{Class}
use Rattle.s3_model.specs.declared.outcomes.Cause.{Cause}
use Rattle.s3_model.specs.declared.outcomes.JobId.{JobId}
use Rattle.s3_model.specs.declared.outcomes.Reason.{Reason}
use Rattle.s3_model.specs.declared.requests.Ask.{Ask}
use Rattle.s3_model.specs.declared.requests.Op.{Op}
use Rattle.s3_model.specs.declared.requests.Op.TheVariants as op
use Rattle.task_acts.specs.declared.work.Work.{Work}
use Rattle.task_acts.specs.Failures.{carried_cause, first_failure, first_reason, is_cut_short, is_stopped}
use Rattle.task_acts.specs.Histories.{Came, History, sent}
use Rattle.task_acts.specs.Stages.{stage}
use Rattle.task_acts.specs.declared.acts.Stage.TheVariants as at
use Rattle.shared_lemmas.proofs.Clashes.{false_true}
use Rattle.shared_lemmas.proofs.Lists.{tail_is}
use Rattle.shared_lemmas.proofs.Members.{Has, contains_of, found_or_not, has-append_right, has_at, has_middle}
use Rattle.task_progress.proofs.Endings.{no, skipped}
use Rattle.manager_moves.specs.Runs.{Back, Events, Sent, Shared, Stopped, share}
use Rattle.task_schedule.specs.Journals.{IsBack, IsFirstCancel, IsRunOf, KeepsSchedule, SharesKeepSchedule, ShowOne, place_after}
use Rattle.task_schedule.proofs.Cancels.{after_cancel}
use Rattle.task_schedule.proofs.Cutting.{cut_first, cut_no_abort, cut_unfinished}
use Rattle.task_schedule.proofs.Deciders.{came_failed}
use Rattle.task_schedule.proofs.EventStops.{ahead_goes_on}
use Rattle.task_schedule.proofs.Failing.{in_dispatched, is_cut_in}
use Rattle.task_schedule.proofs.Givings.{cut_gained}
use Rattle.task_schedule.proofs.Joined.{aborts_last, all_ask, all_holds, back_at, back_of, completed_stay, has_work, in_turn, is_ended, its_id, its_last, its_task, move_last, none_thrice, task_of, uploads_end}
use Rattle.task_schedule.proofs.Marks.{gained_by}
use Rattle.task_schedule.proofs.Places.{ends, entry_fills, filled, fills, happened_before}
use Rattle.task_schedule.proofs.SentJobs.{IsAt, IsTwice, at_of, stopped_sends, twice}
use Rattle.task_schedule.proofs.Shares.{back_is, share_stopped, since, since_is}
use Rattle.task_schedule.proofs.Standing.{stays_stopped}
use Rattle.task_schedule.proofs.Stopping.{failure_stays, failure_there, reason_there}
use Rattle.task_schedule.proofs.Wellness.{well}
use Rattle.task_schedule.proofs.EventStops.{cancel_stops}

pub all_pairs : {X : Type 0} (R : X → X → Type 0) (xs : List X) → ((i j : ℕ) (a b : X) → i < j → slice_get xs i ≡ Some a → slice_get xs j ≡ Some b → R a b) → AllPairs R xs
all_pairs R xs each = λ i j d less inside. each i j (get_or xs i d) (get_or xs j d) less (slice_get-get_or xs i d (omega arith)) (slice_get-get_or xs j d inside)

module _ (Shows : Ask → ℕ → Talk → Class → List ℕ → Type 0) (s : Shared) (setting : Setting) (planned : ℕ) (events : Events) (dispatched coming : List Dispatched)
    (r : IsRunOf Shows s setting planned events dispatched coming) (one : ShowOne Shows) where
  module _ (n : ℕ) (w : Work) (of_plan : slice_get s.works n ≡ Some w) where
    abbrev At : Op → ℕ → Dispatched → Type 0
    At o k x = IsAt Shows s setting planned events dispatched coming r n w of_plan o k x

    module _ (o : Op) (k : ℕ) (f : Dispatched) (known : Contains dispatched f) (a : At o k f) (back : IsBack Shows planned a.later (Sent n o k a.lane ∷ a.before) f)
        (failed : IsFailed Shows setting coming f) where
      abbrev rest : Events
      rest = back.between ++ Sent n o k a.lane ∷ a.before

      came_is : share w n (Back back.lane back.carried ∷ rest) ≡ Came back.carried ∷ share w n rest
      came_is = back_is w n back.lane back.carried rest (its_task Shows s setting planned events dispatched coming r n w of_plan o k f a back)

      -- what was cut short after a cancel is cut
      no_cancel : is_cut_short w back.carried ≡ true → is_some (first_reason (share w n rest)) ≡ true → ⊥
      no_cancel cut some = failed.3 (inr (
        (cut_first Shows s setting planned events dispatched coming r one n w of_plan o k f a back cut).not_second,
        λ e. cut_no_abort Shows s setting planned events dispatched coming r one n w of_plan o k f a back cut (sym (ap (λ (j : JobId). j.op) a.job_is) ∙ e),
        subst (λ (t : Option ℕ). is_some t ≡ true) (sym task_is) refl,
        cut_unfinished Shows s setting planned events dispatched coming r one n w of_plan o k f a back cut,
        inl (subst (λ (t : Option ℕ). IsStopped setting t) (sym task_is) (first (is_some setting.cancelled_at) (setting.file_failed n) cancelled)),
      ))
        where
          task_is : f.dispatch.job.task ≡ Some n
          task_is = ap (λ (j : JobId). j.task) a.job_is

          first : (b c : Bool) → b ≡ true → (b || c) ≡ true
          first true c e = refl
          first false c e = no e

          cancelled : is_some setting.cancelled_at ≡ true
          cancelled = by (found_or_not (first_reason (share w n rest)))
            where
              by : (first_reason (share w n rest) ≡ None) ⊎ ((reason : Reason) × (first_reason (share w n rest) ≡ Some reason)) → is_some setting.cancelled_at ≡ true
              by (inl none) = no (sym (ap (λ (x : Option Reason). is_some x) none) ∙ some)
              by (inr reason) = r.cancelled reason.0 (contains_of events (Stopped reason.0)
                  (subst (λ (z : Events). Has z (Stopped reason.0)) (sym (back_at Shows s setting planned events dispatched coming r n w of_plan o k f a back))
                  (has-append_right back.newer (Back back.lane back.carried ∷ rest) (Stopped reason.0) (inr (share_stopped w n rest reason.0 (reason_there (share w n rest) reason.0 reason.1))))))

      -- a job that failed is a failure of its task, or came after one
      pub failed_fails : is_some (first_failure w (share w n (Back back.lane back.carried ∷ rest))) ≡ true
      failed_fails = subst (λ (h : History). is_some (first_failure w h) ≡ true) (sym came_is)
          (by (is_some (carried_cause w back.carried)) refl (is_cut_short w back.carried) refl (is_some (first_failure w (share w n rest))) refl (is_some (first_reason (share w n rest))) refl)
        where
          by : (cause : Bool) → is_some (carried_cause w back.carried) ≡ cause → (cut : Bool) → is_cut_short w back.carried ≡ cut → (fails : Bool) → is_some (first_failure w (share w n rest)) ≡ fails
              → (stops : Bool) → is_some (first_reason (share w n rest)) ≡ stops → is_some (first_failure w (Came back.carried ∷ share w n rest)) ≡ true
          by cause e cut c true had stops g = failure_stays w (Came back.carried ∷ []) (share w n rest) had
          by false e cut c false had stops g = absurd (failed.4 (well Shows s setting planned events dispatched coming r n w of_plan o k f known a back one e))
          by true e true c false had true g = absurd (no_cancel c g)
          by true e true c false had false g = absurd (failed.3 (is_cut_in Shows s setting planned events dispatched coming r one n w of_plan o k f a back c (ap (λ (b : Bool). b || is_some (first_reason (share w n rest))) had ∙ g) failed.0 failed.1 failed.2))
          by true e false c false had stops g = failure_there w (Came back.carried ∷ share w n rest) (Came back.carried) (inl refl)
              (ap (λ (x : Option Cause). is_some x) (skipped (is_cut_short w back.carried) None (carried_cause w back.carried) c) ∙ e)

      -- its act has failed
      pub failed_stage : stage w (share w n events) (sent back.carried) ≡ at.Failed
      failed_stage = came_failed w (share w n events) (since w n back.newer (Back back.lane back.carried ∷ rest)) (share w n rest) back.carried
          (all_holds Shows s setting planned events dispatched coming r n w of_plan) whole
          (by (is_cut_short w back.carried) refl (is_stopped w (share w n rest)) refl (is_some (carried_cause w back.carried)) refl)
        where
          whole : share w n events ≡ since w n back.newer (Back back.lane back.carried ∷ rest) ++ Came back.carried ∷ share w n rest
          whole = ap (share w n) (back_at Shows s setting planned events dispatched coming r n w of_plan o k f a back) ∙ since_is w n back.newer (Back back.lane back.carried ∷ rest)
              ∙ ap (λ (h : History). since w n back.newer (Back back.lane back.carried ∷ rest) ++ h) came_is

          by : (cut : Bool) → is_cut_short w back.carried ≡ cut → (halted : Bool) → is_stopped w (share w n rest) ≡ halted → (cause : Bool) → is_some (carried_cause w back.carried) ≡ cause
              → (if is_cut_short w back.carried then (if is_stopped w (share w n rest) then at.Failed else at.Kept) else if is_some (carried_cause w back.carried) then at.Failed else at.Fine) ≡ at.Failed
          by true c false h cause e = absurd (failed.3 (is_cut_in Shows s setting planned events dispatched coming r one n w of_plan o k f a back c h failed.0 failed.1 failed.2))
          by true c true h cause e = ap (λ (b : Bool). if b then (if is_stopped w (share w n rest) then at.Failed else at.Kept) else if is_some (carried_cause w back.carried) then at.Failed else at.Fine) c
              ∙ ap (λ (b : Bool). if b then at.Failed else at.Kept) h
          by false c halted h true e = ap (λ (b : Bool). if b then (if is_stopped w (share w n rest) then at.Failed else at.Kept) else if is_some (carried_cause w back.carried) then at.Failed else at.Fine) c
              ∙ ap (λ (b : Bool). if b then at.Failed else at.Fine) e
          by false c halted h false e = absurd (failed.4 (well Shows s setting planned events dispatched coming r n w of_plan o k f known a back one e))

      -- so it stops its task
      pub failed_stops : is_stopped w (share w n (Back back.lane back.carried ∷ rest)) ≡ true
      failed_stops = ap (λ (b : Bool). b || is_some (first_reason (share w n (Back back.lane back.carried ∷ rest)))) failed_fails

      -- so it is stopped as a later job is sent
      pub later_stopped : (p : Op) (m : ℕ) (y : Dispatched) (b : At p m y) → IsBefore f.dispatch.came_at y.dispatch.given_at → is_stopped w (share w n b.before) ≡ true
      later_stopped p m y b less =
          let found = happened_before back.newer rest b.later b.before (Back back.lane back.carried) (Sent n p m b.lane)
          (sym (back_at Shows s setting planned events dispatched coming r n w of_plan o k f a back) ∙ b.is)
          (by b.given_at (subst (λ (c : Option ℕ). IsBefore c y.dispatch.given_at) back.came_at less)) in
          subst (λ (z : Events). is_stopped w (share w n z) ≡ true) (sym found.1)
          (subst (λ (h : History). is_stopped w h ≡ true) (sym (since_is w n found.0 (Back back.lane back.carried ∷ rest)))
          (stays_stopped w (since w n found.0 (Back back.lane back.carried ∷ rest)) (share w n (Back back.lane back.carried ∷ rest)) failed_stops))
        where
          by : y.dispatch.given_at ≡ place_after planned b.before → place_after planned rest < y.dispatch.given_at → filled rest < filled b.before
          by e l = omega arith

    -- ---- a job that is given again

    module _ (o : Op) (k : ℕ) (x y : Dispatched) (known : Contains dispatched x) (a : At o k x) (b : At o k y) (less : x.dispatch.given_at < y.dispatch.given_at) where
      pair : IsTwice Shows s setting planned events dispatched coming r n w of_plan o k x y a b less
      pair = twice Shows s setting planned events dispatched coming r n w of_plan o k x y a b less

      pub comes_first : IsBefore x.dispatch.came_at y.dispatch.given_at
      comes_first = subst (λ (c : Option ℕ). IsBefore c y.dispatch.given_at) (sym pair.came_at) pair.ahead_of

      pub no_success : ¬ (IsSuccessLast (last_of x.dispatch.attempts))
      no_success success = by (last_of x.dispatch.attempts) refl success
        where
          by : (last : Option Attempt) → last_of x.dispatch.attempts ≡ last → IsSuccessLast last → ⊥
          by None e success = success
          by (Some attempt) e success =
              let back = pair.came.back in
              let gained = gained_by back.carried back.carried.ending (is_ended Shows s setting planned events dispatched coming r n w of_plan o k x a back)
              (its_last Shows s setting planned events dispatched coming r n w of_plan o k x a back attempt e ∙ ap Some success) in
              false_true (cut_gained w back.carried gained.0 gained.1 pair.cut)

      pub still_going : is_stopped w (share w n b.before) ≡ false
      still_going = sym (ahead_goes_on w o k (share w n b.before)) ∙ pair.going

      -- before the run was cancelled
      pub before_cancel : IsBeforeAny (Some y.dispatch.given_at) setting.cancelled_at
      before_cancel = by setting.cancelled_at refl
        where
          cancelled : (r1 : Events) (before : Events) (reason : Reason) → b.before ≡ r1 ++ Stopped reason ∷ before → ⊥
          cancelled r1 before reason e =
              false_true (sym still_going ∙ ap (λ (z : Events). is_stopped w (share w n z)) e ∙ ap (is_stopped w) (since_is w n r1 (Stopped reason ∷ before))
              ∙ stays_stopped w (since w n r1 (Stopped reason ∷ before)) (share w n (Stopped reason ∷ before)) (cancel_stops w reason (share w n before)))

          no_sent : (reason : Reason) (lane : ℕ) (us vs : Events) → Stopped reason ∷ us ≡ Sent n o k lane ∷ vs → ⊥
          no_sent reason lane us vs e = cc

          after : (place : ℕ) (before : Events) (r1 : Events) → place ≡ place_after planned before → y.dispatch.given_at ≡ place_after planned b.before → before ≡ r1 ++ Sent n o k b.lane ∷ b.before → y.dispatch.given_at < place
          after place before r1 e f g =
              let same = ap filled g in
              let more = fills r1 (Sent n o k b.lane ∷ b.before) in
              let entry = entry_fills (Sent n o k b.lane) b.before tt in
              omega arith

          at_place : (place : ℕ) → setting.cancelled_at ≡ Some place → y.dispatch.given_at < place
          at_place place e = which (ends cancel.later (Stopped cancel.reason ∷ found.0) b.later (Sent n o k b.lane ∷ b.before) (sym cancel.is ∙ b.is))
            where
              found : (before : Events) × IsFirstCancel events before × (place ≡ place_after planned before)
              found = r.cancelled_at place e

              cancel : IsFirstCancel events found.0
              cancel = found.1

              first : (r1 : Events) → Stopped cancel.reason ∷ found.0 ≡ r1 ++ Sent n o k b.lane ∷ b.before → y.dispatch.given_at < place
              first [] f = absurd (no_sent cancel.reason b.lane found.0 b.before f)
              first (z ∷ r1) f = after place found.0 r1 found.2 b.given_at (tail_is (Stopped cancel.reason) z found.0 (r1 ++ Sent n o k b.lane ∷ b.before) f)

              second : (r1 : Events) → Sent n o k b.lane ∷ b.before ≡ r1 ++ Stopped cancel.reason ∷ found.0 → y.dispatch.given_at < place
              second [] f = absurd (no_sent cancel.reason b.lane found.0 b.before (sym f))
              second (z ∷ r1) f = absurd (cancelled r1 found.0 cancel.reason (tail_is (Sent n o k b.lane) z b.before (r1 ++ Stopped cancel.reason ∷ found.0) f))

              which : ((r1 : Events) × (Stopped cancel.reason ∷ found.0 ≡ r1 ++ Sent n o k b.lane ∷ b.before)) ⊎ ((r1 : Events) × (Sent n o k b.lane ∷ b.before ≡ r1 ++ Stopped cancel.reason ∷ found.0)) → y.dispatch.given_at < place
              which (inl f) = first f.0 f.1
              which (inr f) = second f.0 f.1

          by : (c : Option ℕ) → setting.cancelled_at ≡ c → IsBeforeAny (Some y.dispatch.given_at) c
          by None e = tt
          by (Some place) e = at_place place e

      -- and before any job of its task failed
      pub before_failure : (f : Dispatched) → IsFailed Shows setting coming f → f.dispatch.job.task ≡ Some n → IsBeforeAny x.dispatch.came_at f.dispatch.came_at
      before_failure f failed task = by f.dispatch.came_at refl
        where
          f_known : Contains dispatched f
          f_known = in_dispatched Shows s setting planned events dispatched coming r one f (subst (λ (z : List Dispatched). Contains z f) (sym failed.2) (contains_of (failed.0 ++ f ∷ failed.1) f (has_middle failed.0 f failed.1)))

          c : At f.dispatch.job.op f.dispatch.job.number f
          c = at_of Shows s setting planned events dispatched coming r n w of_plan f.dispatch.job.op f.dispatch.job.number f f_known (its_id Shows s setting planned events dispatched coming r f n task)

          not_before : (q : ℕ) → f.dispatch.came_at ≡ Some q → q < y.dispatch.given_at → ⊥
          not_before q e l =
              let came : IsBefore f.dispatch.came_at y.dispatch.given_at = subst (λ (z : Option ℕ). IsBefore z y.dispatch.given_at) (sym e) l in
              let back = back_of Shows s setting planned events dispatched coming r n w of_plan f.dispatch.job.op f.dispatch.job.number f c y.dispatch.given_at came in
              false_true (sym still_going ∙ later_stopped f.dispatch.job.op f.dispatch.job.number f f_known c back failed o k y b came)

          place_before : (q : ℕ) → f.dispatch.came_at ≡ Some q → (i : Bool) → nat_lt q y.dispatch.given_at ≡ i → pair.place < q
          place_before q e true i = absurd (not_before q e (ltb-true q y.dispatch.given_at i))
          place_before q e false i = far q y.dispatch.given_at pair.place i pair.ahead_of
            where
              far : (u v p : ℕ) → nat_lt u v ≡ false → p < v → p < u
              far u v p e l = grind arith

          by : (z : Option ℕ) → f.dispatch.came_at ≡ z → IsBeforeAny x.dispatch.came_at z
          by None e = tt
          by (Some q) e = subst (λ (z : Option ℕ). IsBeforeAny z (Some q)) (sym pair.came_at) (place_before q e (nat_lt q y.dispatch.given_at) refl)

      pub again_no_abort : o ≢ op.Abort
      again_no_abort = pair.no_abort

  -- ---- the clauses

  known_at : (i : ℕ) (x : Dispatched) → slice_get dispatched i ≡ Some x → Contains dispatched x
  known_at i x e = contains_of dispatched x (has_at dispatched i x e)

  abbrev GivenAgain : Dispatched → Dispatched → Type 0
  GivenAgain a b = IsSome a.dispatch.job.task → a.dispatch.job ≡ b.dispatch.job
      → IsBefore a.dispatch.came_at b.dispatch.given_at × ¬ (IsSuccessLast (last_of a.dispatch.attempts))
      × IsBeforeAny (Some b.dispatch.given_at) setting.cancelled_at
      × ((failed : Dispatched) → IsFailed Shows setting coming failed → failed.dispatch.job.task ≡ a.dispatch.job.task → IsBeforeAny a.dispatch.came_at failed.dispatch.came_at)
      × (a.dispatch.job.op ≢ op.Abort)

  one_pair : (i j : ℕ) (a b : Dispatched) → i < j → slice_get dispatched i ≡ Some a → slice_get dispatched j ≡ Some b → GivenAgain a b
  one_pair i j a b l at_i at_j some same =
      let of = task_of Shows s setting planned events dispatched coming r a some in
      let its = has_work Shows s setting planned events dispatched coming r a of.0 (known_at i a at_i) of.1 in
      let job = its_id Shows s setting planned events dispatched coming r a of.0 of.1 in
      let o = a.dispatch.job.op in
      let k = a.dispatch.job.number in
      let at_a = at_of Shows s setting planned events dispatched coming r of.0 its.w its.of_plan o k a (known_at i a at_i) job in
      let at_b = at_of Shows s setting planned events dispatched coming r of.0 its.w its.of_plan o k b (known_at j b at_j) (sym same ∙ job) in
      let less = in_turn Shows s setting planned events dispatched coming r i j a b l at_i at_j in (
        comes_first of.0 its.w its.of_plan o k a b (known_at i a at_i) at_a at_b less,
        no_success of.0 its.w its.of_plan o k a b (known_at i a at_i) at_a at_b less,
        before_cancel of.0 its.w its.of_plan o k a b (known_at i a at_i) at_a at_b less,
        λ failed is task. before_failure of.0 its.w its.of_plan o k a b (known_at i a at_i) at_a at_b less failed is (task ∙ of.1),
        again_no_abort of.0 its.w its.of_plan o k a b (known_at i a at_i) at_a at_b less,
      )

  after_failure : (failed c : Dispatched) → IsFailed Shows setting coming failed → IsSome failed.dispatch.job.task → Contains dispatched c → c.dispatch.job.task ≡ failed.dispatch.job.task
      → IsBefore failed.dispatch.came_at c.dispatch.given_at → c.dispatch.job.op ≡ op.Abort
  after_failure failed c is some known same less =
      let of = task_of Shows s setting planned events dispatched coming r failed some in
      let known_failed = in_dispatched Shows s setting planned events dispatched coming r one failed (subst (λ (z : List Dispatched). Contains z failed) (sym is.2) (contains_of (is.0 ++ failed ∷ is.1) failed (has_middle is.0 failed is.1))) in
      let its = has_work Shows s setting planned events dispatched coming r failed of.0 known_failed of.1 in
      let a = at_of Shows s setting planned events dispatched coming r of.0 its.w its.of_plan failed.dispatch.job.op failed.dispatch.job.number failed known_failed (its_id Shows s setting planned events dispatched coming r failed of.0 of.1) in
      let b = at_of Shows s setting planned events dispatched coming r of.0 its.w its.of_plan c.dispatch.job.op c.dispatch.job.number c known (its_id Shows s setting planned events dispatched coming r c of.0 (same ∙ of.1)) in
      let back = back_of Shows s setting planned events dispatched coming r of.0 its.w its.of_plan failed.dispatch.job.op failed.dispatch.job.number failed a c.dispatch.given_at less in
      let stopped = later_stopped of.0 its.w its.of_plan failed.dispatch.job.op failed.dispatch.job.number failed known_failed a back is c.dispatch.job.op c.dispatch.job.number c b less in
      stopped_sends Shows s setting planned events dispatched coming r of.0 its.w its.of_plan c.dispatch.job.op c.dispatch.job.number c b (ahead_goes_on its.w c.dispatch.job.op c.dispatch.job.number (share its.w of.0 b.before) ∙ stopped)

  pub keeps_schedule : KeepsSchedule Shows setting dispatched coming
  keeps_schedule = record {
    asks = all_ask Shows s setting planned events dispatched coming r;
    twice = all_pairs GivenAgain dispatched one_pair;
    no_third = none_thrice Shows s setting planned events dispatched coming r;
    stops = after_failure;
    cancels = after_cancel Shows s setting planned events dispatched coming r;
    abort_last = aborts_last Shows s setting planned events dispatched coming r;
    aborts = uploads_end Shows s setting planned events dispatched coming r;
    completed_stays = completed_stay Shows s setting planned events dispatched coming r;
    moves_last = move_last Shows s setting planned events dispatched coming r;
  }

pub shares_keep_schedule : (Shows : Ask → ℕ → Talk → Class → List ℕ → Type 0) → SharesKeepSchedule Shows
shares_keep_schedule Shows s setting planned events dispatched coming one r = keeps_schedule Shows s setting planned events dispatched coming r one
