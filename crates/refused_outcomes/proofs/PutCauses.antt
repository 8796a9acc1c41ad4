-- Of a small upload with two attempts the outcome with the cause of its last attempt alone is let through.
use Rattle.std.proofs.Common.{◌≡◌, ◌⊎◌, ◌≢◌, ◌++◌, ◌<◌, ℕ, zero, suc, false, List, [], ◌∷◌, Some, refl, sym, ap, subst, inl, inr, Contains, slice_get, arith}
use Rattle.std.specs.Prelude.{codes}
use Rattle.s3_model.specs.declared.answers.Class.{Class}
use Rattle.s3_model.specs.declared.answers.Class.TheVariants as class
use Rattle.s3_model.specs.declared.answers.Listed.{Listed}
use Rattle.s3_model.specs.declared.answers.Reply.{Reply}
use Rattle.s3_model.specs.declared.answers.Why.{Why}
use Rattle.s3_model.specs.declared.answers.Why.TheVariants as why
use Rattle.s3_model.specs.declared.outcomes.Cause.{Cause}
use Rattle.s3_model.specs.declared.outcomes.Cause.TheVariants as cause
use Rattle.s3_model.specs.declared.outcomes.Outcome.{Outcome}
use Rattle.s3_model.specs.declared.outcomes.Outcome.TheVariants as outcome
use Rattle.s3_model.specs.declared.requests.Ask.{Ask}
use Rattle.s3_model.specs.declared.requests.Op.{Op}
use Rattle.s3_model.specs.declared.requests.Op.TheVariants as op
use Rattle.s3_model.specs.declared.tries.Mark.{Mark}
use Rattle.s3_model.specs.declared.tries.Mark.TheVariants as mark
use Rattle.s3_model.specs.Talks.{Talk, Note, Ending, Failed, Closed, Moment, Pause, Began}
use Rattle.job_terms.specs.Dispatches.{Attempt, Dispatched, dispatches}
use Rattle.job_terms.specs.Attempts.{Numbered, in_first}
use Rattle.run_promise.specs.Carried.{IsCarried}
use Rattle.run_promise.specs.Dispatches.{IsCut, IsFailing}
use Rattle.run_promise.specs.Outcomes.{FailsFirstBy, HasDeciding, HasOutcome, IsFirstFailure, IsLastCause}
use Rattle.run_promise.specs.Schedule.{IsBefore, IsSchedule, IsStopped}
use Rattle.shared_lemmas.proofs.Clashes.{false_true as never}
use Rattle.promise_examples.specs.GivenAgain.{put_job}
use Rattle.promise_examples.specs.Lies.{lost_then_denied, lost_twice}
use Rattle.promise_examples.specs.Reading.{Reads, HasNoStatus, NeverFailed, signed_body}
use Rattle.promise_examples.specs.Refused.{lost_at, once, run, sent_at, setting, task}
use Rattle.promise_examples.specs.Runs.{Example}
use Rattle.promise_examples.proofs.Carrying as carrying
use Rattle.promise_examples.proofs.Concrete.{at, each, has, slot, Slots}
use Rattle.promise_examples.proofs.Noting as noting
use Rattle.promise_examples.proofs.Readings.{refusal_success, uncertain_success}
use Rattle.promise_examples.proofs.Shown.{made, of_shown, alone}
use Rattle.promise_examples.proofs.SmallPut as small
use Rattle.refused_outcomes.specs.Told.{IsReading, IsRefused, IsTold}
use Rattle.refused_outcomes.specs.PutCauses.{EachPutCauseIsRefused, PutCausesAreRefused, busy_then_denied, was_denied, was_lost}

-- ---- what differs

refusal_uncertain : mark.Refusal ≡ mark.Uncertain → ⊥
refusal_uncertain e = cc

service_is : (of_op : Op) (code message got : List ℕ) → of_op ≡ op.Put → class.Refusal got [] ≡ class.Refusal code message → cause.Service of_op code message ≡ cause.Service op.Put got []
service_is of_op code message got is same = cc

lost_is : (of_op : Op) (reason : Why) → of_op ≡ op.Put → class.Uncertain why.WireFailed ≡ class.Uncertain reason → cause.Lost of_op reason ≡ cause.Lost op.Put why.WireFailed
lost_is of_op reason is same = cc

refusal_lost : (got : List ℕ) (reason : Why) → class.Refusal got [] ≡ class.Uncertain reason → ⊥
refusal_lost got reason e = cc

refusal_answered : (got : List ℕ) (said : Reply) → class.Refusal got [] ≡ class.Success said → ⊥
refusal_answered got said e = cc

lost_refused : (code message : List ℕ) → class.Uncertain why.WireFailed ≡ class.Refusal code message → ⊥
lost_refused code message e = cc

lost_answered : (said : Reply) → class.Uncertain why.WireFailed ≡ class.Success said → ⊥
lost_answered said e = cc

other_codes : (a b c : List ℕ) (x y : Op) → cause.Service x a b ≡ cause.Service y c [] → a ≡ c
other_codes a b c x y e = cc

busy_denied : codes "SlowDown" ≡ codes "AccessDenied" → ⊥
busy_denied e = cc

module _ (page_of : List ℕ → Listed) where
  abbrev Shows : Ask → ℕ → Talk → Class → List ℕ → Type 0
  Shows = Reads page_of

  abbrev Plans : List Dispatched → Type 0
  Plans planning = planning ≡ []

  abbrev put_as : List Attempt → Ask → List ℕ → ℕ → ℕ → Dispatched
  put_as attempts asked body limit size = made (record { job = put_job; lane = 0; given_at = 0; came_at = Some 1; earlier = 0; is_second = false; attempts = attempts }) asked body limit size

  -- ---- the last attempt shows one cause

  abbrev refused_with : ℕ → List ℕ → Attempt
  refused_with moment code = record { mark = mark.Refusal; talk = sent_at moment Closed code }

  abbrev was_lost_at : ℕ → Attempt
  was_lost_at moment = record { mark = mark.Uncertain; talk = lost_at moment }

  module _ (first : Attempt) (asked : Ask) (body : List ℕ) (limit size : ℕ) where
    refused_shows : (code : List ℕ) (reason : Cause) → IsLastCause Shows HasNoStatus (put_as (first ∷ refused_with 6 code ∷ []) asked body limit size) reason → reason ≡ cause.Service op.Put code []
    refused_shows code (cause.Service of_op said message) is = service_is of_op said message code is.0 is.1.1.0
    refused_shows code (cause.Lost of_op reason) is = absurd (refusal_lost code reason is.3.0)
    refused_shows code cause.Changed is = absurd is.0
    refused_shows code (cause.BadReply of_op) is = absurd (refusal_answered code is.1 is.3.0)
    refused_shows code other is = absurd is

    lost_shows : (reason : Cause) → IsLastCause Shows HasNoStatus (put_as (first ∷ was_lost_at 6 ∷ []) asked body limit size) reason → reason ≡ was_lost
    lost_shows (cause.Service of_op said message) is = absurd (lost_refused said message is.1.1.0)
    lost_shows (cause.Lost of_op reason) is = lost_is of_op reason is.0 is.3.0
    lost_shows cause.Changed is = absurd is.0
    lost_shows (cause.BadReply of_op) is = absurd (lost_answered is.1 is.3.0)
    lost_shows other is = absurd is

  -- ---- the run, with two attempts and the cause that the last one shows

  module _ (attempts : List Attempt) (asked : Ask) (body : List ℕ) (limit size : ℕ) (only : Cause)
      (shows_only : (reason : Cause) → IsLastCause Shows HasNoStatus (put_as attempts asked body limit size) reason → reason ≡ only) (coming : List Dispatched) where
    abbrev c : Dispatched
    c = put_as attempts asked body limit size

    abbrev Is : Outcome → Type 0
    Is how = HasOutcome Shows HasNoStatus NeverFailed setting (c ∷ []) coming 0 task how

    abbrev Decides : Mark → Type 0
    Decides of_mark = HasDeciding Shows HasNoStatus NeverFailed setting (c ∷ []) coming 0 task of_mark

    none_has : (of_mark : Mark) → Slots (λ (k : ℕ) (a : Attempt). a.mark ≡ of_mark → ⊥) attempts → Decides of_mark → ⊥
    none_has of_mark none decides =
        each (λ (d : Dispatched). (k : ℕ) (a : Attempt) → (slice_get d.dispatch.attempts k ≡ Some a) → a.mark ≡ of_mark → ⊥) (c ∷ [])
        ((λ k a here marked. slot (λ (n : ℕ) (b : Attempt). b.mark ≡ of_mark → ⊥) attempts none k a here marked), tt) decides.0 decides.1 decides.3.0 decides.3.1 decides.3.2 decides.3.3

    first_by : IsSchedule Shows setting Plans (c ∷ []) coming → (reason : Cause) → FailsFirstBy Shows HasNoStatus NeverFailed setting (c ∷ []) coming 0 reason → reason ≡ only
    first_by schedule reason by =
        shows_only reason (subst (λ (d : Dispatched). IsLastCause Shows HasNoStatus d reason) (sym (alone c coming schedule.is_coming by.1.0.0.0 by.0 by.1.0.0.1 by.1.0.0.2).1) by.2)

    fails_for : IsSchedule Shows setting Plans (c ∷ []) coming → (reason : Cause) → Is (outcome.Failed reason) → reason ≡ only
    fails_for schedule cause.Memory how = absurd (never how.2)
    fails_for schedule (cause.Files call) how = absurd how.2.1
    fails_for schedule (cause.Blocked length) how = absurd how.2.1
    fails_for schedule (cause.Cancelled reason) how = absurd (never how.2.0)
    fails_for schedule cause.Changed how = elim how.2 [ inl call ↦ absurd call.1 | inr by ↦ first_by schedule cause.Changed by ]
    fails_for schedule (cause.Service of_op code message) how = first_by schedule (cause.Service of_op code message) how.2.0
    fails_for schedule (cause.Lost of_op reason) how = first_by schedule (cause.Lost of_op reason) how.2
    fails_for schedule (cause.BadReply of_op) how = first_by schedule (cause.BadReply of_op) how.2

    abbrev LastOf : Cause → Type 0
    LastOf reason = (d : Dispatched) × Contains (c ∷ []) d × IsLastCause Shows HasNoStatus d reason

    of_last : (reason : Cause) → LastOf reason → reason ≡ only
    of_last reason last = each (λ (d : Dispatched). IsLastCause Shows HasNoStatus d reason → reason ≡ only) (c ∷ []) (shows_only reason, tt) last.0 last.1 last.2

    left_for : (reason : Cause) → Is (outcome.Unknown reason) → reason ≡ only
    left_for cause.Memory how = absurd (never how.1)
    left_for (cause.Files call) how = of_last _ (how.1.0, how.1.1, how.1.4)
    left_for (cause.Blocked length) how = of_last _ (how.1.0, how.1.1, how.1.4)
    left_for (cause.Cancelled reason) how = of_last _ (how.1.0, how.1.1, how.1.4)
    left_for cause.Changed how = of_last _ (how.1.0, how.1.1, how.1.4)
    left_for (cause.Service of_op code message) how = of_last _ (how.1.0, how.1.1, how.1.4)
    left_for (cause.Lost of_op reason) how = of_last _ (how.1.0, how.1.1, how.1.4)
    left_for (cause.BadReply of_op) how = of_last _ (how.1.0, how.1.1, how.1.4)

    skipped : Is outcome.Skipped → ⊥
    skipped how = elim how.1 [ inl by_request ↦ never by_request.0 | inr by_file ↦ never by_file.0 ]

    -- where each attempt was refused
    only_failed : Slots (λ (k : ℕ) (a : Attempt). a.mark ≡ mark.Success → ⊥) attempts → Slots (λ (k : ℕ) (a : Attempt). a.mark ≡ mark.Uncertain → ⊥) attempts
        → IsSchedule Shows setting Plans (c ∷ []) coming → (other : Outcome) → other ≢ outcome.Failed only → Is other → ⊥
    only_failed no_success none_left schedule outcome.Done differs how = none_has mark.Success no_success how.1
    only_failed no_success none_left schedule (outcome.Copied reason) differs how = never how.0
    only_failed no_success none_left schedule (outcome.Failed reason) differs how = differs (ap (λ (x : Cause). outcome.Failed x) (fails_for schedule reason how))
    only_failed no_success none_left schedule (outcome.Unknown reason) differs how = none_has mark.Uncertain none_left how.0.0
    only_failed no_success none_left schedule outcome.Dry differs how = never how
    only_failed no_success none_left schedule outcome.Skipped differs how = skipped how

    -- where one was lost, and none answered with success
    only_unknown : Slots (λ (k : ℕ) (a : Attempt). a.mark ≡ mark.Success → ⊥) attempts → Decides mark.Uncertain → (other : Outcome) → other ≢ outcome.Unknown only → Is other → ⊥
    only_unknown no_success left outcome.Done differs how = none_has mark.Success no_success how.1
    only_unknown no_success left (outcome.Copied reason) differs how = never how.0
    only_unknown no_success left (outcome.Failed reason) differs how = how.1 (left, none_has mark.Success no_success)
    only_unknown no_success left (outcome.Unknown reason) differs how = differs (ap (λ (x : Cause). outcome.Unknown x) (left_for reason how))
    only_unknown no_success left outcome.Dry differs how = never how
    only_unknown no_success left outcome.Skipped differs how = skipped how

  -- ---- the runs as they are read

  abbrev two : Attempt → Attempt → List Attempt
  two first last = first ∷ last ∷ []

  abbrev pauses : List Note
  pauses = Moment 5 ∷ Began ∷ Pause 1 ∷ Moment 6 ∷ Began ∷ []

  module _ (m1 m2 : Mark) (e1 e2 : Ending) (g1 g2 : List ℕ) where
    abbrev both : List Attempt
    both = record { mark = m1; talk = sent_at 5 e1 g1 } ∷ record { mark = m2; talk = sent_at 6 e2 g2 } ∷ []

    abbrev sent : Dispatched
    sent = small.put_with both

    abbrev e : Example
    e = run (once (m1 ∷ m2 ∷ [])) (in_first (sent_at 5 e1 g1 ∷ sent_at 6 e2 g2 ∷ [])) (in_first pauses)

    abbrev first_of : Numbered
    first_of = noting.nth 1 sent (record { mark = m1; talk = sent_at 5 e1 g1 })

    abbrev second_of : Numbered
    second_of = noting.nth 2 sent (record { mark = m2; talk = sent_at 6 e2 g2 })

    lane_is : (lane : ℕ) → lane < 1 → carrying.IsLane page_of setting (sent ∷ []) e.logs e.notes (sent ∷ []) lane
    lane_is zero used = record { in_turn = (tt, tt); gained = refl; noted = noting.first page_of first_of 5 (second_of ∷ []) (Pause 1 ∷ Moment 6 ∷ Began ∷ []) refl (refl, refl, refl) (noting.second page_of second_of 6 [] [] refl (refl, refl, refl) (noting.done page_of)) }
    lane_is (suc lane) used = absurd (omega arith)

    carried : Slots (carrying.IsMarked page_of setting (sent ∷ []) sent) both → carrying.Goes page_of setting (sent ∷ []) sent (record { mark = m1; talk = sent_at 5 e1 g1 })
        → IsCarried Shows signed_body [] 80 setting e.journal e.logs e.notes (sent ∷ []) (sent ∷ [])
    carried marks goes = carrying.carried page_of setting (sent ∷ []) e.journal e.logs e.notes (sent ∷ []) (record {
      shown = refl;
      comes = ((1, m1 ∷ m2 ∷ [], refl, refl, refl), tt);
      inside = (omega arith, tt);
      unused = λ lane beyond. (carrying.none_in _ lane beyond, carrying.none_in _ lane beyond);
      known = (tt, ((sent, at (sent ∷ []) 0 sent refl, refl), tt));
      lanes = lane_is;
      marks = (marks, tt);
      again = (((λ more. goes), ((λ more. absurd (omega arith)), tt)), tt);
      given_again = (tt, tt);
      at_most = (omega arith, tt);
      ends = ((λ more. inl refl), tt);
    })

    reading : Slots (carrying.IsMarked page_of setting (sent ∷ []) sent) both → carrying.Goes page_of setting (sent ∷ []) sent (record { mark = m1; talk = sent_at 5 e1 g1 })
        → IsReading page_of NeverFailed e task (sent ∷ []) (sent ∷ [])
    reading marks goes = record { schedule = small.scheduled Shows both; carried = carried marks goes }

    -- what holds of each ask holds however it is read
    however : (how : Outcome)
        → ((asked : Ask) (body : List ℕ) (limit size : ℕ) (coming : List Dispatched) → IsSchedule Shows setting Plans (put_as both asked body limit size ∷ []) coming → HasOutcome Shows HasNoStatus NeverFailed setting (put_as both asked body limit size ∷ []) coming 0 task how → ⊥)
        → IsRefused page_of NeverFailed e task how
    however how all dispatched coming read has_it =
        of_shown (dispatches e.journal e.logs) (λ xs. (came : List Dispatched) → IsSchedule Shows setting Plans xs came → HasOutcome Shows HasNoStatus NeverFailed setting xs came 0 task how → ⊥) all dispatched read.carried.shown coming read.schedule has_it

    decides_uncertain : (coming : List Dispatched) (asked : Ask) (body : List ℕ) (limit size : ℕ) → m1 ≡ mark.Uncertain → HasDeciding Shows HasNoStatus NeverFailed setting (put_as both asked body limit size ∷ []) coming 0 task mark.Uncertain
    decides_uncertain coming asked body limit size is =
        (put_as both asked body limit size, at (put_as both asked body limit size ∷ []) 0 (put_as both asked body limit size) refl, (tt, refl), (0, record { mark = m1; talk = sent_at 5 e1 g1 }, refl, is))

    last_tried : (d : Dispatched) → Contains (sent ∷ []) d → d.dispatch.job ≡ sent.dispatch.job → IsBefore (Some 0) d.dispatch.given_at → d.dispatch.attempts ≡ []
    last_tried d known same later = absurd (each (λ (x : Dispatched). IsBefore (Some 0) x.dispatch.given_at → ⊥) (sent ∷ []) ((λ (late : 0 < 0). omega arith), tt) d known later)

  -- ---- refused at both

  abbrev denied : Dispatched
  denied = sent mark.Refusal mark.Refusal Closed Closed (codes "SlowDown") (codes "AccessDenied")

  no_success : Slots (λ (k : ℕ) (a : Attempt). a.mark ≡ mark.Success → ⊥) denied.dispatch.attempts
  no_success = (refusal_success, (refusal_success, tt))

  none_left : Slots (λ (k : ℕ) (a : Attempt). a.mark ≡ mark.Uncertain → ⊥) denied.dispatch.attempts
  none_left = (refusal_uncertain, (refusal_uncertain, tt))

  denied_only : (other : Outcome) → other ≢ outcome.Failed was_denied → IsRefused page_of NeverFailed busy_then_denied task other
  denied_only other differs = however mark.Refusal mark.Refusal Closed Closed (codes "SlowDown") (codes "AccessDenied") other
      (λ asked body limit size coming schedule how. only_failed denied.dispatch.attempts asked body limit size was_denied (refused_shows (refused_with 5 (codes "SlowDown")) asked body limit size (codes "AccessDenied")) coming no_success none_left schedule other differs how)

  uncut : IsCut Shows 2 denied [] (IsStopped setting (Some 0) ⊎ IsFailing Shows 2 (Some 0) (IsStopped setting (Some 0)) []) → ⊥
  uncut (inl again) = has [] again.0 again.1
  uncut (inr stopped) = elim stopped.4 [ inl e ↦ never e | inr failing ↦ failing ]

  is_first : IsFirstFailure Shows HasNoStatus NeverFailed setting (denied ∷ []) (denied ∷ []) 0 denied
  is_first = ((([], [], refl, uncut, (λ well. refusal_success well.0)), refl), (λ other failure. inl (ap (λ (d : Dispatched). d.dispatch) (same other failure.0.0 failure.0.1 failure.0.2))))
    where
      same : (d : Dispatched) (front later : List Dispatched) → denied ∷ [] ≡ front ++ d ∷ later → d ≡ denied
      same d front later e = sym (alone denied (denied ∷ []) (small.scheduled Shows denied.dispatch.attempts).is_coming front d later e).1

  denied_shows : IsLastCause Shows HasNoStatus denied was_denied
  denied_shows = (refl, ([], (refl, refl)), (λ says. says.0))

  denied_told : IsTold page_of NeverFailed busy_then_denied task (outcome.Failed was_denied)
  denied_told = record {
    dispatched = denied ∷ [];
    coming = denied ∷ [];
    reading = reading mark.Refusal mark.Refusal Closed Closed (codes "SlowDown") (codes "AccessDenied") (refl, (refl, tt)) refl;
    has_outcome = (
      none_has denied.dispatch.attempts denied.ask denied.body denied.limit denied.size was_denied (refused_shows (refused_with 5 (codes "SlowDown")) denied.ask denied.body denied.limit denied.size (codes "AccessDenied")) (denied ∷ []) mark.Success no_success,
      (λ left. none_has denied.dispatch.attempts denied.ask denied.body denied.limit denied.size was_denied (refused_shows (refused_with 5 (codes "SlowDown")) denied.ask denied.body denied.limit denied.size (codes "AccessDenied")) (denied ∷ []) mark.Uncertain none_left left.0),
      ((denied, is_first, denied_shows), (λ skipped. never skipped.0)),
      (λ fresh. absurd (never fresh)),
    );
  }

  -- ---- lost at the first

  abbrev lost_denied : Dispatched
  lost_denied = sent mark.Uncertain mark.Refusal Failed Closed [] (codes "AccessDenied")

  abbrev lost_lost : Dispatched
  lost_lost = sent mark.Uncertain mark.Uncertain Failed Failed [] []

  lost_denied_only : (other : Outcome) → other ≢ outcome.Unknown was_denied → IsRefused page_of NeverFailed lost_then_denied task other
  lost_denied_only other differs = however mark.Uncertain mark.Refusal Failed Closed [] (codes "AccessDenied") other
      (λ asked body limit size coming schedule how. only_unknown lost_denied.dispatch.attempts asked body limit size was_denied (refused_shows (was_lost_at 5) asked body limit size (codes "AccessDenied")) coming (uncertain_success, (refusal_success, tt)) (decides_uncertain mark.Uncertain mark.Refusal Failed Closed [] (codes "AccessDenied") coming asked body limit size refl) other differs how)

  lost_lost_only : (other : Outcome) → other ≢ outcome.Unknown was_lost → IsRefused page_of NeverFailed lost_twice task other
  lost_lost_only other differs = however mark.Uncertain mark.Uncertain Failed Failed [] [] other
      (λ asked body limit size coming schedule how. only_unknown lost_lost.dispatch.attempts asked body limit size was_lost (lost_shows (was_lost_at 5) asked body limit size) coming (uncertain_success, (uncertain_success, tt)) (decides_uncertain mark.Uncertain mark.Uncertain Failed Failed [] [] coming asked body limit size refl) other differs how)

  lost_denied_told : IsTold page_of NeverFailed lost_then_denied task (outcome.Unknown was_denied)
  lost_denied_told = record {
    dispatched = lost_denied ∷ [];
    coming = lost_denied ∷ [];
    reading = reading mark.Uncertain mark.Refusal Failed Closed [] (codes "AccessDenied") (refl, (refl, tt)) refl;
    has_outcome = (
      (decides_uncertain mark.Uncertain mark.Refusal Failed Closed [] (codes "AccessDenied") (lost_denied ∷ []) lost_denied.ask lost_denied.body lost_denied.limit lost_denied.size refl, none_has lost_denied.dispatch.attempts lost_denied.ask lost_denied.body lost_denied.limit lost_denied.size was_denied (refused_shows (was_lost_at 5) lost_denied.ask lost_denied.body lost_denied.limit lost_denied.size (codes "AccessDenied")) (lost_denied ∷ []) mark.Success (uncertain_success, (refusal_success, tt))),
      (lost_denied, at (lost_denied ∷ []) 0 lost_denied refl, (tt, refl), last_tried mark.Uncertain mark.Refusal Failed Closed [] (codes "AccessDenied"), (refl, ([], (refl, refl)), (λ says. says.0))),
    );
  }

  lost_lost_told : IsTold page_of NeverFailed lost_twice task (outcome.Unknown was_lost)
  lost_lost_told = record {
    dispatched = lost_lost ∷ [];
    coming = lost_lost ∷ [];
    reading = reading mark.Uncertain mark.Uncertain Failed Failed [] [] (refl, (refl, tt)) refl;
    has_outcome = (
      (decides_uncertain mark.Uncertain mark.Uncertain Failed Failed [] [] (lost_lost ∷ []) lost_lost.ask lost_lost.body lost_lost.limit lost_lost.size refl, none_has lost_lost.dispatch.attempts lost_lost.ask lost_lost.body lost_lost.limit lost_lost.size was_lost (lost_shows (was_lost_at 5) lost_lost.ask lost_lost.body lost_lost.limit lost_lost.size) (lost_lost ∷ []) mark.Success (uncertain_success, (uncertain_success, tt))),
      (lost_lost, at (lost_lost ∷ []) 0 lost_lost refl, (tt, refl), last_tried mark.Uncertain mark.Uncertain Failed Failed [] [], (refl, no_memory, [], (refl, refl))),
    );
  }
    where
      no_memory : why.WireFailed ≡ why.Memory → ⊥
      no_memory e = cc

  causes : PutCausesAreRefused page_of
  causes = record {
    denied = record { told = denied_told; no_other = denied_only };
    open_denied = record { told = lost_denied_told; no_other = lost_denied_only };
    open_lost = record { told = lost_lost_told; no_other = lost_lost_only };
    first_attempt = denied_only _ first_code;
    lost_for_denied = denied_only _ as_lost;
    unknown_for_denied = denied_only _ as_unknown;
    earlier_loss = lost_denied_only _ earlier;
    changed = denied_only _ as_changed;
    bad_reply = denied_only _ as_reply;
    copied = denied_only _ as_copied;
  }
    where
      failed_is : (a b : Cause) → outcome.Failed a ≡ outcome.Failed b → a ≡ b
      failed_is a b e = cc

      first_code : outcome.Failed (cause.Service op.Put (codes "SlowDown") []) ≡ outcome.Failed was_denied → ⊥
      first_code e = busy_denied (other_codes _ [] _ op.Put op.Put (failed_is _ _ e))

      as_lost : outcome.Failed was_lost ≡ outcome.Failed was_denied → ⊥
      as_lost e = cc

      as_unknown : outcome.Unknown was_denied ≡ outcome.Failed was_denied → ⊥
      as_unknown e = cc

      earlier : outcome.Unknown was_lost ≡ outcome.Unknown was_denied → ⊥
      earlier e = cc

      as_changed : outcome.Failed cause.Changed ≡ outcome.Failed was_denied → ⊥
      as_changed e = cc

      as_reply : outcome.Failed (cause.BadReply op.Put) ≡ outcome.Failed was_denied → ⊥
      as_reply e = cc

      as_copied : outcome.Copied was_denied ≡ outcome.Failed was_denied → ⊥
      as_copied e = cc

pub each_put_cause_is_refused : EachPutCauseIsRefused
each_put_cause_is_refused page_of = causes page_of
