-- The jobs of a task that were sent in a run, in the history of the task.
use Rattle.std.proofs.Common.{append_assoc, ◌≡◌, ◌≢◌, ◌∙◌, ◌⊎◌, ◌++◌, ◌<◌, ℕ, Bool, true, false, List, [], ◌∷◌, Some, None, Contains, refl, sym, subst, ap, inl, inr, arith, slice_get}
use Rattle.std.specs.Prelude.{if◌then◌else◌, is_some, nat_lt}
use Rattle.std.proofs.lemmas.Bool.{ltb-true}
use Rattle.s3_model.specs.declared.requests.Op.TheVariants as op
use Rattle.jobs.specs.Endings.{SeenCarried}
use Rattle.job_terms.specs.Dispatches.{Dispatched}
use Rattle.run_promise.specs.Schedule.{Setting}
use Rattle.job_terms.specs.Jobs.{job_of}
use Rattle.s3_model.specs.Talks.{Talk}
use Rattle.s3_model.specs.declared.answers.Class.{Class}
use Rattle.s3_model.specs.declared.outcomes.JobId.{JobId}
use Rattle.s3_model.specs.declared.requests.Ask.{Ask}
use Rattle.s3_model.specs.declared.requests.Op.{Op}
use Rattle.task_acts.specs.declared.acts.Act.{Act}
use Rattle.task_acts.specs.declared.acts.Act.TheVariants as act
use Rattle.task_acts.specs.declared.acts.Stage.{Stage}
use Rattle.task_acts.specs.declared.work.Work.{Work}
use Rattle.task_acts.specs.Failures.{is_cut_short, is_stopped}
use Rattle.task_acts.specs.Histories.{Came, Gave, History, Taken, is_act, sent}
use Rattle.task_acts.specs.Kept.{IsHistory, kept_job}
use Rattle.task_acts.specs.Stages.{given_stage, stage}
use Rattle.shared_lemmas.proofs.Lists.{tail_is}
use Rattle.shared_lemmas.proofs.Members.{Has, contains_of, has, has-append_cases, has-append_right, has_middle, split_of}
use Rattle.job_terms.proofs.SameJobs.{job_is}
use Rattle.task_progress.proofs.Begun.{has_begun, out_has_begun}
use Rattle.task_progress.proofs.Endings.{chosen}
use Rattle.manager_moves.proofs.MoveLaws.{in_front}
use Rattle.manager_moves.proofs.ShareLaws.{act_of, is_next, shares_are_histories}
use Rattle.manager_moves.specs.Laws.{IsRun}
use Rattle.manager_moves.specs.Runs.{Back, Event, Events, Sent, Shared, made_count, share, with_taken}
use Rattle.task_schedule.specs.Journals.{IsBack, IsFirst, IsRunOf, IsSecond, NoneBack, place_after}
use Rattle.task_schedule.proofs.Givings.{again, has_come, is_cut, is_going, last_of_all, never_thrice, no_abort, stopped_is_abort, was_going}
use Rattle.task_schedule.proofs.Places.{Between, between_of, ends, entry_fills, filled, fills, same_place}
use Rattle.task_schedule.proofs.Shares.{is_its, run_before, sent_is, since, since_back, since_is, since_parts, taken, taken_is}
use Rattle.task_schedule.proofs.Standing.{CameFirst, IsOutStill, Went, act_itself, begun_stays, given_is_out, given_out, since_given, stays_stopped}
use Rattle.task_schedule.proofs.Successes.{sends}

taken_no_came : (b : Bool) (o : Op) (k : ℕ) (c : SeenCarried) → Has (if b then Taken o k ∷ [] else []) (Came c) → ⊥
taken_no_came true o k c (inl e) = not_came o k c e
  where
    not_came : (o : Op) (k : ℕ) (c : SeenCarried) → Taken o k ≡ Came c → ⊥
    not_came o k c e = cc
taken_no_came true o k c (inr none) = none
taken_no_came false o k c none = none

-- a job that was sent has begun
pub sent_begun : (events : Events) (n k lane : ℕ) (w : Work) (o : Op) → Has events (Sent n o k lane) → has_begun (stage w (share w n events) (act.Send o k)) ≡ true
sent_begun events n k lane w o known =
    let split = split_of events (Sent n o k lane) known in
    subst (λ (z : Events). has_begun (stage w (share w n z) (act.Send o k)) ≡ true) (sym split.is)
    (subst (λ (h : History). has_begun (stage w h (act.Send o k)) ≡ true) (sym (since_is w n split.front (Sent n o k lane ∷ split.back)))
    (begun_stays w (since w n split.front (Sent n o k lane ∷ split.back)) (share w n (Sent n o k lane ∷ split.back)) (act.Send o k)
    (subst (λ (h : History). has_begun (stage w h (act.Send o k)) ≡ true) (sym (sent_is w n o k lane split.back)) (begun (with_taken w o k (share w n split.back))))))
  where
    begun : (h : History) → has_begun (stage w (Gave (act.Send o k) ∷ h) (act.Send o k)) ≡ true
    begun h = subst (λ (how : Stage). has_begun how ≡ true) (sym (given_out w o k h)) (out_has_begun (given_stage (stage w h (act.Send o k))) (given_is_out (stage w h (act.Send o k))))

module _ (Shows : Ask → ℕ → Talk → Class → List ℕ → Type 0) (s : Shared) (setting : Setting) (planned : ℕ) (events : Events) (dispatched coming : List Dispatched)
    (r : IsRunOf Shows s setting planned events dispatched coming) where
  -- the task of a job that was sent has a work
  pub work_of : (later before : Events) (n k lane : ℕ) (o : Op) → events ≡ later ++ Sent n o k lane ∷ before → (w : Work) × (slice_get s.works n ≡ Some w)
  work_of later before n k lane o is =
      let run = run_before s later (Sent n o k lane ∷ before) (subst (IsRun s) is r.run) in
      let ready = is_next s before n (act.Send o k) (ap act_of run.0) in
      (ready.0, in_front (made_count before) s.works n ready.0 ready.1)

  module _ (n : ℕ) (w : Work) (of_plan : slice_get s.works n ≡ Some w) where
    pub holds : (later before : Events) → events ≡ later ++ before → IsHistory w (share w n before)
    holds later before is = shares_are_histories s before n w of_plan (run_before s later before (subst (IsRun s) is r.run))

    -- where a job was sent
    pub record IsAt (o : Op) (k : ℕ) (x : Dispatched) : Type 0 where
      pub later : Events
      pub before : Events
      pub lane : ℕ
      pub is : events ≡ later ++ Sent n o k lane ∷ before
      pub job_is : x.dispatch.job ≡ job_of n o k
      pub given_at : x.dispatch.given_at ≡ place_after planned before
      pub giving : IsFirst Shows n before x ⊎ IsSecond Shows n before x
      pub comes : ((x.dispatch.came_at ≡ None) × NoneBack later x.dispatch.job) ⊎ IsBack Shows planned later (Sent n o k lane ∷ before) x

    pub at_of : (o : Op) (k : ℕ) (x : Dispatched) → Contains dispatched x → x.dispatch.job ≡ job_of n o k → IsAt o k x
    at_of o k x known job_is =
        let sent = r.sent.sent x n known (ap (λ (j : JobId). j.task) job_is) in
        let op_is : x.dispatch.job.op ≡ o = ap (λ (j : JobId). j.op) job_is in
        let number_is : x.dispatch.job.number ≡ k = ap (λ (j : JobId). j.number) job_is in
        let event_is : Sent n x.dispatch.job.op x.dispatch.job.number sent.lane ≡ Sent n o k sent.lane = ap (λ (p : Op). Sent n p x.dispatch.job.number sent.lane) op_is ∙ ap (λ (m : ℕ). Sent n o m sent.lane) number_is in
        record {
          later = sent.later;
          before = sent.before;
          lane = sent.lane;
          is = sent.is ∙ ap (λ (e : Event). sent.later ++ e ∷ sent.before) event_is;
          job_is = job_is;
          given_at = sent.given_at;
          giving = sent.giving;
          comes = elim sent.comes [
            | inl none ↦ inl none
            | inr back ↦ inr (subst (λ (e : Event). IsBack Shows planned sent.later (e ∷ sent.before) x) event_is back)
          ];
        }

    -- ---- the history up to a place

    module _ (o : Op) (k : ℕ) where
      -- what had happened to the task as the job was given
      abbrev pub ahead : Events → History
      ahead before = with_taken w o k (share w n before)

      pub given_holds : (later before : Events) (lane : ℕ) → events ≡ later ++ Sent n o k lane ∷ before → IsHistory w (Gave (act.Send o k) ∷ ahead before)
      given_holds later before lane is = subst (IsHistory w) (sent_is w n o k lane before) (holds later (Sent n o k lane ∷ before) is)

      -- what happened from then on, up to a later place
      pub share_since : (between before : Events) (lane : ℕ) → share w n (between ++ Sent n o k lane ∷ before) ≡ since w n between (Sent n o k lane ∷ before) ++ Gave (act.Send o k) ∷ ahead before
      share_since between before lane = since_is w n between (Sent n o k lane ∷ before)
          ∙ ap (λ (h : History). since w n between (Sent n o k lane ∷ before) ++ h) (sent_is w n o k lane before)

      -- a job that came back, by its id
      pub its_job : (c : SeenCarried) → c.job.id.task ≡ Some n → is_act (act.Send o k) (sent c) ≡ true → c.job.id ≡ job_of n o k
      its_job c task same = let at = sends o k c same in job_is c.job.id (job_of n o k) task at.0 at.1

      pub is_its_act : (c : SeenCarried) → c.job.id ≡ job_of n o k → is_act (act.Send o k) (sent c) ≡ true
      is_its_act c e = subst (λ (j : JobId). is_act (act.Send o k) (act.Send j.op j.number) ≡ true) (sym e) (act_itself o k)

      -- until it comes back it is out
      pub out_still : (rest between before : Events) (lane : ℕ) (job : JobId) → events ≡ rest ++ (between ++ Sent n o k lane ∷ before) → job ≡ job_of n o k → NoneBack between job
          → IsOutStill w o k (since w n between (Sent n o k lane ∷ before)) (Gave (act.Send o k) ∷ ahead before)
      out_still rest between before lane job is same none =
          by (since_given w o k (since w n between (Sent n o k lane ∷ before)) (ahead before)
          (subst (IsHistory w) (share_since between before lane) (holds rest (between ++ Sent n o k lane ∷ before) is)))
        where
          by : Went w o k (since w n between (Sent n o k lane ∷ before)) (Gave (act.Send o k) ∷ ahead before)
              → IsOutStill w o k (since w n between (Sent n o k lane ∷ before)) (Gave (act.Send o k) ∷ ahead before)
          by (inl still) = still
          by (inr came) =
              let known = subst (λ (h : History). Has h (Came came.carried)) (sym came.is) (has_middle came.later (Came came.carried) came.between) in
              let back = since_back w n between (Sent n o k lane ∷ before) came.carried known in
              absurd (none back.0 came.carried (contains_of between (Back back.0 came.carried) back.1) (its_job came.carried back.2 came.act_is ∙ sym same))

      -- the history from the giving to the first return
      pub since_first : (mid newer between before : Events) (lane back_lane : ℕ) (c : SeenCarried) → mid ≡ newer ++ Back back_lane c ∷ between → c.job.id ≡ job_of n o k
          → since w n mid (Sent n o k lane ∷ before)
          ≡ since w n newer (Back back_lane c ∷ (between ++ Sent n o k lane ∷ before)) ++ Came c ∷ since w n between (Sent n o k lane ∷ before)
      since_first mid newer between before lane back_lane c is job =
          ap (λ (z : Events). since w n z (Sent n o k lane ∷ before)) is
          ∙ since_parts w n newer (Back back_lane c ∷ between) (Sent n o k lane ∷ before)
          ∙ ap (λ (h : History). since w n newer (Back back_lane c ∷ (between ++ Sent n o k lane ∷ before)) ++ (h ++ since w n between (Sent n o k lane ∷ before)))
          (chosen _ (Came c ∷ []) [] (is_its w n c.job.id.task (ap (λ (j : JobId). j.task) job)))

      abbrev pub came_first : (rest mid newer between before : Events) (lane back_lane : ℕ) (c : SeenCarried) (front : History)
          → events ≡ rest ++ (between ++ Sent n o k lane ∷ before) → mid ≡ newer ++ Back back_lane c ∷ between → c.job.id ≡ job_of n o k → NoneBack between (job_of n o k)
          → CameFirst w o k (front ++ since w n mid (Sent n o k lane ∷ before)) (Gave (act.Send o k) ∷ ahead before)
      came_first rest mid newer between before lane back_lane c front is mid_is job none = record {
        later = front ++ since w n newer (Back back_lane c ∷ (between ++ Sent n o k lane ∷ before));
        between = since w n between (Sent n o k lane ∷ before);
        carried = c;
        is = ap (λ (h : History). front ++ h) (since_first mid newer between before lane back_lane c mid_is job)
            ∙ sym (append_assoc front (since w n newer (Back back_lane c ∷ (between ++ Sent n o k lane ∷ before))) (Came c ∷ since w n between (Sent n o k lane ∷ before)));
        act_is = is_its_act c job;
        still = out_still rest between before lane (job_of n o k) is refl none;
      }

      -- ---- its return

      -- a job that came back in a part of the run first came back there
      pub record CameIn (x : Dispatched) (at : IsAt o k x) (mid : Events) : Type 0 where
        pub back : IsBack Shows planned at.later (Sent n o k at.lane ∷ at.before) x
        pub newer : Events
        pub is : mid ≡ newer ++ Back back.lane back.carried ∷ back.between

      pub came_in : (x : Dispatched) (at : IsAt o k x) (front mid : Events) (lane : ℕ) (c : SeenCarried) → at.later ≡ front ++ mid → Has mid (Back lane c) → c.job.id ≡ x.dispatch.job → CameIn x at mid
      came_in x at front mid lane c is known job = by at.comes
        where
          in_later : Has at.later (Back lane c)
          in_later = subst (λ (z : Events). Has z (Back lane c)) (sym is) (has-append_right front mid (Back lane c) known)

          second : (back : IsBack Shows planned at.later (Sent n o k at.lane ∷ at.before) x) (rest : Events) → Back back.lane back.carried ∷ back.between ≡ rest ++ mid → CameIn x at mid
          second back [] e = record { back = back; newer = []; is = sym e }
          second back (z ∷ rest) e = absurd (back.first lane c
              (contains_of back.between (Back lane c) (subst (λ (y : Events). Has y (Back lane c)) (sym (tail_is (Back back.lane back.carried) z back.between (rest ++ mid) e)) (has-append_right rest mid (Back lane c) known))) job)

          by : ((x.dispatch.came_at ≡ None) × NoneBack at.later x.dispatch.job) ⊎ IsBack Shows planned at.later (Sent n o k at.lane ∷ at.before) x → CameIn x at mid
          by (inl none) = absurd (none.1 lane c (contains_of at.later (Back lane c) in_later) job)
          by (inr back) = elim (ends front mid back.newer (Back back.lane back.carried ∷ back.between) (sym is ∙ back.is)) [
            | inl first ↦ record { back = back; newer = first.0; is = first.1 }
            | inr rest ↦ second back rest.0 rest.1
          ]

      -- its place is ahead of what follows that part
      pub came_before : (x : Dispatched) (at : IsAt o k x) (mid after : Events) → (came : CameIn x at mid) → after ≡ mid ++ Sent n o k at.lane ∷ at.before
          → (place : ℕ) × (x.dispatch.came_at ≡ Some place) × (place < place_after planned after)
      came_before x at mid after came is = (place_after planned (came.back.between ++ Sent n o k at.lane ∷ at.before), came.back.came_at, less)
        where
          whole : after ≡ came.newer ++ Back came.back.lane came.back.carried ∷ (came.back.between ++ Sent n o k at.lane ∷ at.before)
          whole = is ∙ ap (λ (z : Events). z ++ Sent n o k at.lane ∷ at.before) came.is
              ∙ append_assoc came.newer (Back came.back.lane came.back.carried ∷ came.back.between) (Sent n o k at.lane ∷ at.before)

          less : place_after planned (came.back.between ++ Sent n o k at.lane ∷ at.before) < place_after planned after
          less =
              let one = entry_fills (Back came.back.lane came.back.carried) (came.back.between ++ Sent n o k at.lane ∷ at.before) tt in
              let more = fills came.newer (Back came.back.lane came.back.carried ∷ (came.back.between ++ Sent n o k at.lane ∷ at.before)) in
              let same = ap filled whole in
              omega arith

    -- ---- two jobs

    module _ (o p : Op) (k m : ℕ) where
      -- what happened to the task between two givings, a later one being that of the job `p m`
      pub ahead_is : (mid before after : Events) (lane : ℕ) → after ≡ mid ++ Sent n o k lane ∷ before
          → ahead p m after ≡ (taken w n (share w n after) p m ++ since w n mid (Sent n o k lane ∷ before)) ++ Gave (act.Send o k) ∷ ahead o k before
      ahead_is mid before after lane is =
          taken_is w n (share w n after) p m
          ∙ ap (λ (h : History). taken w n (share w n after) p m ++ h) (ap (share w n) is ∙ share_since o k mid before lane)
          ∙ sym (append_assoc (taken w n (share w n after) p m) (since w n mid (Sent n o k lane ∷ before)) (Gave (act.Send o k) ∷ ahead o k before))

      -- what came back between
      pub came_between : (mid before after : Events) (lane : ℕ) (c : SeenCarried) → Has (taken w n (share w n after) p m ++ since w n mid (Sent n o k lane ∷ before)) (Came c)
          → (back_lane : ℕ) × Has mid (Back back_lane c) × (c.job.id.task ≡ Some n)
      came_between mid before after lane c known =
          elim (has-append_cases (taken w n (share w n after) p m) (since w n mid (Sent n o k lane ∷ before)) (Came c) known) [
            | inl none ↦ absurd (taken_no_came (is_some (kept_job w (share w n after) (act.Send p m))) p m c none)
            | inr there ↦ since_back w n mid (Sent n o k lane ∷ before) c there
          ]

      -- one of them is the earlier
      pub follows : (x y : Dispatched) (a : IsAt o k x) (b : IsAt p m y) → x.dispatch.given_at < y.dispatch.given_at
          → Between a.later a.before b.later b.before (Sent n o k a.lane) (Sent n p m b.lane)
      follows x y a b less = between_of a.later a.before b.later b.before (Sent n o k a.lane) (Sent n p m b.lane) (sym a.is ∙ b.is) (by a.given_at b.given_at less)
        where
          by : x.dispatch.given_at ≡ place_after planned a.before → y.dispatch.given_at ≡ place_after planned b.before → x.dispatch.given_at < y.dispatch.given_at → filled a.before < filled b.before
          by e f l = omega arith

    -- ---- one job that is given twice

    module _ (o : Op) (k : ℕ) (x y : Dispatched) (a : IsAt o k x) (b : IsAt o k y) (less : x.dispatch.given_at < y.dispatch.given_at) where
      pub between : Between a.later a.before b.later b.before (Sent n o k a.lane) (Sent n o k b.lane)
      between = follows o o k k x y a b less

      abbrev mid_of : History
      mid_of = taken w n (share w n b.before) o k ++ since w n between.mid (Sent n o k a.lane ∷ a.before)

      pub twice_holds : IsHistory w (Gave (act.Send o k) ∷ (mid_of ++ Gave (act.Send o k) ∷ ahead o k a.before))
      twice_holds = subst (λ (h : History). IsHistory w (Gave (act.Send o k) ∷ h)) (ahead_is o o k k between.mid a.before b.before a.lane between.before) (given_holds o k b.later b.before b.lane b.is)

      -- it came back between the two
      pub came_between_two : CameIn o k x a between.mid
      came_between_two =
          let found = again w o k mid_of (ahead o k a.before) twice_holds in
          let known = subst (λ (h : History). Has h (Came found.came.carried)) (sym found.came.is) (has_middle found.came.later (Came found.came.carried) found.came.between) in
          let back = came_between o o k k between.mid a.before b.before a.lane found.came.carried known in
          came_in o k x a (b.later ++ Sent n o k b.lane ∷ []) between.mid back.0 found.came.carried (between.after ∙ sym (append_assoc b.later (Sent n o k b.lane ∷ []) between.mid)) back.1
          (its_job o k found.came.carried back.2 found.came.act_is ∙ sym a.job_is)

      pub record IsTwice : Type 0 where
        pub came : CameIn o k x a between.mid
        pub place : ℕ
        pub came_at : x.dispatch.came_at ≡ Some place
        pub ahead_of : place < y.dispatch.given_at
        pub cut : is_cut_short w came.back.carried ≡ true
        pub going_then : is_stopped w (since w n came.back.between (Sent n o k a.lane ∷ a.before) ++ Gave (act.Send o k) ∷ ahead o k a.before) ≡ false
        pub going : is_stopped w (ahead o k b.before) ≡ false
        pub no_abort : o ≢ op.Abort

      pub twice : IsTwice
      twice =
          let came = came_between_two in
          let back = came.back in
          let at = came_before o k x a between.mid b.before came between.before in
          let whole : events ≡ (back.newer ++ Back back.lane back.carried ∷ []) ++ (back.between ++ Sent n o k a.lane ∷ a.before) =
          a.is ∙ ap (λ (z : Events). z ++ Sent n o k a.lane ∷ a.before) back.is
          ∙ append_assoc back.newer (Back back.lane back.carried ∷ back.between) (Sent n o k a.lane ∷ a.before)
          ∙ sym (append_assoc back.newer (Back back.lane back.carried ∷ []) (back.between ++ Sent n o k a.lane ∷ a.before)) in
          let none : NoneBack back.between (job_of n o k) = λ lane c known e. back.first lane c known (e ∙ sym a.job_is) in
          let first = came_first o k (back.newer ++ Back back.lane back.carried ∷ []) between.mid came.newer back.between a.before a.lane back.lane back.carried
          (taken w n (share w n b.before) o k) whole came.is (back.of_job ∙ a.job_is) none in
          record {
            came = came;
            place = at.0;
            came_at = at.1;
            ahead_of = subst (λ (z : ℕ). at.0 < z) (sym b.given_at) at.2;
            cut = is_cut w o k mid_of (ahead o k a.before) twice_holds first;
            going_then = was_going w o k mid_of (ahead o k a.before) twice_holds first;
            going = subst (λ (h : History). is_stopped w h ≡ false) (sym (ahead_is o o k k between.mid a.before b.before a.lane between.before)) (is_going w o k mid_of (ahead o k a.before) twice_holds first);
            no_abort = no_abort w o k mid_of (ahead o k a.before) twice_holds first;
          }

    -- none is given thrice
    pub no_third_sent : (o : Op) (k : ℕ) (x y z : Dispatched) (a : IsAt o k x) (b : IsAt o k y) (c : IsAt o k z) → x.dispatch.given_at < y.dispatch.given_at → y.dispatch.given_at < z.dispatch.given_at → ⊥
    no_third_sent o k x y z a b c first second =
        let one = follows o o k k x y a b first in
        let two = follows o o k k y z b c second in
        let whole = ahead_is o o k k two.mid b.before c.before b.lane two.before
        ∙ ap (λ (h : History). (taken w n (share w n c.before) o k ++ since w n two.mid (Sent n o k b.lane ∷ b.before)) ++ Gave (act.Send o k) ∷ h) (ahead_is o o k k one.mid a.before b.before a.lane one.before) in
        never_thrice w o k (taken w n (share w n c.before) o k ++ since w n two.mid (Sent n o k b.lane ∷ b.before)) (taken w n (share w n b.before) o k ++ since w n one.mid (Sent n o k a.lane ∷ a.before)) (ahead o k a.before)
        (subst (λ (h : History). IsHistory w (Gave (act.Send o k) ∷ h)) whole (given_holds o k c.later c.before c.lane c.is))

    -- ---- an Abort

    -- what is given after something that stops the task is an Abort
    pub stopped_sends : (o : Op) (k : ℕ) (x : Dispatched) (a : IsAt o k x) → is_stopped w (ahead o k a.before) ≡ true → o ≡ op.Abort
    stopped_sends o k x a stopped = stopped_is_abort w (ahead o k a.before) o k (given_holds o k a.later a.before a.lane a.is).0 stopped

    -- every other job that was given came before it
    pub came_before_abort : (p : Op) (k m : ℕ) (x y : Dispatched) (a : IsAt op.Abort k x) (b : IsAt p m y) → p ≢ op.Abort → (place : ℕ) × (y.dispatch.came_at ≡ Some place) × (place < x.dispatch.given_at)
    came_before_abort p k m x y a b apart = by (nat_lt x.dispatch.given_at y.dispatch.given_at) refl (nat_lt y.dispatch.given_at x.dispatch.given_at) refl
      where
        holds_abort : IsHistory w (Gave (act.Send op.Abort k) ∷ ahead op.Abort k a.before)
        holds_abort = given_holds op.Abort k a.later a.before a.lane a.is

        after : x.dispatch.given_at < y.dispatch.given_at → ⊥
        after less =
            let between = follows op.Abort p k m x y a b less in
            let whole = ahead_is op.Abort p k m between.mid a.before b.before a.lane between.before in
            let stopped = stays_stopped w ((taken w n (share w n b.before) p m ++ since w n between.mid (Sent n op.Abort k a.lane ∷ a.before)) ++ Gave (act.Send op.Abort k) ∷ []) (ahead op.Abort k a.before) (last_of_all w (ahead op.Abort k a.before) k holds_abort).stopped in
            apart (stopped_sends p m y b (subst (λ (h : History). is_stopped w h ≡ true)
            (append_assoc (taken w n (share w n b.before) p m ++ since w n between.mid (Sent n op.Abort k a.lane ∷ a.before)) (Gave (act.Send op.Abort k) ∷ []) (ahead op.Abort k a.before) ∙ sym whole) stopped))

        before : y.dispatch.given_at < x.dispatch.given_at → (place : ℕ) × (y.dispatch.came_at ≡ Some place) × (place < x.dispatch.given_at)
        before less =
            let between = follows p op.Abort m k y x b a less in
            let whole = ahead_is p op.Abort m k between.mid b.before a.before b.lane between.before in
            let come = has_come w (ahead op.Abort k a.before) k holds_abort p m (taken w n (share w n a.before) op.Abort k ++ since w n between.mid (Sent n p m b.lane ∷ b.before)) (ahead p m b.before) whole in
            let back = came_between p op.Abort m k between.mid b.before a.before b.lane come.carried (has _ (Came come.carried) come.known) in
            let came = came_in p m y b (a.later ++ Sent n op.Abort k a.lane ∷ []) between.mid back.0 come.carried (between.after ∙ sym (append_assoc a.later (Sent n op.Abort k a.lane ∷ []) between.mid)) back.1
            (its_job p m come.carried back.2 (subst (λ (z : Act). is_act (act.Send p m) z ≡ true) (sym come.sent_is) (act_itself p m)) ∙ sym b.job_is) in
            let at = came_before p m y b between.mid a.before came between.before in
            (at.0, at.1, subst (λ (z : ℕ). at.0 < z) (sym a.given_at) at.2)

        same : x.dispatch.given_at ≡ y.dispatch.given_at → ⊥
        same e = apart (sent_op (same_place a.later a.before b.later b.before (Sent n op.Abort k a.lane) (Sent n p m b.lane) (sym a.is ∙ b.is) tt tt (both_filled a.given_at b.given_at e)))
          where
            both_filled : x.dispatch.given_at ≡ place_after planned a.before → y.dispatch.given_at ≡ place_after planned b.before → x.dispatch.given_at ≡ y.dispatch.given_at → filled a.before ≡ filled b.before
            both_filled f g h = omega arith

            sent_op : Sent n op.Abort k a.lane ∷ a.before ≡ Sent n p m b.lane ∷ b.before → p ≡ op.Abort
            sent_op f = cc

        by : (i : Bool) → nat_lt x.dispatch.given_at y.dispatch.given_at ≡ i → (j : Bool) → nat_lt y.dispatch.given_at x.dispatch.given_at ≡ j → (place : ℕ) × (y.dispatch.came_at ≡ Some place) × (place < x.dispatch.given_at)
        by true i j f = absurd (after (ltb-true x.dispatch.given_at y.dispatch.given_at i))
        by false i true f = before (ltb-true y.dispatch.given_at x.dispatch.given_at f)
        by false i false f = absurd (same (neither x.dispatch.given_at y.dispatch.given_at i f))
          where
            neither : (u v : ℕ) → nat_lt u v ≡ false → nat_lt v u ≡ false → u ≡ v
            neither u v e f = grind arith
