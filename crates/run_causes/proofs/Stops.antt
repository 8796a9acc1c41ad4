-- A task's job that its cell stopped is cut in the run, or something had stopped its task before it came.
use Rattle.std.proofs.Common.{append_assoc, append-nil, ◌≡◌, ◌≢◌, ◌∙◌, ◌||◌, ◌⊎◌, ◌+◌, ◌++◌, ◌<◌, ◌≤◌, ℕ, Bool, true, false, [], ◌∷◌, Option, Some, None, Contains, refl, sym, subst, ap, inl, inr, arith, slice_get}
use Rattle.std.proofs.lemmas.Bool.{eqb-true}
use Rattle.std.proofs.lemmas.List.Sorted.{Contains-permutation}
use Rattle.std.specs.Prelude.{IsSome, is_some, if◌then◌else◌}
use Rattle.answer_classes.specs.Showing.{Shows}
use Rattle.attempts.specs.Attempts.{text_of}
use Rattle.jobs.specs.Endings.{SeenCarried}
use Rattle.lane_laws.specs.Runs.{Giving, IsCutShort}
use Rattle.manager_moves.specs.Runs.{Back, Event, Events, Sent, Stopped, is_task, share}
use Rattle.run_promise.specs.Carried.{IsStoppedBefore, MayStop}
use Rattle.run_promise.specs.Schedule.{IsBeforePlace, IsCutIn, IsStopped}
use Rattle.s3_model.specs.declared.outcomes.JobId.{JobId}
use Rattle.s3_model.specs.declared.outcomes.Outcome.{Outcome}
use Rattle.s3_model.specs.declared.outcomes.Reason.{Reason}
use Rattle.s3_model.specs.declared.requests.Op.{Op}
use Rattle.s3_model.specs.declared.requests.Op.TheVariants as op
use Rattle.shared_lemmas.proofs.Clashes.{false_true}
use Rattle.shared_lemmas.proofs.Members.{Has, Split, contains_of, found_or_not, has, has_middle, split_of}
use Rattle.task_acts.specs.declared.acts.Act.{Act}
use Rattle.task_acts.specs.declared.acts.Act.TheVariants as act
use Rattle.task_acts.specs.declared.acts.Stage.{Stage}
use Rattle.task_acts.specs.declared.acts.Stage.TheVariants as at
use Rattle.task_acts.specs.declared.work.Work.{Work}
use Rattle.task_acts.specs.Ends.{outcome_of}
use Rattle.task_acts.specs.Failures.{carried_cause, is_cut_short, is_stopped}
use Rattle.task_acts.specs.Histories.{Came, Gave, Happening, History, Returned, sent}
use Rattle.task_acts.specs.Kept.{IsHistory, is_file_act}
use Rattle.task_acts.specs.Stages.{is_out, stage}
use Rattle.task_progress.proofs.Endings.{no}
use Rattle.task_schedule.proofs.Cutting.{cut_first, cut_no_abort, cut_unfinished, sent_is}
use Rattle.task_schedule.proofs.Deciders.{IsNoAbort, call_failed, came_failed, job_failed}
use Rattle.task_schedule.proofs.EventStops.{IsCall, IsFailure, IsForgotten, IsOther, StoppedFirst, Stopper, stopped_first}
use Rattle.task_schedule.proofs.Failing.{counted_call, is_cut_in, not_cut, not_well}
use Rattle.task_schedule.proofs.Joined.{all_holds, back_at, its_task, return_of}
use Rattle.task_schedule.proofs.KeptJobs.{no_abort_of}
use Rattle.task_schedule.proofs.Places.{entry_fills, filled, fills}
use Rattle.task_schedule.proofs.SentJobs.{holds}
use Rattle.task_schedule.proofs.Shares.{back_is, since, since_is}
use Rattle.task_schedule.proofs.Stopping.{abort_stopped, otherwise_stays}
use Rattle.task_schedule.specs.Journals.{fails_otherwise, place_after}
use Rattle.run_causes.proofs.Behind.{ds, events, planned, show_one}
use Rattle.run_causes.proofs.Memory.{memory_some}
use Rattle.run_causes.proofs.TaskGivings.{a, among, back, cut_by_cell, k, o, run, w, work}
use Rattle.run_causes.proofs.TaskGivings as of_giving
use Rattle.run_causes.proofs.TwoFailed.{HasFailed, fails}
use Rattle.run_causes.specs.Causes.{IsTracedRun, TellsStops, TracedRun}

call_no_abort : (x : Act) → is_file_act x ≡ true → IsNoAbort x
call_no_abort (act.Send p m) e = no e
call_no_abort x e = tt

out_not_failed : (how : Stage) → how ≡ at.Failed → is_out how ≡ true → false ≡ true
out_not_failed how e out = subst (λ (x : Stage). is_out x ≡ true) e out

stopped_fails : (cut stopped cause : Bool) → cut ≡ true → stopped ≡ true → (if cut then (if stopped then at.Failed else at.Kept) else if cause then at.Failed else at.Fine) ≡ at.Failed
stopped_fails true true cause e f = refl
stopped_fails true false cause e f = no f
stopped_fails false stopped cause e f = no e

told : (b c : Bool) → (b ≡ true) ⊎ (c ≡ true) → (b || c) ≡ true
told true c e = refl
told false c (inl e) = no e
told false c (inr e) = e

task_is : (n : ℕ) (task : Option ℕ) → is_task n task ≡ true → task ≡ Some n
task_is n None e = no e
task_is n (Some m) e = ap Some (eqb-true m n e)

module _ (r : TracedRun) (is : IsTracedRun r) (tells : TellsStops r) (g : Giving) (known : Contains r.givings g) (n : ℕ) (task : g.of.dispatch.job.task ≡ Some n)
    (gave : IsSome g.gave) (short : IsCutShort r.setting g) where
  abbrev w_ : Work
  w_ = w r is tells g known n task

  abbrev of_plan : slice_get r.shared.works n ≡ Some w_
  of_plan = (work r is tells g known n task).of_plan

  abbrev o_ : Op
  o_ = o r is tells g known n task

  abbrev k_ : ℕ
  k_ = k r is tells g known n task

  abbrev rest : Events
  rest = (back r is tells g known n task).between ++ Sent n o_ k_ (a r is tells g known n task).lane ∷ (a r is tells g known n task).before

  abbrev newer : Events
  newer = (back r is tells g known n task).newer

  abbrev c_ : SeenCarried
  c_ = (back r is tells g known n task).carried

  abbrev came : Event
  came = Back (back r is tells g known n task).lane c_

  whole : events r is ≡ newer ++ came ∷ rest
  whole = back_at Shows r.shared r.setting (planned r is) (events r is) (ds r is) r.coming (run r is tells) n w_ of_plan o_ k_ g.of (a r is tells g known n task) (back r is tells g known n task)

  cut : is_cut_short w_ c_ ≡ true
  cut = cut_by_cell r is tells g known n task gave short

  apart : o_ ≢ op.Abort
  apart = cut_no_abort Shows r.shared r.setting (planned r is) (events r is) (ds r is) r.coming (run r is tells) show_one n w_ of_plan o_ k_ g.of (a r is tells g known n task) (back r is tells g known n task) cut

  sent_as : sent c_ ≡ act.Send o_ k_
  sent_as = sent_is Shows r.shared r.setting (planned r is) (events r is) (ds r is) r.coming (run r is tells) show_one n w_ of_plan o_ k_ g.of (a r is tells g known n task) (back r is tells g known n task)

  holds_rest : IsHistory w_ (Came c_ ∷ share w_ n rest)
  holds_rest = of_giving.holds r is tells g known n task

  holds_all : IsHistory w_ (share w_ n (events r is))
  holds_all = all_holds Shows r.shared r.setting (planned r is) (events r is) (ds r is) r.coming (run r is tells) n w_ of_plan

  some_task : IsSome g.of.dispatch.job.task
  some_task = subst (λ (t : Option ℕ). is_some t ≡ true) (sym task) refl

  split : Split r.coming g.of
  split = split_of r.coming g.of (has r.coming g.of (Contains-permutation (ds r is) r.coming g.of is.givings.is_coming (among r is tells g known n task)))

  -- ---- what stopped its task

  -- something but a job had stopped it
  by_stop : IsStopped r.setting (Some n) → IsCutIn Shows r.setting r.coming g.of
  by_stop stopped = (
    split.front,
    split.back,
    split.is,
    inr (
      (cut_first Shows r.shared r.setting (planned r is) (events r is) (ds r is) r.coming (run r is tells) show_one n w_ of_plan o_ k_ g.of (a r is tells g known n task) (back r is tells g known n task) cut).not_second,
      apart,
      some_task,
      cut_unfinished Shows r.shared r.setting (planned r is) (events r is) (ds r is) r.coming (run r is tells) show_one n w_ of_plan o_ k_ g.of (a r is tells g known n task) (back r is tells g known n task) cut,
      inl (subst (λ (t : Option ℕ). IsStopped r.setting t) (sym task) stopped),
    ),
  )

  -- nothing had
  going_on : is_stopped w_ (share w_ n rest) ≡ false → IsCutIn Shows r.setting r.coming g.of
  going_on going = (
    split.front,
    split.back,
    split.is,
    is_cut_in Shows r.shared r.setting (planned r is) (events r is) (ds r is) r.coming (run r is tells) show_one n w_ of_plan o_ k_ g.of (a r is tells g known n task) (back r is tells g known n task) cut going
        split.front split.back split.is,
  )

  module _ (halted : is_stopped w_ (share w_ n rest) ≡ true) where
    stop : StoppedFirst w_ n rest []
    stop = stopped_first w_ n rest [] refl (subst (λ (z : Events). is_stopped w_ (share w_ n z) ≡ true) (sym (append-nil rest)) halted)

    abbrev tail : Events
    tail = stop.between ++ []

    rest_is : rest ≡ stop.newer ++ stop.event ∷ tail
    rest_is = stop.is ∙ ap (λ (z : Events). stop.newer ++ stop.event ∷ z) (sym (append-nil stop.between))

    at_stop : events r is ≡ (newer ++ came ∷ stop.newer) ++ stop.event ∷ tail
    at_stop = whole ∙ ap (λ (z : Events). newer ++ came ∷ z) rest_is ∙ sym (append_assoc newer (came ∷ stop.newer) (stop.event ∷ tail))

    cancelled : (reason : Reason) → stop.event ≡ Stopped reason → IsStopped r.setting (Some n)
    cancelled reason e = told (is_some r.setting.cancelled_at) (r.setting.file_failed n)
        (inl (tells.cancelled reason (contains_of (events r is) (Stopped reason) (subst (λ (z : Events). Has z (Stopped reason)) (sym at_stop)
        (subst (λ (x : Event). Has ((newer ++ came ∷ stop.newer) ++ x ∷ tail) (Stopped reason)) (sym e) (has_middle (newer ++ came ∷ stop.newer) (Stopped reason) tail))))))

    since_stop : (front : Events) (all : Events) → all ≡ front ++ stop.event ∷ tail → share w_ n all ≡ since w_ n front (stop.event ∷ tail) ++ share w_ n (stop.event ∷ tail)
    since_stop front all e = ap (share w_ n) e ∙ since_is w_ n front (stop.event ∷ tail)

    holds_stop : IsHistory w_ (share w_ n (stop.event ∷ tail))
    holds_stop = holds Shows r.shared r.setting (planned r is) (events r is) (ds r is) r.coming (run r is tells) n w_ of_plan (newer ++ came ∷ stop.newer) (stop.event ∷ tail) at_stop

    -- the newest of what had happened then is known from then on
    has_newest : (x : Happening) (h : History) (front all : Events) → all ≡ front ++ stop.event ∷ tail → share w_ n (stop.event ∷ tail) ≡ x ∷ h → Has (share w_ n all) x
    has_newest x h front all e same = subst (λ (z : History). Has z x) (sym (since_stop front all e ∙ ap (λ (z : History). since w_ n front (stop.event ∷ tail) ++ z) same)) (has_middle (since w_ n front (stop.event ∷ tail)) x h)

    -- ---- a call on files, or want of memory

    -- the act that failed, and had failed when the job came
    record Other (b : Act) : Type 0 where
      pub at_end : HasFailed w_ (share w_ n (events r is)) b
      pub then_ : stage w_ (share w_ n rest) b ≡ at.Failed

    call_has_failed : IsCall w_ n stop.event tail → (b : Act) × Other b
    call_has_failed call = (
      call.0,
      record {
        at_end = record {
          counted = counted_call call.0 call.1 call.3;
          no_abort = call_no_abort call.0 (subst (IsHistory w_) call.2 holds_stop).0.0;
          failed = call_failed w_ (share w_ n (events r is)) holds_all call.0 call.1 (known_in (newer ++ came ∷ stop.newer) (events r is) at_stop) call.3;
        };
        then_ = call_failed w_ (share w_ n rest) holds_rest.1 call.0 call.1 (known_in stop.newer rest rest_is) call.3;
      },
    )
      where
        known_in : (front all : Events) → all ≡ front ++ stop.event ∷ tail → Has (share w_ n all) (Returned call.0 call.1)
        known_in front all e = has_newest (Returned call.0 call.1) (Gave call.0 ∷ share w_ n tail) front all e call.2

    job_has_failed : IsForgotten w_ n stop.event tail → (b : Act) × Other b
    job_has_failed job = (
      sent job.0,
      record {
        at_end = record {
          counted = tt;
          no_abort = no_abort_of job.0.job.id.op job.0.job.id.number (λ e. false_true (sym stop.going ∙ abort_stopped w_ (share w_ n tail) job.0.job.id.number then_holds.1
              (subst (λ (p : Op). is_out (stage w_ (share w_ n tail) (act.Send p job.0.job.id.number)) ≡ true) e then_holds.0.0)));
          failed = job_failed w_ (share w_ n (events r is)) holds_all job.0 (known_in (newer ++ came ∷ stop.newer) (events r is) at_stop) job.2 (memory_some (carried_cause w_ job.0) job.3);
        };
        then_ = job_failed w_ (share w_ n rest) holds_rest.1 job.0 (known_in stop.newer rest rest_is) job.2 (memory_some (carried_cause w_ job.0) job.3);
      },
    )
      where
        then_holds : IsHistory w_ (Came job.0 ∷ share w_ n tail)
        then_holds = subst (IsHistory w_) job.1 holds_stop

        known_in : (front all : Events) → all ≡ front ++ stop.event ∷ tail → Has (share w_ n all) (Came job.0)
        known_in front all e = has_newest (Came job.0) (share w_ n tail) front all e job.1

    -- the job itself failed by it, as its task has it
    job_fails : HasFailed w_ (share w_ n (events r is)) (act.Send o_ k_)
    job_fails = record {
      counted = tt;
      no_abort = no_abort_of o_ k_ apart;
      failed = subst (λ (x : Act). stage w_ (share w_ n (events r is)) x ≡ at.Failed) sent_as
          (came_failed w_ (share w_ n (events r is)) (since w_ n newer (came ∷ rest)) (share w_ n rest) c_ holds_all
          (ap (share w_ n) whole ∙ since_is w_ n newer (came ∷ rest) ∙ ap (λ (h : History). since w_ n newer (came ∷ rest) ++ h) (back_is w_ n (back r is tells g known n task).lane c_ rest of_task))
          (stopped_fails (is_cut_short w_ c_) (is_stopped w_ (share w_ n rest)) (is_some (carried_cause w_ c_)) cut halted));
    }
      where
        of_task : c_.job.id.task ≡ Some n
        of_task = its_task Shows r.shared r.setting (planned r is) (events r is) (ds r is) r.coming (run r is tells) n w_ of_plan o_ k_ g.of (a r is tells g known n task) (back r is tells g known n task)

    other_act : (b : Act) → stage w_ (share w_ n rest) b ≡ at.Failed → act.Send o_ k_ ≡ b → ⊥
    other_act b failed same = no (out_not_failed (stage w_ (share w_ n rest) b) failed
        (subst (λ (x : Act). is_out (stage w_ (share w_ n rest) x) ≡ true) (sent_as ∙ same) holds_rest.0.0))

    otherwise : IsOther w_ n stop.event tail → IsStopped r.setting (Some n)
    otherwise other = told (is_some r.setting.cancelled_at) (r.setting.file_failed n) (inr (by (found_or_not (outcome_of w_ (share w_ n (events r is)))) (elim other.what [ inl call ↦ call_has_failed call | inr job ↦ job_has_failed job ])))
      where
        failed_so : fails_otherwise w_ (share w_ n (events r is)) ≡ true
        failed_so = subst (λ (h : History). fails_otherwise w_ h ≡ true) (sym (since_stop (newer ++ came ∷ stop.newer) (events r is) at_stop))
            (otherwise_stays w_ (since w_ n (newer ++ came ∷ stop.newer) (stop.event ∷ tail)) (share w_ n (stop.event ∷ tail)) other.fails)

        ended : IsSome (outcome_of w_ (share w_ n (events r is)))
        ended = (run r is tells).ended n k_ (a r is tells g known n task).lane w_ o_ of_plan (contains_of (events r is) (Sent n o_ k_ (a r is tells g known n task).lane)
            (subst (λ (z : Events). Has z (Sent n o_ k_ (a r is tells g known n task).lane)) (sym (a r is tells g known n task).is)
            (has_middle (a r is tells g known n task).later (Sent n o_ k_ (a r is tells g known n task).lane) (a r is tells g known n task).before)))

        by : (outcome_of w_ (share w_ n (events r is)) ≡ None) ⊎ ((how : Outcome) × (outcome_of w_ (share w_ n (events r is)) ≡ Some how)) → (b : Act) × Other b → r.setting.file_failed n ≡ true
        by (inl none) b = no (sym (ap (λ (x : Option Outcome). is_some x) none) ∙ ended)
        by (inr how) b =
            let failed = fails w_ (work r is tells g known n task).piece (share w_ n (events r is)) holds_all (act.Send o_ k_) b.0 (other_act b.0 b.1.then_) job_fails b.1.at_end how.0 how.1 in
            tells.files n w_ failed.0 of_plan (how.1 ∙ ap Some failed.1) failed_so

    -- ---- another job

    failed_before : (lane : ℕ) (d : SeenCarried) → stop.event ≡ Back lane d → d.job.id.task ≡ Some n → IsFailure w_ d → IsStoppedBefore Shows (text_of r.carrier.endpoint r.carrier.keys) r.carrier.endpoint.host r.carrier.endpoint.port r.setting r.coming g.of
    failed_before lane d e of_task fail =
        let return = return_of Shows r.shared r.setting (planned r is) (events r is) (ds r is) r.coming (run r is tells) n w_ of_plan (newer ++ came ∷ stop.newer) tail lane d
        (at_stop ∙ ap (λ (x : Event). (newer ++ came ∷ stop.newer) ++ x ∷ tail) e) of_task in
        let there = split_of r.coming return.x (has r.coming return.x (Contains-permutation (ds r is) r.coming return.x is.givings.is_coming return.known)) in
        let failure = subst (λ (z : SeenCarried). IsFailure w_ z) (sym return.same) fail in
        inr (
          return.x,
          (
            there.front,
            there.back,
            there.is,
            (λ cut. not_cut Shows r.shared r.setting (planned r is) (events r is) (ds r is) r.coming (run r is tells) show_one n w_ of_plan d.job.id.op d.job.id.number return.x return.known return.a return.back failure
                there.front there.back _ there.is cut),
            (λ well. not_well Shows r.shared r.setting (planned r is) (events r is) (ds r is) r.coming (run r is tells) show_one n w_ of_plan d.job.id.op d.job.id.number return.x return.known return.a return.back failure well),
          ),
          ap (λ (j : JobId). j.task) return.a.job_is ∙ sym task,
          (λ same. other_act (sent d) (job_failed w_ (share w_ n rest) holds_rest.1 d (has_newest (Came d) (share w_ n tail) stop.newer rest rest_is (ap (λ (x : Event). share w_ n (x ∷ tail)) e ∙ back_is w_ n lane d tail of_task))
              fail.not_cut fail.has_cause) (sym (ap (λ (j : JobId). act.Send j.op j.number) (sym return.a.job_is ∙ same)))),
          subst (λ (p : Option ℕ). IsBeforePlace p g.of.dispatch.came_at) (sym return.came_at)
              (subst (λ (p : Option ℕ). IsBeforePlace (Some (place_after (planned r is) tail)) p) (sym (back r is tells g known n task).came_at) (earlier (ap (λ (x : Event). stop.newer ++ x ∷ tail) e))),
        )
      where
        earlier : stop.newer ++ stop.event ∷ tail ≡ stop.newer ++ Back lane d ∷ tail → place_after (planned r is) tail < place_after (planned r is) rest
        earlier same =
            let one = entry_fills (Back lane d) tail tt in
            let more = fills stop.newer (Back lane d ∷ tail) in
            less (ap (λ (z : Events). place_after (planned r is) z) (rest_is ∙ same)) one more
          where
            less : place_after (planned r is) rest ≡ place_after (planned r is) (stop.newer ++ Back lane d ∷ tail) → filled (Back lane d ∷ tail) ≡ filled tail + 1 → filled (Back lane d ∷ tail) ≤ filled (stop.newer ++ Back lane d ∷ tail)
                → place_after (planned r is) tail < place_after (planned r is) rest
            less e f h = omega arith

    abbrev Reasons : Type 0
    Reasons = IsCutIn Shows r.setting r.coming g.of ⊎ IsStoppedBefore Shows (text_of r.carrier.endpoint r.carrier.keys) r.carrier.endpoint.host r.carrier.endpoint.port r.setting r.coming g.of

    had_stopped : Reasons
    had_stopped = by stop.by
      where
        by : Stopper w_ n stop.event tail → Reasons
        by (inl cancel) = inl (by_stop (cancelled cancel.0 cancel.1))
        by (inr (inl other)) = inl (by_stop (otherwise other))
        by (inr (inr job)) = inr (failed_before job.0 job.1 job.2 (task_is n job.1.job.id.task job.3) job.4)

  pub task_stops : MayStop Shows (text_of r.carrier.endpoint r.carrier.keys) r.carrier.endpoint.host r.carrier.endpoint.port r.setting r.coming g.of
  task_stops = (some_task, apart, by (is_stopped w_ (share w_ n rest)) refl)
    where
      by : (b : Bool) → is_stopped w_ (share w_ n rest) ≡ b
          → IsCutIn Shows r.setting r.coming g.of ⊎ IsStoppedBefore Shows (text_of r.carrier.endpoint r.carrier.keys) r.carrier.endpoint.host r.carrier.endpoint.port r.setting r.coming g.of
      by true e = had_stopped e
      by false e = inl (going_on e)
