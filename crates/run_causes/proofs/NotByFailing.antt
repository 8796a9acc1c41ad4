-- No task is said to be cancelled since it failed itself.
use Rattle.std.proofs.Common.{◌≡◌, ◌≢◌, ◌∙◌, ℕ, Bool, true, false, List, ◌∷◌, Option, Some, None, refl, sym, subst, ap, length}
use Rattle.std.specs.Option.{option_or}
use Rattle.std.specs.Prelude.{if◌then◌else◌, is_some, nat_lt}
use Rattle.jobs.specs.Endings.{IsEnded, SeenCarried}
use Rattle.jobs.specs.declared.ending.Ending.{Ending}
use Rattle.jobs.specs.declared.ending.Ending.TheVariants as ending
use Rattle.manager_moves.proofs.ShareLaws.{shares_are_histories}
use Rattle.manager_moves.specs.Runs.{lacks_memory, made_count, share}
use Rattle.run_causes.specs.Outcomes.{NoneIsCancelledByFailing}
use Rattle.run_promise.specs.Settled.{cause_of}
use Rattle.s3_model.specs.declared.answers.Why.{Why}
use Rattle.s3_model.specs.declared.answers.Why.TheVariants as why_of
use Rattle.s3_model.specs.declared.outcomes.Cause.{Cause}
use Rattle.s3_model.specs.declared.outcomes.Cause.TheVariants as cause
use Rattle.s3_model.specs.declared.outcomes.Outcome.{Outcome}
use Rattle.s3_model.specs.declared.outcomes.Outcome.TheVariants as outcome
use Rattle.s3_model.specs.declared.outcomes.Reason.{Reason}
use Rattle.s3_model.specs.declared.outcomes.Reason.TheVariants as reason_of
use Rattle.s3_model.specs.declared.requests.Op.{Op}
use Rattle.s3_model.specs.declared.tries.Mark.{Mark}
use Rattle.s3_outside.specs.declared.files.FileFault.TheVariants as fault
use Rattle.shared_lemmas.proofs.Clashes.{none_is_some, some_is}
use Rattle.shared_lemmas.proofs.Members.{Has, has_middle, split_of}
use Rattle.task_acts.specs.declared.acts.Act.{Act}
use Rattle.task_acts.specs.declared.acts.Act.TheVariants as act
use Rattle.task_acts.specs.declared.acts.FileCame.{FileCame}
use Rattle.task_acts.specs.declared.acts.FileCame.TheVariants as file
use Rattle.task_acts.specs.declared.work.Work.{Work}
use Rattle.task_acts.specs.Ends.{cancel_cause, copied_for, failed_for, has_tries, how_ended, is_left_open, is_whole, last_cause, open_cause, outcome_of, stop_cause, unknown_for, unless_memory}
use Rattle.task_acts.specs.Failures.{call_of, ended_cause, file_cause, first_failure, first_reason, is_asked_for, is_cut_short, is_unfinished, lost_cause, refused_cause, result_cause, says_changed, wanted_memory}
use Rattle.task_acts.specs.Histories.{Came, Cancelled, Happening, History, Returned}
use Rattle.task_acts.specs.Kept.{IsHistory}
use Rattle.task_acts.specs.Rule.{is_decided_in}
use Rattle.task_outcomes.proofs.Reasons.{IsBy, is_by}
use Rattle.task_outcomes.proofs.Settling.{ended_at, fails_first, tried_last}
use Rattle.task_progress.proofs.Endings.{no}
use Rattle.task_progress.proofs.Progress.{both}
use Rattle.task_schedule.proofs.Standing.{earlier}
use Rattle.task_schedule.proofs.Stopping.{reason_there}

-- what is no cancel, or one for another reason
abbrev IsOther : Cause → Type 0
IsOther why = why ≢ cause.Cancelled reason_of.TaskFailed

other_of : (why by : Cause) → by ≡ why → IsOther by → IsOther why
other_of why by same other = subst IsOther same other

-- ---- jobs

refused_other : (o : Op) (status : ℕ) (code message : List ℕ) → IsOther (refused_cause o status code message)
refused_other o status code message = by (says_changed o status code)
  where
    by : (b : Bool) → IsOther (if b then cause.Changed else cause.Service o code message)
    by true e = cc
    by false e = cc

lost_other : (o : Op) (reason : Why) → IsOther (lost_cause o reason)
lost_other o why_of.Memory e = cc
lost_other o reason e = cc

-- only a job that came cancelled has that cause
cancelled_came : (w : Work) (o : Op) (k : ℕ) (of : Ending) (why : Cause) → ended_cause w o k of ≡ Some why → ((reason : Reason) → of ≡ ending.Cancelled reason → ⊥) → IsOther why
cancelled_came w o k (ending.Gained said) why e apart = by (is_asked_for w k said) e
  where
    by : (b : Bool) → (if b then None else Some (cause.BadReply o)) ≡ Some why → IsOther why
    by true f = absurd (none_is_some why f)
    by false f = other_of why (cause.BadReply o) (some_is (cause.BadReply o) why f) (λ g. cc)
cancelled_came w o k (ending.Refused status code message) why e apart =
    other_of why (refused_cause o status code message) (some_is (refused_cause o status code message) why e) (refused_other o status code message)
cancelled_came w o k (ending.Uncertain reason) why e apart = other_of why (lost_cause o reason) (some_is (lost_cause o reason) why e) (lost_other o reason)
cancelled_came w o k (ending.Cancelled reason) why e apart = absurd (apart reason refl)
cancelled_came w o k ending.Memory why e apart = other_of why cause.Memory (some_is cause.Memory why e) (λ g. cc)

-- and such a job was cut short
module _ (w : Work) (h : History) (is : IsHistory w h) where
  came_ended : (c : SeenCarried) → Has h (Came c) → IsEnded c.ending c.job.id.op c.job.part c.job.cell c.tries
  came_ended c known = let split = split_of h (Came c) known in (earlier w split.front (Came c ∷ split.back) (subst (IsHistory w) split.is is)).0.3

  cancelled_cut : (c : SeenCarried) → Has h (Came c) → is_cut_short w c ≡ false → (reason : Reason) → c.ending ≡ ending.Cancelled reason → ⊥
  cancelled_cut c known uncut reason e =
      let ended = subst (λ (x : Ending). IsEnded x c.job.id.op c.job.part c.job.cell c.tries) e (came_ended c known) in
      no (sym uncut ∙ both (is_some c.job.cell) (is_unfinished w.attempts (length c.tries) c.ending) ended.1 (ap (is_unfinished w.attempts (length c.tries)) e))

  -- or made no attempt
  cancelled_idle : (c : SeenCarried) → Has h (Came c) → has_tries c ≡ true → (reason : Reason) → c.ending ≡ ending.Cancelled reason → ⊥
  cancelled_idle c known tried reason e =
      let ended = subst (λ (x : Ending). IsEnded x c.job.id.op c.job.part c.job.cell c.tries) e (came_ended c known) in
      no (ap (λ (ms : List Mark). nat_lt 0 (length ms)) (sym ended.0) ∙ tried)

  -- ---- calls on files

  result_other : (a : Act) (r : FileCame) (why : Cause) → result_cause a r ≡ Some why → IsOther why
  result_other a file.Fine why e = absurd (none_is_some why e)
  result_other a file.Short why e = other_of why cause.Changed (some_is cause.Changed why e) (λ g. cc)
  result_other a (file.Fault fault.Failed) why e = other_of why (cause.Files (call_of a)) (some_is (cause.Files (call_of a)) why e) (λ g. cc)
  result_other a (file.Fault (fault.Blocked length)) why e = other_of why (cause.Blocked length) (some_is (cause.Blocked length) why e) (λ g. cc)
  result_other a (file.Fault fault.Memory) why e = other_of why cause.Memory (some_is cause.Memory why e) (λ g. cc)

  call_other : (a : Act) (r : FileCame) (why : Cause) → file_cause a r ≡ Some why → IsOther why
  call_other act.Stamp r why e = absurd (none_is_some why e)
  call_other act.DropTemp r why e = absurd (none_is_some why e)
  call_other a r why e = result_other a r why e

  -- ---- what stopped it

  failure_other : (why : Cause) → first_failure w h ≡ Some why → IsOther why
  failure_other why e =
      let f = fails_first w h why e in
      by f.event (subst (λ (z : History). Has z f.event) (sym f.is) (has_middle f.later f.event f.before)) (is_by w f.event why f.failure)
    where
      by : (x : Happening) → Has h x → IsBy w x why → IsOther why
      by (Came c) known two = cancelled_came w c.job.id.op c.job.id.number c.ending why two.1 (cancelled_cut c known two.0)
      by (Returned a r) known e = call_other a r why e
      by x known e = absurd e

  reason_other : (reason : Reason) → first_reason h ≡ Some reason → IsOther (cause.Cancelled reason)
  reason_other reason e same =
      let known = reason_there h reason e in
      let split = split_of h (Cancelled reason) known in
      (earlier w split.front (Cancelled reason ∷ split.back) (subst (IsHistory w) split.is is)).0 (reason_is same)
    where
      reason_is : cause.Cancelled reason ≡ cause.Cancelled reason_of.TaskFailed → reason ≡ reason_of.TaskFailed
      reason_is f = cc

  stop_other : (why : Cause) → stop_cause w h ≡ Some why → IsOther why
  stop_other why e = by (wanted_memory w h) (first_failure w h) refl (first_reason h) refl e
    where
      by : (m : Bool) (x : Option Cause) → first_failure w h ≡ x → (y : Option Reason) → first_reason h ≡ y → unless_memory m (option_or x (cancel_cause y)) ≡ Some why → IsOther why
      by true x f y g e = other_of why cause.Memory (some_is cause.Memory why e) (λ same. cc)
      by false (Some x) f y g e = failure_other why (f ∙ e)
      by false None f (Some reason) g e = other_of why (cause.Cancelled reason) (some_is (cause.Cancelled reason) why e) (reason_other reason g)
      by false None f None g e = absurd (none_is_some why e)

  open_other : (why : Cause) → open_cause w h ≡ Some why → IsOther why
  open_other why e = by (wanted_memory w h) e
    where
      last_other : last_cause w h ≡ Some why → IsOther why
      last_other f =
          let t = tried_last w h why f in
          cancelled_came w t.carried.job.id.op t.carried.job.id.number t.carried.ending why t.cause_is
          (cancelled_idle t.carried (subst (λ (z : History). Has z (Came t.carried)) (sym t.is) (has_middle t.later (Came t.carried) t.before)) t.tried)

      by : (m : Bool) → unless_memory m (last_cause w h) ≡ Some why → IsOther why
      by true f = other_of why cause.Memory (some_is cause.Memory why f) (λ same. cc)
      by false f = last_other f

  -- ---- the outcome

  abbrev Apart : Outcome → Type 0
  Apart how = cause_of (Some how) ≢ Some (cause.Cancelled reason_of.TaskFailed)

  named : (why : Cause) → IsOther why → Some why ≢ Some (cause.Cancelled reason_of.TaskFailed)
  named why other e = other (some_is why (cause.Cancelled reason_of.TaskFailed) e)

  ended_apart : (how : Outcome) → how_ended w h ≡ Some how → Apart how
  ended_apart how e = by (is_whole w h) (is_left_open w h) (is_decided_in w h) e
    where
      unknown : (x : Option Cause) → open_cause w h ≡ x → unknown_for x ≡ Some how → Apart how
      unknown None f g = absurd (none_is_some how g)
      unknown (Some why) f g = subst Apart (some_is (outcome.Unknown why) how g) (named why (open_other why f))

      copied : (x : Option Cause) → stop_cause w h ≡ x → copied_for x ≡ Some how → Apart how
      copied None f g = absurd (none_is_some how g)
      copied (Some why) f g = subst Apart (some_is (outcome.Copied why) how g) (named why (stop_other why f))

      failed : (x : Option Cause) → stop_cause w h ≡ x → failed_for x ≡ Some how → Apart how
      failed None f g = absurd (none_is_some how g)
      failed (Some why) f g = subst Apart (some_is (outcome.Failed why) how g) (named why (stop_other why f))

      by : (whole left decided : Bool) → (if whole then Some outcome.Done else if left then unknown_for (open_cause w h) else if decided then copied_for (stop_cause w h) else failed_for (stop_cause w h)) ≡ Some how → Apart how
      by true left decided f = subst Apart (some_is outcome.Done how f) (λ g. none_is_some (cause.Cancelled reason_of.TaskFailed) g)
      by false true decided f = unknown (open_cause w h) refl f
      by false false true f = copied (stop_cause w h) refl f
      by false false false f = failed (stop_cause w h) refl f

pub none_is_cancelled_by_failing : NoneIsCancelledByFailing
none_is_cancelled_by_failing s events n w how piece run of_plan e = by (nat_lt n (made_count events)) (lacks_memory n events) e
  where
    of_share : outcome_of w (share w n events) ≡ Some how → cause_of (Some how) ≢ Some (cause.Cancelled reason_of.TaskFailed)
    of_share f =
        let is = shares_are_histories s events n w of_plan run in
        let ends = ended_at w piece (share w n events) how is f in
        ended_apart w ends.then_ (earlier w ends.later ends.then_ (subst (IsHistory w) ends.is is)) how ends.so

    memory_apart : Some cause.Memory ≢ Some (cause.Cancelled reason_of.TaskFailed)
    memory_apart f = cc

    by : (made lacks : Bool) → (if made then (if lacks then Some (outcome.Failed cause.Memory) else outcome_of w (share w n events)) else None) ≡ Some how
        → cause_of (Some how) ≢ Some (cause.Cancelled reason_of.TaskFailed)
    by true true f = subst (λ (x : Outcome). cause_of (Some x) ≢ Some (cause.Cancelled reason_of.TaskFailed)) (some_is (outcome.Failed cause.Memory) how f) memory_apart
    by true false f = of_share f
    by false lacks f = absurd (none_is_some how f)
