-- The cause that a job shows is that of its last talk.
use Rattle.std.proofs.Common.{◌≡◌, ◌≢◌, ◌∙◌, ◌==◌, ◌||◌, ◌⊎◌, ◌++◌, ◌∷◌, ℕ, Bool, true, false, List, Option, Some, None, Contains, codes, length, refl, sym, subst, ap, inl, inr, arith, slice_get}
use Rattle.std.proofs.lemmas.Bool.{and_parts, eqb-true}
use Rattle.std.proofs.lemmas.Slice.Eq.{bytes_eq-Decides}
use Rattle.std.specs.Prelude.{if◌then◌else◌, is_some}
use Rattle.std.specs.Str.{bytes_eq}
use Rattle.jobs.specs.Endings.{IsEnded, SeenCarried}
use Rattle.jobs.specs.declared.ending.Ending.{Ending}
use Rattle.jobs.specs.declared.ending.Ending.TheVariants as ending
use Rattle.manager_moves.specs.Runs.{Events, Sent, Shared}
use Rattle.run_promise.specs.Dispatches.{FitsAsk}
use Rattle.job_terms.specs.Dispatches.{Attempt, Dispatched}
use Rattle.run_promise.specs.Outcomes.{IsCauseOf, IsLastCause, ReadsSource, SaysChanged}
use Rattle.run_promise.specs.Schedule.{Setting}
use Rattle.s3_model.specs.Talks.{Talk}
use Rattle.s3_model.specs.declared.answers.Class.{Class}
use Rattle.s3_model.specs.declared.answers.Class.TheVariants as class
use Rattle.s3_model.specs.declared.answers.Reply.{Reply}
use Rattle.s3_model.specs.declared.answers.Why.{Why}
use Rattle.s3_model.specs.declared.answers.Why.TheVariants as reason_of
use Rattle.s3_model.specs.declared.outcomes.Cause.{Cause}
use Rattle.s3_model.specs.declared.outcomes.Cause.TheVariants as cause
use Rattle.s3_model.specs.declared.outcomes.JobId.{JobId}
use Rattle.s3_model.specs.declared.outcomes.Reason.{Reason}
use Rattle.s3_model.specs.declared.requests.Ask.{Ask}
use Rattle.s3_model.specs.declared.requests.Op.{Op}
use Rattle.s3_model.specs.declared.requests.Op.TheVariants as op
use Rattle.shared_lemmas.proofs.Clashes.{none_is_some, some_is}
use Rattle.task_acts.specs.declared.work.Work.{Work}
use Rattle.task_acts.specs.Failures.{carried_cause, ended_cause, is_asked_for, is_cut_short, is_memory, is_unfinished, lost_cause, reads_source, refused_cause, says_changed}
use Rattle.task_progress.proofs.Endings.{no}
use Rattle.task_progress.proofs.Progress.{both}
use Rattle.task_schedule.specs.Journals.{EndsAs, IsBack, IsRunOf, ShowOne, ShowsLast}
use Rattle.task_schedule.proofs.Joined.{back_at, is_ended}
use Rattle.task_schedule.proofs.SentJobs.{IsAt}
use Rattle.task_schedule.proofs.Wellness.{asked_as, asked_for, number_is, replies}
use Rattle.task_outcomes.specs.Causes.{HaveOneStatus, StatusesAreShown}

-- ---- tests

reads_is : (o : Op) → reads_source o ≡ true → ReadsSource o
reads_is op.Get e = tt
reads_is op.Copy e = tt
reads_is op.PartCopy e = tt
reads_is o e = no e

is_reads : (o : Op) → ReadsSource o → reads_source o ≡ true
is_reads op.Get r = refl
is_reads op.Copy r = refl
is_reads op.PartCopy r = refl
is_reads o r = absurd r

same_number : (m n : ℕ) → m ≡ n → (m == n) ≡ true
same_number m n e = grind arith

one_of : (a b : Bool) → (a || b) ≡ true → (a ≡ true) ⊎ (b ≡ true)
one_of true b e = inl refl
one_of false b e = inr e

or_first : (a b : Bool) → a ≡ true → (a || b) ≡ true
or_first true b e = refl
or_first false b e = no e

or_second : (a b : Bool) → b ≡ true → (a || b) ≡ true
or_second true b e = refl
or_second false b e = e

refusal_code : (code other message words : List ℕ) → class.Refusal code message ≡ class.Refusal other words → code ≡ other
refusal_code code other message words e = cc

-- a cause that a job shows, but want of memory
abbrev pub IsOfJob : Cause → Type 0
IsOfJob (cause.Service of_op code message) = Unit {0}
IsOfJob (cause.Lost of_op reason) = Unit {0}
IsOfJob cause.Changed = Unit {0}
IsOfJob (cause.BadReply of_op) = Unit {0}
IsOfJob why = ⊥

module _ (Shows : Ask → ℕ → Talk → Class → List ℕ → Type 0) (HasStatus : Ask → ℕ → Talk → ℕ → Type 0) (CallFailed : ℕ → Cause → Type 0)
    (s : Shared) (setting : Setting) (planned : ℕ) (events : Events) (dispatched coming : List Dispatched) (r : IsRunOf Shows s setting planned events dispatched coming)
    (one : ShowOne Shows) (status_one : HaveOneStatus Shows HasStatus CallFailed) (statuses : StatusesAreShown Shows HasStatus CallFailed planned events dispatched)
    (n : ℕ) (w : Work) (of_plan : slice_get s.works n ≡ Some w) (o : Op) (k : ℕ) (x : Dispatched) (known : Contains dispatched x)
    (a : IsAt Shows s setting planned events dispatched coming r n w of_plan o k x) (back : IsBack Shows planned a.later (Sent n o k a.lane ∷ a.before) x) where
  abbrev c : SeenCarried
  c = back.carried

  abbrev IsCause : Cause → Type 0
  IsCause why = IsLastCause Shows HasStatus x why

  job_op : c.job.id.op ≡ x.dispatch.job.op
  job_op = ap (λ (j : JobId). j.op) back.of_job

  -- its last talk
  from_last : (of_class : Class) (shown : ShowsLast Shows x of_class) (why : Cause) → IsCauseOf Shows HasStatus x (Some shown.attempt) why → IsCause why
  from_last of_class shown why is = subst (λ (t : Option Attempt). IsCauseOf Shows HasStatus x t why) (sym shown.last) is

  -- ---- a reply that was not asked for

  bad_reply : (said : Reply) → c.ending ≡ ending.Gained said → is_asked_for w c.job.id.number said ≡ false → EndsAs Shows x (ending.Gained said) → IsCause (cause.BadReply c.job.id.op)
  bad_reply said gained other shown = from_last (class.Success said) shown (cause.BadReply c.job.id.op) (job_op, said, shown.bytes, shown.shows, not_fitting)
    where
      not_fitting : FitsAsk x x.ask (class.Success said) → ⊥
      not_fitting fit =
          let its = asked_as Shows s setting planned events dispatched coming r n w of_plan o k x known a back in
          let asked = asked_for w x k its.size_is its.limit_is its.small o said its.shape (replies Shows s setting planned events dispatched coming r n w of_plan o k x known a back said gained) fit in
          no (sym (ap (λ (m : ℕ). is_asked_for w m said) (sym (number_is Shows s setting planned events dispatched coming r n w of_plan o k x known a back)) ∙ other) ∙ asked)

  -- ---- a refusal

  module _ (status : ℕ) (code message : List ℕ) (refused : c.ending ≡ ending.Refused status code message) (shown : ShowsLast Shows x (class.Refusal code message)) where
    has_status : HasStatus x.ask x.limit shown.attempt.talk status
    has_status =
        let found = statuses back.newer (back.between ++ Sent n o k a.lane ∷ a.before) back.lane c x status code message (back_at Shows s setting planned events dispatched coming r n w of_plan o k x a back) known back.came_at refused in
        subst (λ (t : Attempt). HasStatus x.ask x.limit t.talk status) (some_is found.0 shown.attempt (sym found.1 ∙ shown.last)) found.2

    changed : says_changed c.job.id.op status code ≡ true → SaysChanged Shows HasStatus x shown.attempt
    changed e =
        let two = and_parts (reads_source c.job.id.op) ((status == 412) || bytes_eq (codes "PreconditionFailed") code) e in
        (reads_is x.dispatch.job.op (ap reads_source (sym job_op) ∙ two.0), (code, message, shown.bytes, shown.shows, by (one_of (status == 412) (bytes_eq (codes "PreconditionFailed") code) two.1)))
      where
        by : ((status == 412) ≡ true) ⊎ (bytes_eq (codes "PreconditionFailed") code ≡ true) → HasStatus x.ask x.limit shown.attempt.talk 412 ⊎ (code ≡ codes "PreconditionFailed")
        by (inl e) = inl (subst (λ (m : ℕ). HasStatus x.ask x.limit shown.attempt.talk m) (eqb-true status 412 e) has_status)
        by (inr e) = inr (sym ((bytes_eq-Decides (codes "PreconditionFailed") code).0 e))

    unchanged : says_changed c.job.id.op status code ≡ false → ¬ (SaysChanged Shows HasStatus x shown.attempt)
    unchanged e says = no (sym e ∙ both (reads_source c.job.id.op) ((status == 412) || bytes_eq (codes "PreconditionFailed") code) (ap reads_source job_op ∙ is_reads x.dispatch.job.op says.0)
        (by says.1.4))
      where
        same_code : says.1.0 ≡ code
        same_code = refusal_code says.1.0 code says.1.1 message (one x.ask x.limit shown.attempt.talk (class.Refusal says.1.0 says.1.1) (class.Refusal code message) says.1.2 shown.bytes says.1.3 shown.shows)

        by : HasStatus x.ask x.limit shown.attempt.talk 412 ⊎ (says.1.0 ≡ codes "PreconditionFailed") → ((status == 412) || bytes_eq (codes "PreconditionFailed") code) ≡ true
        by (inl is) = or_first (status == 412) (bytes_eq (codes "PreconditionFailed") code) (same_number status 412 (status_one x.ask x.limit shown.attempt.talk status 412 has_status is))
        by (inr is) = or_second (status == 412) (bytes_eq (codes "PreconditionFailed") code) ((bytes_eq-Decides (codes "PreconditionFailed") code).1 (sym is ∙ same_code))

    refusal_shown : (why : Cause) → refused_cause c.job.id.op status code message ≡ why → IsCause why × IsOfJob why
    refusal_shown why is = by (says_changed c.job.id.op status code) refl is
      where
        by : (b : Bool) → says_changed c.job.id.op status code ≡ b → (if b then cause.Changed else cause.Service c.job.id.op code message) ≡ why → IsCause why × IsOfJob why
        by true e f = subst (λ (y : Cause). IsCause y × IsOfJob y) f (from_last (class.Refusal code message) shown cause.Changed (changed e), tt)
        by false e f = subst (λ (y : Cause). IsCause y × IsOfJob y) f
            (from_last (class.Refusal code message) shown (cause.Service c.job.id.op code message) (job_op, (shown.bytes, shown.shows), unchanged e), tt)

  -- ---- no certain answer

  module _ (reason : Why) (apart : reason ≢ reason_of.Memory) (shown : ShowsLast Shows x (class.Uncertain reason)) where
    lost_shown : IsCause (cause.Lost c.job.id.op reason)
    lost_shown = from_last (class.Uncertain reason) shown (cause.Lost c.job.id.op reason) (job_op, apart, shown.bytes, shown.shows)

  -- ---- by the ending

  abbrev Shown : Cause → Type 0
  Shown why = IsCause why × IsOfJob why

  lost : (reason : Why) → EndsAs Shows x (ending.Uncertain reason) → (why : Cause) → lost_cause c.job.id.op reason ≡ why → is_memory (Some why) ≡ false → Shown why
  lost reason_of.Memory shown why is m = no (sym m ∙ ap (λ (y : Cause). is_memory (Some y)) (sym is))
  lost reason_of.WireFailed shown why is m = subst Shown is (lost_shown reason_of.WireFailed (λ e. cc) shown, tt)
  lost reason_of.EndedEarly shown why is m = subst Shown is (lost_shown reason_of.EndedEarly (λ e. cc) shown, tt)
  lost reason_of.NotHttp shown why is m = subst Shown is (lost_shown reason_of.NotHttp (λ e. cc) shown, tt)
  lost reason_of.HeadTooLong shown why is m = subst Shown is (lost_shown reason_of.HeadTooLong (λ e. cc) shown, tt)
  lost (reason_of.BodyTooLong limit) shown why is m = subst Shown is (lost_shown (reason_of.BodyTooLong limit) (λ e. cc) shown, tt)
  lost reason_of.BadLength shown why is m = subst Shown is (lost_shown reason_of.BadLength (λ e. cc) shown, tt)
  lost reason_of.BadChunk shown why is m = subst Shown is (lost_shown reason_of.BadChunk (λ e. cc) shown, tt)
  lost (reason_of.Status status) shown why is m = subst Shown is (lost_shown (reason_of.Status status) (λ e. cc) shown, tt)
  lost reason_of.Internal shown why is m = subst Shown is (lost_shown reason_of.Internal (λ e. cc) shown, tt)
  lost reason_of.Document shown why is m = subst Shown is (lost_shown reason_of.Document (λ e. cc) shown, tt)

  by_ending : (of : Ending) → c.ending ≡ of → EndsAs Shows x of → (why : Cause) → ended_cause w c.job.id.op c.job.id.number of ≡ Some why → is_memory (Some why) ≡ false → ((reason : Reason) → of ≢ ending.Cancelled reason) → Shown why
  by_ending (ending.Gained said) e shown why is m apart = by (is_asked_for w c.job.id.number said) refl is
    where
      by : (b : Bool) → is_asked_for w c.job.id.number said ≡ b → (if b then None else Some (cause.BadReply c.job.id.op)) ≡ Some why → Shown why
      by true f g = absurd (none_is_some why g)
      by false f g = subst Shown (some_is (cause.BadReply c.job.id.op) why g) (bad_reply said e f shown, tt)
  by_ending (ending.Refused status code message) e shown why is m apart = refusal_shown status code message e shown why (some_is (refused_cause c.job.id.op status code message) why is)
  by_ending (ending.Uncertain reason) e shown why is m apart = lost reason shown why (some_is (lost_cause c.job.id.op reason) why is) m
  by_ending (ending.Cancelled reason) e shown why is m apart = absurd (apart reason refl)
  by_ending ending.Memory e shown why is m apart = no (sym m ∙ ap (λ (y : Cause). is_memory (Some y)) (sym (some_is cause.Memory why is)))

  -- the cause that the job shows is that of its last talk
  pub cause_shown : (why : Cause) → carried_cause w back.carried ≡ Some why → is_memory (Some why) ≡ false → ((reason : Reason) → back.carried.ending ≢ ending.Cancelled reason)
      → IsLastCause Shows HasStatus x why × IsOfJob why
  cause_shown why is m apart = by_ending c.ending refl back.brings.ends why is m apart

  -- a job that came back without a talk for a reason of its cell was cut short
  pub not_cancelled : is_cut_short w back.carried ≡ false → (reason : Reason) → back.carried.ending ≢ ending.Cancelled reason
  not_cancelled not_cut reason e =
      let ended = subst (λ (y : Ending). IsEnded y c.job.id.op c.job.part c.job.cell c.tries) e (is_ended Shows s setting planned events dispatched coming r n w of_plan o k x a back) in
      no (sym not_cut ∙ both (is_some c.job.cell) (is_unfinished w.attempts (length c.tries) c.ending) ended.1 (ap (is_unfinished w.attempts (length c.tries)) e))

-- only a request that reads a source shows that it changed
pub changed_reads : (w : Work) (c : SeenCarried) (of : Ending) → ended_cause w c.job.id.op c.job.id.number of ≡ Some cause.Changed → reads_source c.job.id.op ≡ true
changed_reads w c (ending.Gained said) e = by (is_asked_for w c.job.id.number said) e
  where
    clash : cause.BadReply c.job.id.op ≡ cause.Changed → ⊥
    clash f = cc

    by : (b : Bool) → (if b then None else Some (cause.BadReply c.job.id.op)) ≡ Some cause.Changed → reads_source c.job.id.op ≡ true
    by true f = absurd (none_is_some cause.Changed f)
    by false f = absurd (clash (some_is (cause.BadReply c.job.id.op) cause.Changed f))
changed_reads w c (ending.Refused status code message) e = by (says_changed c.job.id.op status code) refl (some_is (refused_cause c.job.id.op status code message) cause.Changed e)
  where
    clash : cause.Service c.job.id.op code message ≡ cause.Changed → ⊥
    clash f = cc

    by : (b : Bool) → says_changed c.job.id.op status code ≡ b → (if b then cause.Changed else cause.Service c.job.id.op code message) ≡ cause.Changed → reads_source c.job.id.op ≡ true
    by true is f = (and_parts (reads_source c.job.id.op) _ is).0
    by false is f = absurd (clash f)
changed_reads w c (ending.Uncertain reason) e = absurd (clash c.job.id.op reason (some_is (lost_cause c.job.id.op reason) cause.Changed e))
  where
    clash : (o : Op) (reason : Why) → lost_cause o reason ≡ cause.Changed → ⊥
    clash o reason_of.Memory f = cc
    clash o reason_of.WireFailed f = cc
    clash o reason_of.EndedEarly f = cc
    clash o reason_of.NotHttp f = cc
    clash o reason_of.HeadTooLong f = cc
    clash o (reason_of.BodyTooLong limit) f = cc
    clash o reason_of.BadLength f = cc
    clash o reason_of.BadChunk f = cc
    clash o (reason_of.Status status) f = cc
    clash o reason_of.Internal f = cc
    clash o reason_of.Document f = cc
changed_reads w c (ending.Cancelled reason) e = absurd (clash (some_is (cause.Cancelled reason) cause.Changed e))
  where
    clash : cause.Cancelled reason ≡ cause.Changed → ⊥
    clash f = cc
changed_reads w c ending.Memory e = absurd (clash (some_is cause.Memory cause.Changed e))
  where
    clash : cause.Memory ≡ cause.Changed → ⊥
    clash f = cc
