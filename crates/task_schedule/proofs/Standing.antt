-- How far a job is, from one place of a history to a later one.
use Rattle.std.proofs.Common.{◌≡◌, ◌∙◌, ◌==◌, ◌&&◌, ◌⊎◌, ◌++◌, ℕ, Bool, true, false, [], ◌∷◌, refl, sym, subst, ap, inl, inr, arith}
use Rattle.std.specs.Prelude.{if◌then◌else◌, is_some}
use Rattle.jobs.specs.Endings.{SeenCarried}
use Rattle.job_terms.specs.Ops.{is_op, op_number}
use Rattle.s3_model.specs.declared.requests.Op.{Op}
use Rattle.task_acts.specs.declared.acts.Act.{Act}
use Rattle.task_acts.specs.declared.acts.Act.TheVariants as act
use Rattle.task_acts.specs.declared.acts.Stage.{Stage}
use Rattle.task_acts.specs.declared.acts.Stage.TheVariants as at
use Rattle.task_acts.specs.declared.work.Work.{Work}
use Rattle.task_acts.specs.Failures.{carried_cause, is_cut_short, is_stopped}
use Rattle.task_acts.specs.Histories.{Came, Cancelled, Gave, Happening, History, Returned, Taken, is_act, sent}
use Rattle.task_acts.specs.Kept.{IsHistory}
use Rattle.task_acts.specs.Stages.{carried_stage, file_stage, given_stage, has_done, has_ended, is_out, may_be_given, stage}
use Rattle.std.proofs.lemmas.Bool.{and_parts}
use Rattle.std.specs.Prelude.{Option, Some, None, length}
use Rattle.shared_lemmas.proofs.Members.{Has, split_of}
use Rattle.jobs.specs.declared.ending.Ending.{Ending}
use Rattle.jobs.specs.declared.ending.Ending.TheVariants as ending
use Rattle.s3_model.specs.declared.answers.Reply.{Reply}
use Rattle.s3_model.specs.declared.outcomes.Cause.{Cause}
use Rattle.s3_model.specs.declared.outcomes.Cause.TheVariants as cause
use Rattle.task_acts.specs.Failures.{ended_cause, is_asked_for, is_fine, is_unfinished}
use Rattle.task_acts.specs.Rule.{is_ready_in}
use Rattle.task_progress.proofs.Begun.{has_begun, out_has_begun, same_act}
use Rattle.task_progress.proofs.Endings.{chosen, no, skipped}
use Rattle.task_progress.proofs.Progress.{still_stopped}

same_number : (n : ℕ) → (n == n) ≡ true
same_number n = grind arith

pub act_itself : (o : Op) (k : ℕ) → is_act (act.Send o k) (act.Send o k) ≡ true
act_itself o k = both (is_op o o) (k == k) (same_number (op_number o)) (same_number k)
  where
    both : (a b : Bool) → a ≡ true → b ≡ true → (a && b) ≡ true
    both true true e f = refl
    both true false e f = f
    both false b e f = no e

pub out_is_not_given : (how : Stage) → is_out how ≡ true → may_be_given how ≡ true → false ≡ true
out_is_not_given at.Waiting o g = o
out_is_not_given at.Out o g = g
out_is_not_given at.Kept o g = o
out_is_not_given at.Again o g = g
out_is_not_given at.Fine o g = o
out_is_not_given at.Failed o g = o

pub ended_is_not_given : (how : Stage) → has_ended how ≡ true → may_be_given how ≡ true → false ≡ true
ended_is_not_given at.Waiting e g = e
ended_is_not_given at.Out e g = e
ended_is_not_given at.Kept e g = e
ended_is_not_given at.Again e g = e
ended_is_not_given at.Fine e g = g
ended_is_not_given at.Failed e g = g

ended_is_not_out : (how : Stage) → has_ended how ≡ true → is_out how ≡ true → false ≡ true
ended_is_not_out at.Waiting e o = e
ended_is_not_out at.Out e o = e
ended_is_not_out at.Kept e o = e
ended_is_not_out at.Again e o = e
ended_is_not_out at.Fine e o = o
ended_is_not_out at.Failed e o = o

pub given_is_out : (how : Stage) → is_out (given_stage how) ≡ true
given_is_out at.Waiting = refl
given_is_out at.Out = refl
given_is_out at.Kept = refl
given_is_out at.Again = refl
given_is_out at.Fine = refl
given_is_out at.Failed = refl

begun_by_file : (fine : Bool) → has_begun (if fine then at.Fine else at.Failed) ≡ true
begun_by_file true = refl
begun_by_file false = refl

begun_by_job : (cut stopped cause : Bool) → has_begun (if cut then (if stopped then at.Failed else at.Kept) else if cause then at.Failed else at.Fine) ≡ true
begun_by_job true true cause = refl
begun_by_job true false cause = refl
begun_by_job false stopped true = refl
begun_by_job false stopped false = refl

came_not_out : (cut stopped cause : Bool) → is_out (if cut then (if stopped then at.Failed else at.Kept) else if cause then at.Failed else at.Fine) ≡ true → false ≡ true
came_not_out true true cause e = e
came_not_out true false cause e = e
came_not_out false stopped true e = e
came_not_out false stopped false e = e

file_not_out : (fine : Bool) → is_out (if fine then at.Fine else at.Failed) ≡ true → false ≡ true
file_not_out true e = e
file_not_out false e = e

module _ (w : Work) where
  -- ---- what happened before

  pub earlier : (later h : History) → IsHistory w (later ++ h) → IsHistory w h
  earlier [] h is = is
  earlier (e ∷ later) h is = earlier later h is.1

  pub stays_stopped : (later h : History) → is_stopped w h ≡ true → is_stopped w (later ++ h) ≡ true
  stays_stopped [] h stopped = stopped
  stays_stopped (e ∷ later) h stopped = still_stopped w e (later ++ h) (stays_stopped later h stopped)

  pub was_going : (later h : History) → is_stopped w (later ++ h) ≡ false → is_stopped w h ≡ false
  was_going later h going = by (is_stopped w h) refl
    where
      by : (b : Bool) → is_stopped w h ≡ b → is_stopped w h ≡ false
      by true e = no (sym going ∙ stays_stopped later h e)
      by false e = e

  -- ---- what has ended stays so

  ended_once : (e : Happening) (h : History) (a : Act) → IsHistory w (e ∷ h) → has_ended (stage w h a) ≡ true → stage w (e ∷ h) a ≡ stage w h a
  ended_once (Gave g) h a is ended = by (is_act a g) refl
    where
      by : (b : Bool) → is_act a g ≡ b → (if b then given_stage (stage w h g) else stage w h a) ≡ stage w h a
      by true same = no (ended_is_not_given (stage w h a) ended
          (subst (λ (x : Act). may_be_given (stage w h x) ≡ true) (sym (same_act a g same)) (and_parts (may_be_given (stage w h g)) _ is.0).0))
      by false same = refl
  ended_once (Came c) h a is ended = by (is_act a (sent c)) refl
    where
      by : (b : Bool) → is_act a (sent c) ≡ b → (if b then carried_stage w (is_stopped w h) c else stage w h a) ≡ stage w h a
      by true same = no (ended_is_not_out (stage w h a) ended (subst (λ (x : Act). is_out (stage w h x) ≡ true) (sym (same_act a (sent c) same)) is.0.0))
      by false same = refl
  ended_once (Returned called r) h a is ended = by (is_act a called) refl
    where
      by : (b : Bool) → is_act a called ≡ b → (if b then file_stage r else stage w h a) ≡ stage w h a
      by true same = no (ended_is_not_out (stage w h a) ended (subst (λ (x : Act). is_out (stage w h x) ≡ true) (sym (same_act a called same)) is.0.1))
      by false same = refl
  ended_once (Cancelled reason) h a is ended = refl
  ended_once (Taken o k) h a is ended = refl

  pub ended_stays : (later h : History) (a : Act) → IsHistory w (later ++ h) → has_ended (stage w h a) ≡ true → stage w (later ++ h) a ≡ stage w h a
  ended_stays [] h a is ended = refl
  ended_stays (e ∷ later) h a is ended =
      let rest = ended_stays later h a is.1 ended in
      ended_once e (later ++ h) a is (subst (λ (how : Stage). has_ended how ≡ true) (sym rest) ended) ∙ rest

  done_ended : (how : Stage) → has_done how ≡ true → has_ended how ≡ true
  done_ended at.Fine e = refl
  done_ended how e = no e

  pub done_stays : (later h : History) (a : Act) → IsHistory w (later ++ h) → has_done (stage w h a) ≡ true → has_done (stage w (later ++ h) a) ≡ true
  done_stays later h a is done = subst (λ (how : Stage). has_done how ≡ true) (sym (ended_stays later h a is (done_ended (stage w h a) done))) done

  -- ---- what has begun stays so

  begun_once : (e : Happening) (h : History) (a : Act) → has_begun (stage w h a) ≡ true → has_begun (stage w (e ∷ h) a) ≡ true
  begun_once (Gave g) h a begun = by (is_act a g)
    where
      by : (b : Bool) → has_begun (if b then given_stage (stage w h g) else stage w h a) ≡ true
      by true = out_has_begun (given_stage (stage w h g)) (given_is_out (stage w h g))
      by false = begun
  begun_once (Came c) h a begun = by (is_act a (sent c))
    where
      by : (b : Bool) → has_begun (if b then carried_stage w (is_stopped w h) c else stage w h a) ≡ true
      by true = begun_by_job (is_cut_short w c) (is_stopped w h) (is_some (carried_cause w c))
      by false = begun
  begun_once (Returned called r) h a begun = by (is_act a called)
    where
      by : (b : Bool) → has_begun (if b then file_stage r else stage w h a) ≡ true
      by true = begun_by_file _
      by false = begun
  begun_once (Cancelled reason) h a begun = begun
  begun_once (Taken o k) h a begun = begun

  pub begun_stays : (later h : History) (a : Act) → has_begun (stage w h a) ≡ true → has_begun (stage w (later ++ h) a) ≡ true
  begun_stays [] h a begun = begun
  begun_stays (e ∷ later) h a begun = begun_once e (later ++ h) a (begun_stays later h a begun)

  -- ---- from a giving on

  module _ (o : Op) (k : ℕ) where
    pub given_out : (h : History) → stage w (Gave (act.Send o k) ∷ h) (act.Send o k) ≡ given_stage (stage w h (act.Send o k))
    given_out h = chosen (is_act (act.Send o k) (act.Send o k)) (given_stage (stage w h (act.Send o k))) (stage w h (act.Send o k)) (act_itself o k)

    -- what was given was ready
    pub was_ready : (h : History) → IsHistory w (Gave (act.Send o k) ∷ h) → may_be_given (stage w h (act.Send o k)) ≡ true
    was_ready h is = (and_parts (may_be_given (stage w h (act.Send o k))) _ is.0).0

    -- it has not come since
    pub record IsOutStill (since h : History) : Type 0 where
      pub same : stage w (since ++ h) (act.Send o k) ≡ stage w h (act.Send o k)
      pub none : (c : SeenCarried) → Has since (Came c) → is_act (act.Send o k) (sent c) ≡ false

    -- it came, for the first time since then
    pub record CameFirst (since h : History) : Type 0 where
      pub later : History
      pub between : History
      pub carried : SeenCarried
      pub is : since ≡ later ++ Came carried ∷ between
      pub act_is : is_act (act.Send o k) (sent carried) ≡ true
      pub still : IsOutStill between h

    abbrev pub Went : (since h : History) → Type 0
    Went since h = IsOutStill since h ⊎ CameFirst since h

    nothing_came : (e : Happening) (since h : History) → ((c : SeenCarried) → e ≡ Came c → is_act (act.Send o k) (sent c) ≡ false) → stage w (e ∷ (since ++ h)) (act.Send o k) ≡ stage w (since ++ h) (act.Send o k)
        → IsOutStill since h → Went (e ∷ since) h
    nothing_came e since h none same still = inl (record { same = same ∙ still.same; none = from })
      where
        from : (c : SeenCarried) → Has (e ∷ since) (Came c) → is_act (act.Send o k) (sent c) ≡ false
        from c (inl is) = none c is
        from c (inr before) = still.none c before

    gave_came : (g : Act) (c : SeenCarried) → Gave g ≡ Came c → ⊥
    gave_came g c e = cc

    returned_came : (a : Act) (r : _) (c : SeenCarried) → Returned a r ≡ Came c → ⊥
    returned_came a r c e = cc

    cancelled_came : (r : _) (c : SeenCarried) → Cancelled r ≡ Came c → ⊥
    cancelled_came r c e = cc

    taken_came : (p : Op) (n : ℕ) (c : SeenCarried) → Taken p n ≡ Came c → ⊥
    taken_came p n c e = cc

    came_same : (c d : SeenCarried) → Came c ≡ Came d → c ≡ d
    came_same c d e = cc

    one_on : (e : Happening) (since h : History) → IsHistory w (e ∷ (since ++ h)) → is_out (stage w h (act.Send o k)) ≡ true → IsOutStill since h → Went (e ∷ since) h
    one_on (Gave g) since h is out still = by (is_act (act.Send o k) g) refl
      where
        by : (b : Bool) → is_act (act.Send o k) g ≡ b → Went (Gave g ∷ since) h
        by true same = no (out_is_not_given (stage w (since ++ h) (act.Send o k)) (subst (λ (how : Stage). is_out how ≡ true) (sym still.same) out)
            (subst (λ (x : Act). may_be_given (stage w (since ++ h) x) ≡ true) (sym (same_act (act.Send o k) g same)) (and_parts (may_be_given (stage w (since ++ h) g)) _ is.0).0))
        by false same = nothing_came (Gave g) since h (λ c e. absurd (gave_came g c e)) (skipped (is_act (act.Send o k) g) (given_stage (stage w (since ++ h) g)) (stage w (since ++ h) (act.Send o k)) same) still
    one_on (Came c) since h is out still = by (is_act (act.Send o k) (sent c)) refl
      where
        by : (b : Bool) → is_act (act.Send o k) (sent c) ≡ b → Went (Came c ∷ since) h
        by true same = inr (record { later = []; between = since; carried = c; is = refl; act_is = same; still = still })
        by false same = nothing_came (Came c) since h (λ d e. subst (λ (x : SeenCarried). is_act (act.Send o k) (sent x) ≡ false) (came_same c d e) same)
            (skipped (is_act (act.Send o k) (sent c)) (carried_stage w (is_stopped w (since ++ h)) c) (stage w (since ++ h) (act.Send o k)) same) still
    one_on (Returned (act.Send p n) r) since h is out still = no is.0.0
    one_on (Returned called r) since h is out still = nothing_came (Returned called r) since h (λ c e. absurd (returned_came called r c e)) refl still
    one_on (Cancelled reason) since h is out still = nothing_came (Cancelled reason) since h (λ c e. absurd (cancelled_came reason c e)) refl still
    one_on (Taken p n) since h is out still = nothing_came (Taken p n) since h (λ c e. absurd (taken_came p n c e)) refl still

    pub went : (since h : History) → IsHistory w (since ++ h) → is_out (stage w h (act.Send o k)) ≡ true → Went since h
    went [] h is out = inl (record { same = refl; none = λ c none. absurd none })
    went (e ∷ since) h is out = by (went since h is.1 out)
      where
        by : Went since h → Went (e ∷ since) h
        by (inl still) = one_on e since h is out still
        by (inr came) = inr (record { later = e ∷ came.later; between = came.between; carried = came.carried; is = ap (λ (x : History). e ∷ x) came.is; act_is = came.act_is; still = came.still })

    -- what was given is out, or has come since
    pub since_given : (since before : History) → IsHistory w (since ++ Gave (act.Send o k) ∷ before) → Went since (Gave (act.Send o k) ∷ before)
    since_given since before is = went since (Gave (act.Send o k) ∷ before) is
        (subst (λ (how : Stage). is_out how ≡ true) (sym (given_out before)) (given_is_out (stage w before (act.Send o k))))

  -- ---- what was given

  -- an act that has begun was given
  pub begun_given : (h : History) → IsHistory w h → (a : Act) → has_begun (stage w h a) ≡ true → Has h (Gave a)
  begun_given [] is a begun = no begun
  begun_given (Gave g ∷ h) is a begun = by (is_act a g) refl begun (λ f. begun_given h is.1 a f)
    where
      by : (b : Bool) → is_act a g ≡ b → has_begun (if b then given_stage (stage w h g) else stage w h a) ≡ true → (has_begun (stage w h a) ≡ true → Has h (Gave a)) → Has (Gave g ∷ h) (Gave a)
      by true same f rest = inl (ap Gave (sym (same_act a g same)))
      by false same f rest = inr (rest f)
  begun_given (Came c ∷ h) is a begun = by (is_act a (sent c)) refl begun (λ f. begun_given h is.1 a f)
    where
      by : (b : Bool) → is_act a (sent c) ≡ b → has_begun (if b then carried_stage w (is_stopped w h) c else stage w h a) ≡ true → (has_begun (stage w h a) ≡ true → Has h (Gave a)) → Has (Came c ∷ h) (Gave a)
      by true same f rest = inr (rest (subst (λ (x : Act). has_begun (stage w h x) ≡ true) (sym (same_act a (sent c) same)) (out_has_begun (stage w h (sent c)) is.0.0)))
      by false same f rest = inr (rest f)
  begun_given (Returned called r ∷ h) is a begun = by (is_act a called) refl begun (λ f. begun_given h is.1 a f)
    where
      by : (b : Bool) → is_act a called ≡ b → has_begun (if b then file_stage r else stage w h a) ≡ true → (has_begun (stage w h a) ≡ true → Has h (Gave a)) → Has (Returned called r ∷ h) (Gave a)
      by true same f rest = inr (rest (subst (λ (x : Act). has_begun (stage w h x) ≡ true) (sym (same_act a called same)) (out_has_begun (stage w h called) is.0.1)))
      by false same f rest = inr (rest f)
  begun_given (Cancelled reason ∷ h) is a begun = inr (begun_given h is.1 a begun)
  begun_given (Taken o k ∷ h) is a begun = inr (begun_given h is.1 a begun)

  -- it was ready then
  pub record WasGiven (h : History) (a : Act) : Type 0 where
    pub later : History
    pub before : History
    pub is : h ≡ later ++ Gave a ∷ before
    pub ready : is_ready_in w before a ≡ true
    pub holds : IsHistory w before

  pub was_given : (h : History) → IsHistory w h → (a : Act) → has_begun (stage w h a) ≡ true → WasGiven h a
  was_given h is a begun =
      let split = split_of h (Gave a) (begun_given h is a begun) in
      let then_ = earlier split.front (Gave a ∷ split.back) (subst (IsHistory w) split.is is) in
      record { later = split.front; before = split.back; is = split.is; ready = then_.0; holds = then_.1 }

  -- what is out by now and was not then was given since
  module _ (a : Act) where
    pub given_since : (since h : History) → IsHistory w (since ++ h) → is_out (stage w h a) ≡ false → is_out (stage w (since ++ h) a) ≡ true → Has since (Gave a)
    given_since [] h is not_out out = no (sym not_out ∙ out)
    given_since (Gave g ∷ since) h is not_out out = by (is_act a g) refl out (λ f. given_since since h is.1 not_out f)
      where
        by : (b : Bool) → is_act a g ≡ b → is_out (if b then given_stage (stage w (since ++ h) g) else stage w (since ++ h) a) ≡ true → (is_out (stage w (since ++ h) a) ≡ true → Has since (Gave a))
            → Has (Gave g ∷ since) (Gave a)
        by true same f rest = inl (ap Gave (sym (same_act a g same)))
        by false same f rest = inr (rest f)
    given_since (Came c ∷ since) h is not_out out = by (is_act a (sent c)) out (λ f. given_since since h is.1 not_out f)
      where
        by : (b : Bool) → is_out (if b then carried_stage w (is_stopped w (since ++ h)) c else stage w (since ++ h) a) ≡ true → (is_out (stage w (since ++ h) a) ≡ true → Has since (Gave a))
            → Has (Came c ∷ since) (Gave a)
        by true f rest = no (came_not_out (is_cut_short w c) (is_stopped w (since ++ h)) (is_some (carried_cause w c)) f)
        by false f rest = inr (rest f)
    given_since (Returned called r ∷ since) h is not_out out = by (is_act a called) out (λ f. given_since since h is.1 not_out f)
      where
        by : (b : Bool) → is_out (if b then file_stage r else stage w (since ++ h) a) ≡ true → (is_out (stage w (since ++ h) a) ≡ true → Has since (Gave a))
            → Has (Returned called r ∷ since) (Gave a)
        by true f rest = no (file_not_out (is_fine r) f)
        by false f rest = inr (rest f)
    given_since (Cancelled reason ∷ since) h is not_out out = inr (given_since since h is.1 not_out out)
    given_since (Taken o k ∷ since) h is not_out out = inr (given_since since h is.1 not_out out)

  -- ---- what came with success

  -- a success that is what was asked for has done what it was to do
  module _ (c : SeenCarried) (said : Reply) (gained : c.ending ≡ ending.Gained said) (asked_for : is_asked_for w c.job.id.number said ≡ true) where
    not_cut : is_cut_short w c ≡ false
    not_cut = ap (λ (e : Ending). is_some c.job.cell && is_unfinished w.attempts (length c.tries) e) gained ∙ never (is_some c.job.cell)
      where
        never : (b : Bool) → (b && false) ≡ false
        never true = refl
        never false = refl

    no_cause : is_some (carried_cause w c) ≡ false
    no_cause = ap (λ (e : Ending). is_some (ended_cause w c.job.id.op c.job.id.number e)) gained
        ∙ ap (λ (x : Option Cause). is_some x) (chosen (is_asked_for w c.job.id.number said) None (Some (cause.BadReply c.job.id.op)) asked_for)

    fine_by : (cut stopped why : Bool) → cut ≡ false → why ≡ false → has_done (if cut then (if stopped then at.Failed else at.Kept) else if why then at.Failed else at.Fine) ≡ true
    fine_by true stopped why e f = no (sym e)
    fine_by false stopped true e f = no (sym f)
    fine_by false stopped false e f = refl

    pub success_done : (h : History) → IsHistory w h → Has h (Came c) → has_done (stage w h (sent c)) ≡ true
    success_done h is known =
        let split = split_of h (Came c) known in
        let holds = subst (IsHistory w) split.is is in
        let now : has_done (stage w (Came c ∷ split.back) (sent c)) ≡ true =
        subst (λ (how : Stage). has_done how ≡ true)
        (sym (chosen (is_act (sent c) (sent c)) (carried_stage w (is_stopped w split.back) c) (stage w split.back (sent c)) (act_itself c.job.id.op c.job.id.number)))
        (fine_by (is_cut_short w c) (is_stopped w split.back) (is_some (carried_cause w c)) not_cut no_cause) in
        subst (λ (x : History). has_done (stage w x (sent c)) ≡ true) (sym split.is) (done_stays split.front (Came c ∷ split.back) (sent c) holds now)
