-- How a task is stopped, after one of its jobs was cut short.
use Rattle.std.proofs.Common.{append_assoc, ◌≡◌, ◌≢◌, ◌∙◌, ◌==◌, ◌&&◌, ◌||◌, ◌⊎◌, ◌++◌, ℕ, Bool, true, false, [], ◌∷◌, Option, Some, None, refl, sym, subst, ap, inl, inr, not}
use Rattle.std.proofs.lemmas.Bool.{and_parts}
use Rattle.std.specs.Option.{option_or}
use Rattle.std.specs.Prelude.{is_some}
use Rattle.s3_model.specs.declared.outcomes.Cause.{Cause}
use Rattle.s3_model.specs.declared.outcomes.Reason.{Reason}
use Rattle.s3_model.specs.declared.requests.Op.{Op}
use Rattle.s3_model.specs.declared.requests.Op.TheVariants as op
use Rattle.s3_model.specs.declared.tasks.Kind.{Kind}
use Rattle.s3_model.specs.declared.tasks.Kind.TheVariants as kind
use Rattle.task_acts.specs.declared.acts.Act.{Act}
use Rattle.task_acts.specs.declared.acts.Act.TheVariants as act
use Rattle.task_acts.specs.declared.acts.Stage.{Stage}
use Rattle.task_acts.specs.declared.acts.Stage.TheVariants as at
use Rattle.task_acts.specs.declared.work.Work.{Work}
use Rattle.task_acts.specs.Failures.{failure_by, first_failure, first_reason, is_stopped, reason_by}
use Rattle.task_acts.specs.Histories.{Came, Cancelled, Gave, Happening, History, Returned, Taken, is_act, sent}
use Rattle.task_acts.specs.Kept.{IsHistory}
use Rattle.task_acts.specs.Rule.{is_decided, is_decided_by, is_due, is_each_done, is_named}
use Rattle.task_acts.specs.Stages.{carried_stage, given_stage, has_done, has_ended, is_out, may_be_given, stage}
use Rattle.task_acts.specs.Work.{deciding_op, is_piece, numbers}
use Rattle.shared_lemmas.proofs.Clashes.{none_is_some, some_is}
use Rattle.shared_lemmas.proofs.Members.{Has}
use Rattle.task_progress.specs.Progress.{HasPiece}
use Rattle.task_progress.proofs.Begun.{has_begun, out_has_begun, same_act}
use Rattle.task_progress.proofs.Endings.{no, skipped}
use Rattle.task_progress.proofs.Progress.{all_from, all_has, both}
use Rattle.task_progress.proofs.Quiet.{IsQuiet, not_ready}
use Rattle.task_schedule.specs.Journals.{fails_otherwise, is_otherwise}
use Rattle.task_schedule.proofs.Givings.{stopped_is_abort}
use Rattle.task_schedule.proofs.Standing.{WasGiven, done_stays, ended_stays, stays_stopped, was_given}
use Rattle.task_acts.proofs.RuleLaws.{aborts_are_last}

module _ (w : Work) where
  -- ---- what is kept

  kept_is_not_out : (how : Stage) → how ≡ at.Kept → is_out how ≡ true → false ≡ true
  kept_is_not_out how e o = subst (λ (x : Stage). is_out x ≡ true) e o

  -- a job that was kept is given again, or kept still
  module _ (o : Op) (k : ℕ) where
    abbrev pub GivenOrKept : History → History → Type 0
    GivenOrKept later h = Has later (Gave (act.Send o k)) ⊎ (stage w (later ++ h) (act.Send o k) ≡ at.Kept)

    later_too : (e : Happening) (later h : History) → stage w (e ∷ (later ++ h)) (act.Send o k) ≡ stage w (later ++ h) (act.Send o k) → GivenOrKept later h → GivenOrKept (e ∷ later) h
    later_too e later h same (inl given) = inl (inr given)
    later_too e later h same (inr kept) = inr (same ∙ kept)

    pub given_or_kept : (later h : History) → IsHistory w (later ++ h) → stage w h (act.Send o k) ≡ at.Kept → GivenOrKept later h
    given_or_kept [] h is kept = inr kept
    given_or_kept (Gave g ∷ later) h is kept = by (is_act (act.Send o k) g) refl (given_or_kept later h is.1 kept)
      where
        by : (b : Bool) → is_act (act.Send o k) g ≡ b → GivenOrKept later h → GivenOrKept (Gave g ∷ later) h
        by true same rest = inl (inl (ap Gave (sym (same_act (act.Send o k) g same))))
        by false same rest = later_too (Gave g) later h (skipped (is_act (act.Send o k) g) (given_stage (stage w (later ++ h) g)) (stage w (later ++ h) (act.Send o k)) same) rest
    given_or_kept (Came c ∷ later) h is kept = by (is_act (act.Send o k) (sent c)) refl (given_or_kept later h is.1 kept)
      where
        by : (b : Bool) → is_act (act.Send o k) (sent c) ≡ b → GivenOrKept later h → GivenOrKept (Came c ∷ later) h
        by true same (inl given) = inl (inr given)
        by true same (inr still) = no (kept_is_not_out (stage w (later ++ h) (act.Send o k)) still (subst (λ (a : Act). is_out (stage w (later ++ h) a) ≡ true) (sym (same_act (act.Send o k) (sent c) same)) is.0.0))
        by false same rest = later_too (Came c) later h (skipped (is_act (act.Send o k) (sent c)) (carried_stage w (is_stopped w (later ++ h)) c) (stage w (later ++ h) (act.Send o k)) same) rest
    given_or_kept (Returned (act.Send p n) r ∷ later) h is kept = no is.0.0
    given_or_kept (Returned called r ∷ later) h is kept = later_too (Returned called r) later h refl (given_or_kept later h is.1 kept)
    given_or_kept (Cancelled reason ∷ later) h is kept = later_too (Cancelled reason) later h refl (given_or_kept later h is.1 kept)
    given_or_kept (Taken p n ∷ later) h is kept = later_too (Taken p n) later h refl (given_or_kept later h is.1 kept)

  -- ---- what was due is due still

  module _ (f g : Act → Stage) (done : (a : Act) → has_done (f a) ≡ true → has_done (g a) ≡ true) (ended : (a : Act) → has_ended (f a) ≡ true → has_ended (g a) ≡ true) where
    each_grows : (act_of : ℕ → Act) → is_each_done w f false act_of ≡ true → is_each_done w g false act_of ≡ true
    each_grows act_of e = all_from (λ n. has_done (g (act_of n))) (numbers w) (λ n known. done (act_of n) (all_has (λ m. has_done (f (act_of m))) (numbers w) e n known))

    last_grows : (a x y : Bool) → (x ≡ true → y ≡ true) → (a && x) ≡ true → (a && y) ≡ true
    last_grows a x y grows e = let two = and_parts a x e in both a y two.0 (grows two.1)

    two_grow : (a x y p q : Bool) → (x ≡ true → y ≡ true) → (p ≡ true → q ≡ true) → (a && x && p) ≡ true → (a && y && q) ≡ true
    two_grow a x y p q first second e = let two = and_parts (a && x) p e in both (a && y) q (last_grows a x y first two.0) (second two.1)

    copied : w.of_kind ≡ kind.Copy → is_decided w f false ≡ true → is_decided w g false ≡ true
    copied is d = subst (λ (x : Kind). is_decided_by w g false x ≡ true) (sym is) (done (act.Send (deciding_op w) 0) (subst (λ (x : Kind). is_decided_by w f false x ≡ true) is d))

    due_grows : (k : Kind) → w.of_kind ≡ k → (o : Op) (n : ℕ) → is_due w f false k (act.Send o n) ≡ true → is_due w g false k (act.Send o n) ≡ true
    due_grows kind.Upload is op.Put n e = last_grows (w.small && is_piece w n) _ _ (done (act.Read n)) e
    due_grows kind.Upload is op.Create n e = e
    due_grows kind.Upload is op.Part n e = last_grows (not w.small && is_piece w n) _ _ (done (act.Read n)) e
    due_grows kind.Upload is op.Complete n e = two_grow (not w.small && (n == 0)) _ _ _ _ (done (act.Send op.Create 0)) (each_grows (act.Send op.Part)) e
    due_grows kind.Upload is o n e = no e
    due_grows kind.Download is op.Get n e = last_grows (is_piece w n) _ _ (done act.Assemble) e
    due_grows kind.Download is op.Delete n e = last_grows (w.moves && (n == 0)) _ _ (ended act.Stamp) e
    due_grows kind.Download is o n e = no e
    due_grows kind.Copy is op.Copy n e = e
    due_grows kind.Copy is op.Create n e = e
    due_grows kind.Copy is op.PartCopy n e = last_grows (not w.small && is_piece w n) _ _ (done (act.Send op.Create 0)) e
    due_grows kind.Copy is op.Complete n e = two_grow (not w.small && (n == 0)) _ _ _ _ (done (act.Send op.Create 0)) (each_grows (act.Send op.PartCopy)) e
    due_grows kind.Copy is op.Delete n e = last_grows (w.moves && (n == 0)) _ _ (copied is) e
    due_grows kind.Copy is o n e = no e
    due_grows kind.RemoveObject is op.Delete n e = e
    due_grows kind.RemoveObject is o n e = no e
    due_grows kind.RemoveFile is o n e = no e

  kept_begun : (how : Stage) → how ≡ at.Kept → (has_begun how ≡ true) × (may_be_given how ≡ true)
  kept_begun how e = subst (λ (x : Stage). (has_begun x ≡ true) × (may_be_given x ≡ true)) (sym e) (refl, refl)

  -- A job is kept at the end only where the task was stopped.
  module _ (h : History) (piece : HasPiece w) (is : IsHistory w h) (quiet : IsQuiet w h) (o : Op) (k : ℕ) (apart : o ≢ op.Abort) (kept : stage w h (act.Send o k) ≡ at.Kept) where
    pub kept_stopped : is_stopped w h ≡ true
    kept_stopped = by (is_stopped w h) refl
      where
        begun : (has_begun (stage w h (act.Send o k)) ≡ true) × (may_be_given (stage w h (act.Send o k)) ≡ true)
        begun = kept_begun (stage w h (act.Send o k)) kept

        given : WasGiven w h (act.Send o k)
        given = was_given w h is (act.Send o k) begun.0

        due_then : (b : Bool) → is_stopped w given.before ≡ b → is_named w (stage w given.before) b (act.Send o k) ≡ true → is_due w (stage w given.before) false w.of_kind (act.Send o k) ≡ true
        due_then true stopped named = absurd (apart (stopped_is_abort w given.before o k given.ready stopped))
        due_then false stopped named = named

        whole : IsHistory w ((given.later ++ Gave (act.Send o k) ∷ []) ++ given.before)
        whole = subst (IsHistory w) (given.is ∙ sym (append_assoc given.later (Gave (act.Send o k) ∷ []) given.before)) is

        still : is_stopped w h ≡ false → false ≡ true
        still going =
            let same : h ≡ (given.later ++ Gave (act.Send o k) ∷ []) ++ given.before = given.is ∙ sym (append_assoc given.later (Gave (act.Send o k) ∷ []) given.before) in
            let named = (and_parts (may_be_given (stage w given.before (act.Send o k))) _ given.ready).1 in
            let due = due_then (is_stopped w given.before) refl named in
            let now = due_grows (stage w given.before) (stage w h)
            (λ a e. subst (λ (x : History). has_done (stage w x a) ≡ true) (sym same) (done_stays w (given.later ++ Gave (act.Send o k) ∷ []) given.before a whole e))
            (λ a e. subst (λ (x : History). has_ended (stage w x a) ≡ true) (sym same) (subst (λ (how : Stage). has_ended how ≡ true) (sym (ended_stays w (given.later ++ Gave (act.Send o k) ∷ []) given.before a whole e)) e))
            w.of_kind refl o k due in
            not_ready w h piece is quiet (act.Send o k) (both _ _ begun.1 (subst (λ (b : Bool). is_named w (stage w h) b (act.Send o k) ≡ true) (sym going) now))

        by : (b : Bool) → is_stopped w h ≡ b → is_stopped w h ≡ true
        by true e = e
        by false e = no (still e)

  -- ---- what stopped it

  pub neither : (a b : Bool) → (a || b) ≡ false → (a ≡ false) × (b ≡ false)
  neither true b e = no (sym e)
  neither false b e = (refl, e)

  one_of : (a b : Bool) → (a || b) ≡ true → (a ≡ true) ⊎ (b ≡ true)
  one_of true b e = inl refl
  one_of false b e = inr e

  newly : {X : Type 0} (x y : Option X) → is_some x ≡ false → is_some (option_or x y) ≡ true → is_some y ≡ true
  newly None y e f = f
  newly (Some x) y e f = no (sym e)

  -- a cancel, or a failure
  pub stopped_by : (e : Happening) (h : History) → is_stopped w h ≡ false → is_stopped w (e ∷ h) ≡ true → (is_some (failure_by w e) ≡ true) ⊎ (is_some (reason_by e) ≡ true)
  stopped_by e h going stopped =
      let none = neither (is_some (first_failure w h)) (is_some (first_reason h)) going in
      elim (one_of (is_some (option_or (first_failure w h) (failure_by w e))) (is_some (option_or (first_reason h) (reason_by e))) stopped) [
        | inl failed ↦ inl (newly (first_failure w h) (failure_by w e) none.0 failed)
        | inr cancelled ↦ inr (newly (first_reason h) (reason_by e) none.1 cancelled)
      ]

  -- ---- a failure by a call on files, or for want of memory

  pub otherwise_stays : (later h : History) → fails_otherwise w h ≡ true → fails_otherwise w (later ++ h) ≡ true
  otherwise_stays [] h e = e
  otherwise_stays (x ∷ later) h e = first (fails_otherwise w (later ++ h)) _ (otherwise_stays later h e)
    where
      first : (a b : Bool) → a ≡ true → (a || b) ≡ true
      first true b f = refl
      first false b f = no f

  pub otherwise_now : (e : Happening) (h : History) → is_stopped w h ≡ false → is_otherwise w e ≡ true → fails_otherwise w (e ∷ h) ≡ true
  otherwise_now e h going is =
      let none = (neither (is_some (first_failure w h)) (is_some (first_reason h)) going).0 in
      second (fails_otherwise w h) _ (both (not (is_some (first_failure w h))) (is_otherwise w e) (ap not none) is)
    where
      second : (a b : Bool) → b ≡ true → (a || b) ≡ true
      second true b f = refl
      second false b f = f

-- ---- an Abort is out only where the task was stopped

module _ (w : Work) where
  pub abort_stopped : (h : History) (k : ℕ) → IsHistory w h → is_out (stage w h (act.Send op.Abort k)) ≡ true → is_stopped w h ≡ true
  abort_stopped h k is out =
      let given = was_given w h is (act.Send op.Abort k) (out_has_begun (stage w h (act.Send op.Abort k)) out) in
      let last = (aborts_are_last w given.before k given.ready).1 in
      subst (λ (x : History). is_stopped w x ≡ true) (sym given.is) (subst (λ (x : History). is_stopped w x ≡ true) (append_assoc given.later (Gave (act.Send op.Abort k) ∷ []) given.before)
      (stays_stopped w (given.later ++ Gave (act.Send op.Abort k) ∷ []) given.before last.stopped))

-- ---- failures and cancels in a history

module _ (w : Work) where
  -- a failure is there
  pub failure_there : (h : History) (e : Happening) → Has h e → is_some (failure_by w e) ≡ true → is_some (first_failure w h) ≡ true
  failure_there [] e known some = absurd known
  failure_there (x ∷ h) e (inl same) some = second (first_failure w h) (failure_by w x) (ap (λ (y : Happening). is_some (failure_by w y)) same ∙ some)
    where
      second : (a b : Option Cause) → is_some b ≡ true → is_some (option_or a b) ≡ true
      second None b f = f
      second (Some a) b f = refl
  failure_there (x ∷ h) e (inr known) some = first (first_failure w h) (failure_by w x) (failure_there h e known some)
    where
      first : (a b : Option Cause) → is_some a ≡ true → is_some (option_or a b) ≡ true
      first None b f = no f
      first (Some a) b f = refl

  pub failure_stays : (later h : History) → is_some (first_failure w h) ≡ true → is_some (first_failure w (later ++ h)) ≡ true
  failure_stays [] h e = e
  failure_stays (x ∷ later) h e = first (first_failure w (later ++ h)) (failure_by w x) (failure_stays later h e)
    where
      first : (a b : Option Cause) → is_some a ≡ true → is_some (option_or a b) ≡ true
      first None b f = no f
      first (Some a) b f = refl

pub reason_there : (h : History) (reason : Reason) → first_reason h ≡ Some reason → Has h (Cancelled reason)
reason_there [] reason e = absurd (none_is_some reason e)
reason_there (x ∷ h) reason e = by (first_reason h) refl e (λ r f. reason_there h r f)
  where
    here : (y : Happening) → reason_by y ≡ Some reason → y ≡ Cancelled reason
    here (Cancelled r) f = ap Cancelled (some_is r reason f)
    here y f = absurd (none_is_some reason f)

    by : (o : Option Reason) → first_reason h ≡ o → option_or o (reason_by x) ≡ Some reason → ((r : Reason) → first_reason h ≡ Some r → Has h (Cancelled r)) → Has (x ∷ h) (Cancelled reason)
    by None f g rest = inl (here x g)
    by (Some r) f g rest = inr (subst (λ (z : Reason). Has h (Cancelled z)) (some_is r reason g) (rest r f))
