-- Once nothing is ready and nothing is out it stays so, and there is an outcome.
use Rattle.std.proofs.Common.{◌≡◌, ◌∙◌, ◌&&◌, ◌||◌, ℕ, Bool, true, false, List, Option, Some, None, refl, sym, subst, ap, inl, inr, not}
use Rattle.std.proofs.lemmas.Bool.{and_parts}
use Rattle.std.specs.List.{find}
use Rattle.std.specs.Option.{option_or}
use Rattle.std.specs.Prelude.{[], ◌∷◌, ◌==◌, is_some, if◌then◌else◌}
use Rattle.s3_model.specs.declared.outcomes.Cause.{Cause}
use Rattle.s3_model.specs.declared.outcomes.Outcome.{Outcome}
use Rattle.s3_model.specs.declared.outcomes.Reason.{Reason}
use Rattle.s3_model.specs.declared.requests.Op.{Op}
use Rattle.s3_model.specs.declared.requests.Op.TheVariants as op
use Rattle.task_acts.specs.declared.acts.Act.{Act}
use Rattle.task_acts.specs.declared.acts.Act.TheVariants as act
use Rattle.task_acts.specs.declared.acts.Stage.{Stage}
use Rattle.task_acts.specs.declared.acts.Stage.TheVariants as at
use Rattle.task_acts.specs.declared.work.Work.{Work}
use Rattle.task_acts.specs.Ends.{how_ended, outcome_of, settled}
use Rattle.task_acts.specs.Failures.{first_failure, first_reason, is_stopped}
use Rattle.task_acts.specs.Histories.{Came, Cancelled, Gave, Happening, History, Returned, Taken, sent}
use Rattle.task_acts.specs.Kept.{IsHistory}
use Rattle.task_acts.specs.Rule.{acts_of, first_ready, first_ready_in, is_completed, is_created, is_done, is_idle_in, is_left_over, is_ready, is_ready_in}
use Rattle.task_acts.specs.Stages.{has_done, is_out, may_be_given, stage}
use Rattle.shared_lemmas.proofs.Members.{Has}
use Rattle.task_progress.specs.Progress.{HasPiece, OutcomesAreExact}
use Rattle.task_progress.proofs.Begun.{begun_calls, begun_known, has_begun, out_has_begun, ready_known}
use Rattle.task_progress.proofs.Endings.{no}
use Rattle.task_progress.proofs.Progress.{all_has, completed, copy_completed, none_found, renamed, tasks_end}

finds_none : {X : Type 0} (p : X → Bool) (xs : List X) → ((x : X) → Has xs x → p x ≡ false) → find p xs ≡ None
finds_none p [] each = refl
finds_none p (y ∷ ys) each = by (p y) (each y (inl refl)) (finds_none p ys (λ x h. each x (inr h)))
  where
    by : (b : Bool) → b ≡ false → find p ys ≡ None → (if b then Some y else find p ys) ≡ None
    by true e rest = no (sym e)
    by false e rest = rest

or_none : {X : Type 0} (x : Option X) → option_or x None ≡ x
or_none None = refl
or_none (Some x) = refl

pub done_has_begun : (how : Stage) → has_done how ≡ true → has_begun how ≡ true
done_has_begun at.Waiting e = e
done_has_begun how e = refl

module _ (w : Work) where
  -- no act is ready and none is out
  abbrev pub IsQuiet : History → Type 0
  IsQuiet h = (first_ready_in w h ≡ None) × (is_idle_in w h ≡ true)

  module _ (h : History) (piece : HasPiece w) (is : IsHistory w h) (quiet : IsQuiet h) where
    pub not_ready : (a : Act) → is_ready_in w h a ≡ true → false ≡ true
    not_ready a e = sym (none_found (is_ready_in w h) (acts_of w) quiet.0 a (ready_known w h a e)) ∙ e

    pub not_out : (a : Act) → is_out (stage w h a) ≡ true → false ≡ true
    not_out a e = clash (is_out (stage w h a)) e
        (all_has (λ of_act. not (is_out (stage w h of_act))) (acts_of w) quiet.1 a (begun_known w h is a (out_has_begun (stage w h a) e)))
      where
        clash : (b : Bool) → b ≡ true → not b ≡ true → false ≡ true
        clash true e f = f
        clash false e f = e

    -- ---- after a cancel

    module _ (going : is_stopped w h ≡ false) where
      pub created_completed : has_done (stage w h (act.Send op.Create 0)) ≡ true → has_done (stage w h (act.Send op.Complete 0)) ≡ true
      created_completed e =
          let parts = begun_calls w h is (act.Send op.Create 0) (done_has_begun (stage w h (act.Send op.Create 0)) e) in
          elim parts.1 [
            | inl up ↦ completed w h piece quiet.0 quiet.1 going up parts.0
            | inr over ↦ copy_completed w h piece quiet.0 quiet.1 going over parts.0
          ]

      assembled_renamed : has_done (stage w h act.Assemble) ≡ true → has_done (stage w h act.Rename) ≡ true
      assembled_renamed e = renamed w h piece quiet.0 quiet.1 going (begun_calls w h is act.Assemble (done_has_begun (stage w h act.Assemble) e))

      nothing_left : (a : Act) → is_left_over w (stage w h) true a ≡ true → false ≡ true
      nothing_left (act.Send op.Abort n) e =
          let one = and_parts _ _ (and_parts _ _ e).0 in
          let made = (and_parts (n == 0) (is_created w (stage w h) true) one.0).1 in
          clash (is_completed w (stage w h) true) one.1 (created_completed made)
        where
          clash : (b : Bool) → not b ≡ true → b ≡ true → false ≡ true
          clash true e f = e
          clash false e f = f
      nothing_left act.DropTemp e =
          let one = and_parts (is_done w (stage w h) true act.Assemble) _ (and_parts _ _ e).0 in
          clash (is_done w (stage w h) true act.Rename) one.1 (assembled_renamed one.0)
        where
          clash : (b : Bool) → not b ≡ true → b ≡ true → false ≡ true
          clash true e f = e
          clash false e f = f
      nothing_left a e = e

      stops_quiet : (a : Act) → is_ready w (stage w h) true a ≡ true → false ≡ true
      stops_quiet act.Stamp e = not_ready act.Stamp e
      stops_quiet a e = nothing_left a (and_parts (may_be_given (stage w h a)) _ e).1

    not_ready_stopped : (b : Bool) → is_stopped w h ≡ b → (a : Act) → is_ready w (stage w h) true a ≡ true → false ≡ true
    not_ready_stopped true so a e = not_ready a (subst (λ (b : Bool). is_ready w (stage w h) b a ≡ true) (sym so) e)
    not_ready_stopped false so a e = stops_quiet so a e

    false_is : (b : Bool) → (b ≡ true → false ≡ true) → b ≡ false
    false_is true f = sym (f refl)
    false_is false f = refl

    none_ready_stopped : first_ready w (stage w h) true ≡ None
    none_ready_stopped = finds_none (is_ready w (stage w h) true) (acts_of w) (λ a known. false_is (is_ready w (stage w h) true a) (λ e. not_ready_stopped (is_stopped w h) refl a e))

  -- ---- whatever happens

  cancelled_stops : (reason : Reason) (h : History) → is_stopped w (Cancelled reason ∷ h) ≡ true
  cancelled_stops reason h = either (is_some (option_or (first_failure w h) None)) (is_some (option_or (first_reason h) (Some reason))) (some (first_reason h))
    where
      some : (x : Option Reason) → is_some (option_or x (Some reason)) ≡ true
      some None = refl
      some (Some y) = refl

      either : (a b : Bool) → b ≡ true → (a || b) ≡ true
      either true b e = refl
      either false b e = e

  taken_same : (o : Op) (n : ℕ) (h : History) → is_stopped w (Taken o n ∷ h) ≡ is_stopped w h
  taken_same o n h =
      ap (λ (why : Option Cause). is_some why || is_some (option_or (first_reason h) None)) (or_none (first_failure w h))
      ∙ ap (λ (why : Option Reason). is_some (first_failure w h) || is_some why) (or_none (first_reason h))

  stays_quiet : (e : Happening) (h : History) → HasPiece w → IsHistory w (e ∷ h) → IsQuiet h → IsQuiet (e ∷ h)
  stays_quiet (Gave a) h piece is quiet = no (not_ready h piece is.1 quiet a is.0)
  stays_quiet (Came c) h piece is quiet = no (not_out h piece is.1 quiet (sent c) is.0.0)
  stays_quiet (Returned a r) h piece is quiet = no (not_out h piece is.1 quiet a is.0.1)
  stays_quiet (Taken o n) h piece is quiet = (subst (λ (b : Bool). first_ready w (stage w h) b ≡ None) (sym (taken_same o n h)) quiet.0, quiet.1)
  stays_quiet (Cancelled reason) h piece is quiet =
      (subst (λ (b : Bool). first_ready w (stage w h) b ≡ None) (sym (cancelled_stops reason h)) (none_ready_stopped h piece is.1 quiet), quiet.1)

  -- ---- outcomes

  settled_quiet : (h : History) → is_some (settled w h) ≡ true → IsQuiet h
  settled_quiet h e = by (first_ready_in w h) (is_idle_in w h) refl refl e
    where
      by : (a : Option Act) (b : Bool) → first_ready_in w h ≡ a → is_idle_in w h ≡ b
          → is_some (if is_some a || not b then None else how_ended w h) ≡ true → IsQuiet h
      by (Some a) b p q f = no f
      by None true p q f = (p, q)
      by None false p q f = no f

  pub outcome_quiet : (h : History) → HasPiece w → IsHistory w h → is_some (outcome_of w h) ≡ true → IsQuiet h
  outcome_quiet [] piece is e = settled_quiet [] e
  outcome_quiet (event ∷ h) piece is e = by (outcome_of w h) e (λ f. outcome_quiet h piece is.1 f)
    where
      by : (x : Option Outcome) → is_some (option_or x (settled w (event ∷ h))) ≡ true → (is_some x ≡ true → IsQuiet h) → IsQuiet (event ∷ h)
      by None f rest = settled_quiet (event ∷ h) f
      by (Some how) f rest = stays_quiet event h piece is (rest refl)

pub outcomes_are_exact : OutcomesAreExact
outcomes_are_exact w h piece is = by (is_some (outcome_of w h)) refl
  where
    quiet_is : IsQuiet w h → (not (is_some (first_ready_in w h)) && is_idle_in w h) ≡ true
    quiet_is quiet = rw (quiet.0, quiet.1) refl

    undone : (b : Bool) → (b ≡ true → false ≡ true) → b ≡ false
    undone true f = sym (f refl)
    undone false f = refl

    there : (a : Option Act) (b : Bool) → first_ready_in w h ≡ a → is_idle_in w h ≡ b → (not (is_some a) && b) ≡ true → IsQuiet w h
    there None true p q f = (p, q)
    there None false p q f = no f
    there (Some a) b p q f = no f

    by : (b : Bool) → is_some (outcome_of w h) ≡ b → is_some (outcome_of w h) ≡ (not (is_some (first_ready_in w h)) && is_idle_in w h)
    by true e = e ∙ sym (quiet_is (outcome_quiet w h piece is e))
    by false e = e ∙ sym (undone (not (is_some (first_ready_in w h)) && is_idle_in w h) (λ f.
        let quiet = there (first_ready_in w h) (is_idle_in w h) refl refl f in
        sym e ∙ tasks_end w h piece is quiet.0 quiet.1))
