-- The place of the first cancel of a run in its journal.
use Rattle.std.proofs.Common.{◌≡◌, ◌∙◌, ℕ, true, [], ◌∷◌, Option, Some, None, refl, sym, subst, ap, inl, inr}
use Rattle.std.specs.Option.{option_or}
use Rattle.std.specs.Prelude.{is_some}
use Rattle.manager_moves.specs.Runs.{Back, Called, Event, Events, Lined, Made, Sent, Stopped}
use Rattle.s3_model.specs.declared.outcomes.Reason.{Reason}
use Rattle.shared_lemmas.proofs.Clashes.{none_is_some, some_is}
use Rattle.shared_lemmas.proofs.Members.{Has, has}
use Rattle.task_progress.proofs.Endings.{no}
use Rattle.task_schedule.proofs.Witness.{back_stopped, called_stopped, made_stopped, sent_stopped}
use Rattle.task_schedule.specs.Journals.{IsFirstCancel, place_after}
use Rattle.whole_runs.specs.Ended.{PlacesTellCancels, cancel_place}

lined_stopped : (r : Reason) → Lined ≡ Stopped r → ⊥
lined_stopped r e = cc

then_some : {X : Type 0} (first : Option X) (x : X) → is_some (option_or first (Some x)) ≡ true
then_some None x = refl
then_some (Some y) x = refl

module _ (planned : ℕ) where
  has_place : (events : Events) (reason : Reason) → Has events (Stopped reason)
      → is_some (cancel_place planned events) ≡ true
  has_place [] reason known = absurd known
  has_place (Stopped r ∷ before) reason known = then_some (cancel_place planned before) (place_after planned before)
  has_place (Made fits ∷ before) reason (inl e) = absurd (made_stopped fits reason e)
  has_place (Made fits ∷ before) reason (inr known) = has_place before reason known
  has_place (Sent n o k lane ∷ before) reason (inl e) = absurd (sent_stopped n k lane o reason e)
  has_place (Sent n o k lane ∷ before) reason (inr known) = has_place before reason known
  has_place (Back lane c ∷ before) reason (inl e) = absurd (back_stopped lane c reason e)
  has_place (Back lane c ∷ before) reason (inr known) = has_place before reason known
  has_place (Called n a f ∷ before) reason (inl e) = absurd (called_stopped n a f reason e)
  has_place (Called n a f ∷ before) reason (inr known) = has_place before reason known
  has_place (Lined ∷ before) reason (inl e) = absurd (lined_stopped reason e)
  has_place (Lined ∷ before) reason (inr known) = has_place before reason known

  abbrev IsThere : Events → ℕ → Type 0
  IsThere events place = (before : Events) × IsFirstCancel events before × (place ≡ place_after planned before)

  later_too : (e : Event) (events : Events) (place : ℕ) → IsThere events place → IsThere (e ∷ events) place
  later_too e events place there = (
    there.0,
    record {
      later = e ∷ there.1.later;
      reason = there.1.reason;
      is = ap (λ (z : Events). e ∷ z) there.1.is;
      none = there.1.none;
    },
    there.2,
  )

  first_cancel : (events : Events) (place : ℕ) → cancel_place planned events ≡ Some place → IsThere events place
  first_cancel [] place e = absurd (none_is_some place e)
  first_cancel (Stopped reason ∷ before) place e =
      by (cancel_place planned before) refl e (λ f. first_cancel before place f)
    where
      by : (x : Option ℕ) → cancel_place planned before ≡ x
          → option_or x (Some (place_after planned before)) ≡ Some place
          → (cancel_place planned before ≡ Some place → IsThere before place)
          → IsThere (Stopped reason ∷ before) place
      by (Some p) is f rest = later_too (Stopped reason) before place (rest (is ∙ f))
      by None is f rest = (
        before,
        record {
          later = [];
          reason = reason;
          is = refl;
          none = λ other known.
              no (sym (ap is_some is) ∙ has_place before other (has before (Stopped other) known));
        },
        sym (some_is (place_after planned before) place f),
      )
  first_cancel (Made fits ∷ before) place e = later_too (Made fits) before place (first_cancel before place e)
  first_cancel (Sent n o k lane ∷ before) place e =
      later_too (Sent n o k lane) before place (first_cancel before place e)
  first_cancel (Back lane c ∷ before) place e = later_too (Back lane c) before place (first_cancel before place e)
  first_cancel (Called n a f ∷ before) place e = later_too (Called n a f) before place (first_cancel before place e)
  first_cancel (Lined ∷ before) place e = later_too Lined before place (first_cancel before place e)

pub places_tell_cancels : PlacesTellCancels
places_tell_cancels setting planned events told = (
  λ reason known. subst (λ (x : Option ℕ). is_some x ≡ true) (sym told)
      (has_place planned events reason (has events (Stopped reason) known)),
  λ place at. first_cancel planned events place (sym told ∙ at),
)
