-- What no request of a run may change, and nobody else writes, stays as it was.
use Rattle.std.proofs.Common.{◌≡◌, ◌∙◌, ◌⊎◌, ◌++◌, ℕ, List, [], ◌∷◌, refl, sym, subst, inl, inr, Contains, Option}
use Rattle.s3_model.specs.declared.requests.Ask.{Ask}
use Rattle.s3_model.specs.declared.answers.Class.{Class}
use Rattle.s3_model.specs.declared.outcomes.Event.{Event}
use Rattle.s3_model.specs.declared.settings.Limits.{Limits}
use Rattle.s3_model.specs.Talks.{Talk}
use Rattle.s3_service.specs.ServiceState.{State, object_at}
use Rattle.s3_service.specs.Serves.{MayChange, ExternalWrite, Writes, Removes}
use Rattle.job_terms.specs.Dispatches.{Dispatched}
use Rattle.run_promise.specs.Traces.{Step, TraceEvent, Given, Begin, Serve, External, Came, IsTrace, state_after, events_of}
use Rattle.run_promise.specs.Fits.{Fits}
use Rattle.run_promise.specs.Truthful.{IsExternal}
use Rattle.world_laws.specs.Frame.{IsAskedOf}
use Rattle.shared_lemmas.proofs.Members.{contains_of, Has, has}
use Rattle.world_laws.proofs.Requests.{IsWriteOf, may_change_decided, write_decided, success_elsewhere, external_elsewhere}
use Rattle.world_laws.proofs.Fitting.{holds_at}

-- ---- decisions over a list

pub any_decided : {X : Type 0} (P : X → Type 0) → ((x : X) → P x ⊎ (P x → ⊥)) → (xs : List X) → ((x : X) × Has xs x × P x) ⊎ ((x : X) → Has xs x → P x → ⊥)
any_decided P decides [] = inr (λ x h p. h)
any_decided {X} P decides (y ∷ ys) = elim (decides y) [
  | inl here ↦ inl (y, inl refl, here)
  | inr not_here ↦ elim (any_decided P decides ys) [
    | inl there ↦ inl (there.0, inr there.1, there.2)
    | inr nowhere ↦ inr (neither y ys not_here nowhere)
  ]
]
  where
    neither : (z : X) (zs : List X) → (P z → ⊥) → ((x : X) → Has zs x → P x → ⊥) → (x : X) → Has (z ∷ zs) x → P x → ⊥
    neither z zs differs none x (inl e) p = differs (subst P (sym e) p)
    neither z zs differs none x (inr h) p = none x h p

pub asked_decided : (dispatched : List Dispatched) (bucket key : List ℕ) → IsAskedOf dispatched bucket key ⊎ (IsAskedOf dispatched bucket key → ⊥)
asked_decided dispatched bucket key = elim (any_decided (λ (c : Dispatched). MayChange c.ask bucket key) (λ (c : Dispatched). may_change_decided bucket key c.ask) dispatched) [
  | inl found ↦ inl (found.0, contains_of dispatched found.0 found.1, found.2)
  | inr none ↦ inr (λ asked. none asked.0 (has dispatched asked.0 asked.1) asked.2)
]

-- an event is an external write of this place
abbrev IsExternalAt : List ℕ → List ℕ → TraceEvent → Type 0
IsExternalAt bucket key (External write) = IsWriteOf write bucket key
IsExternalAt bucket key (Given job lane) = ⊥
IsExternalAt bucket key (Begin lane sent) = ⊥
IsExternalAt bucket key (Serve sent answer) = ⊥
IsExternalAt bucket key (Came job lane tries) = ⊥

external_at_decided : (bucket key : List ℕ) (event : TraceEvent) → IsExternalAt bucket key event ⊎ (IsExternalAt bucket key event → ⊥)
external_at_decided bucket key (External write) = write_decided bucket key write
external_at_decided bucket key (Given job lane) = inr (λ h. h)
external_at_decided bucket key (Begin lane sent) = inr (λ h. h)
external_at_decided bucket key (Serve sent answer) = inr (λ h. h)
external_at_decided bucket key (Came job lane tries) = inr (λ h. h)

pub external_of : (trace : List Step) (bucket key : List ℕ) (write : ExternalWrite) → Has (events_of trace) (External write) → IsWriteOf write bucket key → IsExternal trace bucket key
external_of trace bucket key (Writes b k object) h at =
    inl (
      object,
      contains_of (events_of trace) (External (Writes bucket key object))
          (subst (λ (x : List ℕ). Has (events_of trace) (External (Writes bucket x object))) at.1 (subst (λ (x : List ℕ). Has (events_of trace) (External (Writes x k object))) at.0 h)),
    )
external_of trace bucket key (Removes b k) h at =
    inr (contains_of (events_of trace) (External (Removes bucket key))
    (subst (λ (x : List ℕ). Has (events_of trace) (External (Removes bucket x))) at.1 (subst (λ (x : List ℕ). Has (events_of trace) (External (Removes x k))) at.0 h)))

external_event : (trace : List Step) (bucket key : List ℕ) (event : TraceEvent) → Has (events_of trace) event → IsExternalAt bucket key event → IsExternal trace bucket key
external_event trace bucket key (External write) h at = external_of trace bucket key write h at
external_event trace bucket key (Given job lane) h at = absurd at
external_event trace bucket key (Begin lane sent) h at = absurd at
external_event trace bucket key (Serve sent answer) h at = absurd at
external_event trace bucket key (Came job lane tries) h at = absurd at

pub external_decided : (trace : List Step) (bucket key : List ℕ) → IsExternal trace bucket key ⊎ (IsExternal trace bucket key → ⊥)
external_decided trace bucket key = elim (any_decided (IsExternalAt bucket key) (external_at_decided bucket key) (events_of trace)) [
  | inl found ↦ inl (external_event trace bucket key found.0 found.1 found.2)
  | inr none ↦ inr (never none)
]
  where
    never : ((event : TraceEvent) → Has (events_of trace) event → IsExternalAt bucket key event → ⊥) → IsExternal trace bucket key → ⊥
    never none (inl written) = none (External (Writes bucket key written.0)) (has (events_of trace) (External (Writes bucket key written.0)) written.1) (refl, refl)
    never none (inr removed) = none (External (Removes bucket key)) (has (events_of trace) (External (Removes bucket key)) removed) (refl, refl)

-- ---- the frame

module _ {page : Option ℕ} (Shows : Ask → ℕ → Talk → Class → List ℕ → Type 0) (limits : Limits) (start : State) (trace : List Step) (dispatched : List Dispatched) (journal : List Event)
    (runs : IsTrace limits [] start trace) (fits : Fits Shows page (events_of trace) journal dispatched) (bucket key : List ℕ) where
  -- what no request may change, and nobody else writes
  pub untouched_stays : (part late : List Step) → trace ≡ part ++ late → ((c : Dispatched) → Contains dispatched c → MayChange c.ask bucket key → ⊥) → (IsExternal trace bucket key → ⊥)
      → object_at (state_after start part) bucket key ≡ object_at start bucket key
  untouched_stays part late is unasked unwritten =
      holds_at Shows limits start trace dispatched journal runs fits (λ (t : State). object_at t bucket key ≡ object_at start bucket key)
      (record {
        served = λ c old answered bytes new served same. success_elsewhere bucket key limits old c.ask c.body answered bytes new served.succeeds (unasked c served.known) ∙ same;
        written = λ write old happened there same. external_elsewhere bucket key old write (λ at. unwritten (external_of trace bucket key write happened at)) ∙ same;
      })
      part late is refl

  pub others_stay : (part late : List Step) → trace ≡ part ++ late
      → IsAskedOf dispatched bucket key ⊎ IsExternal trace bucket key ⊎ (object_at (state_after start part) bucket key ≡ object_at start bucket key)
  others_stay part late is = elim (asked_decided dispatched bucket key) [
    | inl asked ↦ inl asked
    | inr unasked ↦ inr (elim (external_decided trace bucket key) [
      | inl written ↦ inl written
      | inr unwritten ↦ inr (untouched_stays part late is (λ c known may. unasked (c, known, may)) unwritten)
    ])
  ]
