-- One object that every request which may change it makes new as a whole: it is as before or new, new once one of them had success, and as before
-- where all were refused.
use Rattle.std.proofs.Common.{append_assoc, ◌≡◌, ◌∙◌, ◌⊎◌, ◌++◌, ℕ, List, [], ◌∷◌, Option, refl, sym, ap, subst, inl, inr, Contains, filter_map}
use Rattle.s3_model.specs.declared.requests.Ask.{Ask}
use Rattle.s3_model.specs.declared.answers.Reply.{Reply}
use Rattle.s3_model.specs.declared.answers.Class.{Class}
use Rattle.s3_model.specs.declared.answers.Class.TheVariants as class
use Rattle.s3_model.specs.declared.outcomes.Event.{Event}
use Rattle.s3_model.specs.declared.settings.Limits.{Limits}
use Rattle.s3_model.specs.Talks.{Talk}
use Rattle.s3_service.specs.ServiceState.{State, Object, object_at}
use Rattle.s3_service.specs.Serves.{Replied, Refused, MayChange, ExternalWrite, after_external}
use Rattle.job_terms.specs.Dispatches.{Dispatched}
use Rattle.run_promise.specs.Traces.{SentRequest, Step, Serve, External, IsTrace, state_after, events_of, event_of}
use Rattle.run_promise.specs.Fits.{Fits, request_at}
use Rattle.run_promise.specs.Truthful.{IsExternal}
use Rattle.world_laws.specs.Premises.{HasCome, HasSucceeded, AllRefused}
use Rattle.shared_lemmas.proofs.Members.{Has}
use Rattle.world_laws.proofs.Traces.{step_of, state_after_step}
use Rattle.world_laws.proofs.Requests.{IsWriteOf, may_change_decided, write_decided, success_elsewhere, external_elsewhere}
use Rattle.world_laws.proofs.Fitting.{IsServed, IsKept, changes_no_page, holds_at, holds_from, success_is_served, success_at}
use Rattle.world_laws.proofs.Frame.{external_of}

not_refused : (answered : Reply) (bytes code : List ℕ) → Replied answered bytes ≡ Refused code → ⊥
not_refused answered bytes code e = cc

module _ {page : Option ℕ} (Shows : Ask → ℕ → Talk → Class → List ℕ → Type 0) (limits : Limits) (start : State) (trace : List Step) (dispatched : List Dispatched) (journal : List Event)
    (runs : IsTrace limits [] start trace) (fits : Fits Shows page (events_of trace) journal dispatched) (bucket key : List ℕ) where
  -- where all that may change the object was refused, and nobody else writes it, it is as before
  pub refused_stays : (IsExternal trace bucket key → ⊥) → ((c : Dispatched) → Contains dispatched c → MayChange c.ask bucket key → AllRefused Shows c)
      → (part late : List Step) → trace ≡ part ++ late → object_at (state_after start part) bucket key ≡ object_at start bucket key
  refused_stays unwritten refused part late is =
      holds_at Shows limits start trace dispatched journal runs fits (λ (t : State). object_at t bucket key ≡ object_at start bucket key)
      (record {
        served = λ c old answered bytes new served same. elim (may_change_decided bucket key c.ask) [
          | inr apart ↦ success_elsewhere bucket key limits old c.ask c.body answered bytes new served.succeeds apart ∙ same
          | inl may ↦
              let shown = refused c served.known may served.place served.attempt served.is_attempt in
              absurd (not_refused answered bytes shown.0 (served.names (changes_no_page bucket key c may) (class.Refusal shown.0 shown.1) shown.2 shown.3))
        ];
        written = λ write old happened there same. external_elsewhere bucket key old write (λ at. unwritten (external_of trace bucket key write happened at)) ∙ same;
      })
      part late is refl

  -- each request that may change the object makes it new
  abbrev pub MakesNew : (Option Object → Type 0) → Type 0
  MakesNew IsNew = (c : Dispatched) (old : State) (answered : Reply) (bytes : List ℕ) (new : State) → IsServed Shows limits start trace dispatched c old answered bytes new → MayChange c.ask bucket key
      → IsNew (object_at new bucket key)

  -- and so does each external write of it
  abbrev pub WritesNew : (Option Object → Type 0) → Type 0
  WritesNew IsNew = (write : ExternalWrite) (old : State) → Has (events_of trace) (External write) → IsWriteOf write bucket key → IsNew (object_at (after_external write old) bucket key)

  pub unwritten_is_new : (IsNew : Option Object → Type 0) → (IsExternal trace bucket key → ⊥) → WritesNew IsNew
  unwritten_is_new IsNew unwritten write old happened at = absurd (unwritten (external_of trace bucket key write happened at))

  module _ (IsNew : Option Object → Type 0) (makes_new : MakesNew IsNew) (writes_new : WritesNew IsNew) where
    new_is_kept : IsKept Shows limits start trace dispatched (λ (t : State). IsNew (object_at t bucket key))
    new_is_kept = record {
      served = λ c old answered bytes new served is_new. elim (may_change_decided bucket key c.ask) [
        | inl may ↦ makes_new c old answered bytes new served may
        | inr apart ↦ subst IsNew (sym (success_elsewhere bucket key limits old c.ask c.body answered bytes new served.succeeds apart)) is_new
      ];
      written = λ write old happened there is_new. elim (write_decided bucket key write) [
        | inl at ↦ writes_new write old happened at
        | inr apart ↦ subst IsNew (sym (external_elsewhere bucket key old write apart)) is_new
      ];
    }

    -- once new, it stays new
    pub stays_new : (front rest late : List Step) → trace ≡ front ++ (rest ++ late) → IsNew (object_at (state_after start front) bucket key) → IsNew (object_at (state_after start (front ++ rest)) bucket key)
    stays_new front rest late is is_new = holds_from Shows limits start trace dispatched journal runs fits (λ (t : State). IsNew (object_at t bucket key)) new_is_kept rest front late is is_new

    -- it is as before or new
    pub old_or_new : (part late : List Step) → trace ≡ part ++ late
        → (object_at (state_after start part) bucket key ≡ object_at start bucket key) ⊎ IsNew (object_at (state_after start part) bucket key)
    old_or_new part late is =
        holds_at Shows limits start trace dispatched journal runs fits (λ (t : State). (object_at t bucket key ≡ object_at start bucket key) ⊎ IsNew (object_at t bucket key))
        (record {
          served = λ c old answered bytes new served either. elim (may_change_decided bucket key c.ask) [
            | inl may ↦ inr (makes_new c old answered bytes new served may)
            | inr apart ↦ stays old new (success_elsewhere bucket key limits old c.ask c.body answered bytes new served.succeeds apart) either
          ];
          written = λ write old happened there either. elim (write_decided bucket key write) [
            | inl at ↦ inr (writes_new write old happened at)
            | inr apart ↦ stays old (after_external write old) (external_elsewhere bucket key old write apart) either
          ];
        })
        part late is (inl refl)
      where
        stays : (old new : State) → object_at new bucket key ≡ object_at old bucket key → (object_at old bucket key ≡ object_at start bucket key) ⊎ IsNew (object_at old bucket key)
            → (object_at new bucket key ≡ object_at start bucket key) ⊎ IsNew (object_at new bucket key)
        stays old new same (inl was) = inl (same ∙ was)
        stays old new same (inr is_new) = inr (subst IsNew (sym same) is_new)

    -- a success that is served leaves it new from then on
    pub success_lands : (front : List Step) (step : Step) (rest late : List Step) (sent : SentRequest) (answered : Reply) (bytes : List ℕ) → trace ≡ (front ++ step ∷ rest) ++ late
        → step.event ≡ Serve sent (Replied answered bytes) → MayChange sent.ask bucket key → IsNew (object_at (state_after start (front ++ step ∷ rest)) bucket key)
    success_lands front step rest late sent answered bytes is is_event may =
        let flat : trace ≡ front ++ step ∷ (rest ++ late) = is ∙ append_assoc front (step ∷ rest) late in
        let found = success_at Shows limits start trace dispatched journal runs fits front step (rest ++ late) sent answered bytes flat is_event in
        let may_too : MayChange found.0.ask bucket key = subst (λ (asked : Ask). MayChange asked bucket key) (ap (λ (r : SentRequest). r.ask) found.2.is_sent) may in
        let here : IsNew (object_at step.state bucket key) = makes_new found.0 (state_after start front) answered bytes step.state found.1 may_too in
        let after : IsNew (object_at (state_after start (front ++ step ∷ [])) bucket key) = subst (λ (t : State). IsNew (object_at t bucket key)) (sym (state_after_step front step start)) here in
        let split : trace ≡ (front ++ step ∷ []) ++ (rest ++ late) = flat ∙ sym (append_assoc front (step ∷ []) (rest ++ late)) in
        subst (λ (t : List Step). IsNew (object_at (state_after start t) bucket key)) (append_assoc front (step ∷ []) rest) (stays_new (front ++ step ∷ []) rest late split after)

    -- a request that came with success by then has made it new
    pub success_makes_new : (part late : List Step) → trace ≡ part ++ late → (c : Dispatched) → Contains dispatched c → MayChange c.ask bucket key
        → HasCome (filter_map event_of (events_of part)) c → HasSucceeded Shows c → IsNew (object_at (state_after start part) bucket key)
    success_makes_new part late is c known may come succeeded =
        let served = success_is_served Shows limits start trace dispatched journal runs fits part late is c known come succeeded (λ page. changes_no_page bucket key c may (page.0, page.1)) in
        let at = step_of part (Serve (request_at c succeeded.place) (Replied served.0 succeeded.bytes)) served.2 in
        subst (λ (t : List Step). IsNew (object_at (state_after start t) bucket key)) (sym at.is)
        (success_lands at.front at.step at.back late (request_at c succeeded.place) served.0 succeeded.bytes (is ∙ ap (λ (t : List Step). t ++ late) at.is) at.is_event may)
