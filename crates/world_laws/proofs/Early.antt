-- What holds along a trace until a place of its journal is reached, where nobody else writes.
use Rattle.std.proofs.Common.{append_assoc, ◌≡◌, ◌∙◌, ◌+◌, ◌<◌, ◌≤◌, ◌++◌, ℕ, List, [], ◌∷◌, refl, sym, ap, subst, Contains, length, filter_map, arith, Option}
use Rattle.std.proofs.lemmas.List.{append-nil, map-append, length-append}
use Rattle.std.proofs.lemmas.List.Elements.{filter_map-append}
use Rattle.s3_model.specs.declared.requests.Ask.{Ask}
use Rattle.s3_model.specs.declared.answers.Reply.{Reply}
use Rattle.s3_model.specs.declared.answers.Class.{Class}
use Rattle.s3_model.specs.declared.outcomes.Event.{Event}
use Rattle.s3_model.specs.declared.settings.Limits.{Limits}
use Rattle.s3_model.specs.Talks.{Talk}
use Rattle.s3_service.specs.ServiceState.{State}
use Rattle.s3_service.specs.Serves.{Answer, Replied, Refused}
use Rattle.job_terms.specs.Dispatches.{Dispatched}
use Rattle.run_promise.specs.Traces.{SentRequest, Step, TraceEvent, Given, Begin, Serve, External, Came, IsTrace, Steps, state_after, events_of, event_of}
use Rattle.run_promise.specs.Fits.{Fits}
use Rattle.run_promise.specs.Truthful.{IsAlone}
use Rattle.world_laws.specs.Premises.{AreGiven}
use Rattle.shared_lemmas.proofs.Members.{contains_of, Has}
use Rattle.world_laws.proofs.Traces.{begun_through, state_after_step, step_of}
use Rattle.world_laws.proofs.Order.{begun_is_after}
use Rattle.world_laws.proofs.Fitting as fitting
use Rattle.world_laws.proofs.Fitting.{IsServed}

-- how many events of the journal a part of a trace has
abbrev pub reached : List Step → ℕ
reached part = length (filter_map event_of (events_of part))

pub reached_before : (front rest : List Step) → reached front ≤ reached (front ++ rest)
reached_before front rest =
    let parts : reached (front ++ rest) ≡ reached front + reached rest =
    ap (λ (events : List TraceEvent). length (filter_map event_of events)) (map-append (λ (step : Step). step.event) front rest)
    ∙ ap length (filter_map-append event_of (events_of front) (events_of rest)) ∙ length-append (filter_map event_of (events_of front)) (filter_map event_of (events_of rest)) in
    omega arith

module _ {page : Option ℕ} (Shows : Ask → ℕ → Talk → Class → List ℕ → Type 0) (limits : Limits) (start : State) (trace : List Step) (dispatched : List Dispatched) (journal : List Event)
    (runs : IsTrace limits [] start trace) (fits : Fits Shows page (events_of trace) journal dispatched) (given : AreGiven journal dispatched) (alone : IsAlone trace) (place : ℕ) where
  abbrev pub IsEarly : List Step → Type 0
  IsEarly part = reached part ≤ place

  -- its job was given before that place
  pub record IsGivenEarly (c : Dispatched) : Type 0 where
    pub first : Dispatched
    pub known : Contains dispatched first
    pub is_job : first.dispatch.job ≡ c.dispatch.job
    pub before : first.dispatch.given_at < place

  -- what each success of an early request keeps
  abbrev pub IsKeptUntil : (State → Type 0) → Type 0
  IsKeptUntil Holds = (c : Dispatched) (old : State) (answered : Reply) (bytes : List ℕ) (new : State) → IsServed Shows limits start trace dispatched c old answered bytes new → IsGivenEarly c → Holds old → Holds new

  -- a request that is served was given before
  pub served_early : (c : Dispatched) (front : List Step) (step : Step) (back : List Step) (sent : SentRequest) (answer : Answer) → trace ≡ front ++ step ∷ back → step.event ≡ Serve sent answer
      → sent.job ≡ c.dispatch.job → IsEarly front → IsGivenEarly c
  served_early c front step back sent answer is is_event is_job early =
      let begun = fitting.served_was_begun Shows limits start trace dispatched journal runs fits front step back sent answer is is_event in
      let at = step_of front (Begin begun.0 sent) begun.1 in
      let in_trace : trace ≡ at.front ++ at.step ∷ (at.back ++ step ∷ back) = is ∙ ap (λ (f : List Step). f ++ step ∷ back) at.is ∙ append_assoc at.front (at.step ∷ at.back) (step ∷ back) in
      let first = begun_is_after Shows limits start trace dispatched journal runs fits given at.front at.step (at.back ++ step ∷ back) begun.0 sent in_trace at.is_event in
      let upto = reached_before at.front (at.step ∷ at.back) in
      let level : reached front ≡ reached (at.front ++ at.step ∷ at.back) = ap reached at.is in
      let by_then = early in
      let after = first.3 in
      record { first = first.0; known = first.1; is_job = first.2 ∙ is_job; before = omega arith }

  module _ (Holds : State → Type 0) (kept : IsKeptUntil Holds) where
    one_step : (front : List Step) (step : Step) (back : List Step) → trace ≡ front ++ step ∷ back → IsEarly front → Holds (state_after start front) → Holds step.state
    one_step front step back is early holds =
        by_event step.event refl (fitting.steps_at Shows limits start trace dispatched journal runs fits front step back is)
      where
        by_event : (event : TraceEvent) → step.event ≡ event → Steps limits (begun_through [] front) (state_after start front) event step.state → Holds step.state
        by_event (Given job lane) is_event steps = subst Holds (sym steps) holds
        by_event (Begin lane sent) is_event steps = subst Holds (sym steps) holds
        by_event (Came job lane tries) is_event steps = subst Holds (sym steps) holds
        by_event (Serve sent (Refused code)) is_event steps = subst Holds (sym steps.1.0) holds
        by_event (External write) is_event steps =
            absurd (alone write (contains_of (events_of trace) (External write)
            (subst (λ (event : TraceEvent). Has (events_of trace) event) is_event (fitting.happens_at Shows limits start trace dispatched journal runs fits front step back is))))
        by_event (Serve sent (Replied answered bytes)) is_event steps =
            let found = fitting.success_at Shows limits start trace dispatched journal runs fits front step back sent answered bytes is is_event in
            kept found.0 (state_after start front) answered bytes step.state found.1
            (served_early found.0 front step back sent (Replied answered bytes) is is_event (ap (λ (r : SentRequest). r.job) found.2.is_sent) early) holds

    pub holds_on : (rest front late : List Step) → trace ≡ front ++ (rest ++ late) → IsEarly (front ++ rest) → Holds (state_after start front) → Holds (state_after start (front ++ rest))
    holds_on [] front late is early holds = subst (λ (t : List Step). Holds (state_after start t)) (sym (append-nil front)) holds
    holds_on (step ∷ rest) front late is early holds =
        let upto = reached_before front (step ∷ rest) in
        let by_then = early in
        subst (λ (t : List Step). Holds (state_after start t)) (append_assoc front (step ∷ []) rest)
        (holds_on rest (front ++ step ∷ []) late (is ∙ sym (append_assoc front (step ∷ []) (rest ++ late))) (subst (λ (t : List Step). IsEarly t) (sym (append_assoc front (step ∷ []) rest)) early)
        (subst Holds (sym (state_after_step front step start)) (one_step front step (rest ++ late) is (omega arith) holds)))

    -- holds after each early beginning of the trace
    pub holds_until : (part late : List Step) → trace ≡ part ++ late → IsEarly part → Holds start → Holds (state_after start part)
    holds_until part late is early holds = holds_on part [] late is early holds
