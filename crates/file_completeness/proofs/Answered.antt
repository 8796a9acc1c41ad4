-- A certain answer was served, by a service that does what it may, before its dispatch came.
use Rattle.std.proofs.Common.{append_assoc, ◌≡◌, ◌∙◌, ◌++◌, ◌≤◌, ℕ, List, [], ◌∷◌, Some, refl, sym, ap, subst, Contains, filter_map, length, slice_get, arith, Option}
use Rattle.s3_model.specs.declared.answers.Class.{Class}
use Rattle.s3_model.specs.declared.outcomes.Event.{Event}
use Rattle.s3_model.specs.declared.outcomes.Event.TheVariants as entry
use Rattle.s3_model.specs.declared.requests.Ask.{Ask}
use Rattle.s3_model.specs.declared.settings.Limits.{Limits}
use Rattle.s3_model.specs.Talks.{Talk}
use Rattle.s3_service.specs.ServiceState.{State}
use Rattle.s3_service.specs.Serves.{Answer}
use Rattle.job_terms.specs.Dispatches.{Attempt, Dispatched}
use Rattle.run_promise.specs.Fits.{Fits, IsCertain, Names, request_at}
use Rattle.run_promise.specs.Traces.{Came, IsTrace, IsWilling, IsWillingAt, Serve, Step, Steps, TraceEvent, event_of, events_of, state_after}
use Rattle.world_laws.specs.Premises.{HasCome}
use Rattle.shared_lemmas.proofs.Lists.{head_is, tail_is}
use Rattle.shared_lemmas.proofs.Members.{Has, has, split_at}
use Rattle.world_laws.proofs.Early.{reached, reached_before}
use Rattle.world_laws.proofs.Fitting as fitting
use Rattle.world_laws.proofs.Fitting.{came_event}
use Rattle.world_laws.proofs.Traces.{begun_through, step_of}

willing_at : (limits : Limits) (front : List Step) (step : Step) (back : List Step) (old : State) → IsWilling limits old (front ++ step ∷ back) → IsWillingAt limits (state_after old front) step.event
willing_at limits [] step back old willing = willing.0
willing_at limits (first ∷ front) step back old willing = willing_at limits front step back first.state willing.1

-- a trace is split where its events are
steps_split : (trace : List Step) (front back : List TraceEvent) → events_of trace ≡ front ++ back → (f : List Step) × (b : List Step) × (trace ≡ f ++ b) × (events_of f ≡ front)
steps_split trace [] back is = ([], trace, refl, refl)
steps_split [] (event ∷ front) back is = absurd (nothing is)
  where
    nothing : ◌≡◌ {A = List TraceEvent} [] (event ∷ (front ++ back)) → ⊥
    nothing e = cc
steps_split (step ∷ trace) (event ∷ front) back is =
    let rest = steps_split trace front back (tail_is step.event event (events_of trace) (front ++ back) is) in
    (step ∷ rest.0, rest.1, ap (λ (t : List Step). step ∷ t) rest.2, ap (λ (t : List TraceEvent). step.event ∷ t) rest.3 ∙ ap (λ (e : TraceEvent). e ∷ front) (head_is step.event event (events_of trace) (front ++ back) is))

-- the answer that the class names was served before a place of the journal, and as a willing service may
pub record IsAnsweredEarly (limits : Limits) (start : State) (trace : List Step) (c : Dispatched) (place : ℕ) (shown : Class) (bytes : List ℕ) (until : ℕ) : Type 0 where
  pub answer : Answer
  pub names : Names shown bytes answer
  pub front : List Step
  pub step : Step
  pub back : List Step
  pub is : trace ≡ front ++ step ∷ back
  pub steps : Steps limits (begun_through [] front) (state_after start front) (Serve (request_at c place) answer) step.state
  pub willing : IsWillingAt limits (state_after start front) (Serve (request_at c place) answer)
  pub early : reached front ≤ until

module _ {page : Option ℕ} (Shows : Ask → ℕ → Talk → Class → List ℕ → Type 0) (limits : Limits) (start : State) (trace : List Step) (dispatched : List Dispatched) (journal : List Event)
    (runs : IsTrace limits [] start trace) (fits : Fits Shows page (events_of trace) journal dispatched) (willing : IsWilling limits start trace) where
  pub answered_early : (c : Dispatched) → Contains dispatched c → (come : HasCome journal c) → (place : ℕ) (attempt : Attempt) (shown : Class) (bytes : List ℕ)
      → slice_get c.dispatch.attempts place ≡ Some attempt → Shows c.ask c.limit attempt.talk shown bytes → IsCertain page c shown → IsAnsweredEarly limits start trace c place shown bytes come.0
  answered_early c known come place attempt shown bytes is_attempt shows certain =
      let came = split_at event_of (events_of trace) come.0 (entry.Came c.dispatch.job c.dispatch.lane come.1) (ap (λ (j : List Event). slice_get j come.0) fits.moves ∙ come.3) in
      let is_came : came.item ≡ Came c.dispatch.job c.dispatch.lane come.1 = came_event came.item c.dispatch.job c.dispatch.lane come.1 came.gives in
      let served = fits.served came.front came.back c.dispatch.job c.dispatch.lane come.1 c place attempt shown bytes
      (came.is ∙ ap (λ (event : TraceEvent). came.front ++ event ∷ came.back) is_came) known refl (come.2 ∙ ap Some (sym came.place)) is_attempt shows certain in
      let split = steps_split trace came.front (came.item ∷ came.back) came.is in
      let served_in : Has (events_of split.0) (Serve (request_at c place) served.0) =
      subst (λ (all : List TraceEvent). Has all (Serve (request_at c place) served.0)) (sym split.3) (has came.front (Serve (request_at c place) served.0) served.1) in
      let at = step_of split.0 (Serve (request_at c place) served.0) served_in in
      let in_trace : trace ≡ at.front ++ at.step ∷ (at.back ++ split.1) = split.2 ∙ ap (λ (f : List Step). f ++ split.1) at.is ∙ append_assoc at.front (at.step ∷ at.back) split.1 in
      let upto = reached_before at.front (at.step ∷ at.back) in
      let level : reached (at.front ++ at.step ∷ at.back) ≡ come.0 = ap reached (sym at.is) ∙ ap (λ (events : List TraceEvent). length (filter_map event_of events)) split.3 ∙ came.place in
      record {
        answer = served.0;
        names = served.2;
        front = at.front;
        step = at.step;
        back = at.back ++ split.1;
        is = in_trace;
        steps = subst (λ (event : TraceEvent). Steps limits (begun_through [] at.front) (state_after start at.front) event at.step.state) at.is_event
            (fitting.steps_at Shows limits start trace dispatched journal runs fits at.front at.step (at.back ++ split.1) in_trace);
        willing = subst (λ (event : TraceEvent). IsWillingAt limits (state_after start at.front) event) at.is_event
            (willing_at limits at.front at.step (at.back ++ split.1) start (subst (λ (t : List Step). IsWilling limits start t) in_trace willing));
        early = omega arith;
      }
