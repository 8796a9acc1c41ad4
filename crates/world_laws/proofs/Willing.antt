-- A willing service: what it refuses could not be done.
use Rattle.std.proofs.Common.{append_assoc, ◌≡◌, ◌∙◌, ◌++◌, ◌≤◌, ℕ, List, [], ◌∷◌, Some, refl, sym, ap, subst, Contains, filter_map, length, slice_get, arith, Option}
use Rattle.s3_model.specs.declared.requests.Ask.{Ask}
use Rattle.s3_model.specs.declared.answers.Reply.{Reply}
use Rattle.s3_model.specs.declared.answers.Class.{Class}
use Rattle.s3_model.specs.declared.answers.Class.TheVariants as class
use Rattle.s3_model.specs.declared.outcomes.Event.{Event}
use Rattle.s3_model.specs.declared.outcomes.Event.TheVariants as entry
use Rattle.s3_model.specs.declared.settings.Limits.{Limits}
use Rattle.s3_model.specs.Talks.{Talk}
use Rattle.s3_service.specs.ServiceState.{State}
use Rattle.s3_service.specs.Serves.{Answer, Refused, Succeeds}
use Rattle.job_terms.specs.Dispatches.{Attempt, Dispatched}
use Rattle.run_promise.specs.Traces.{Step, TraceEvent, Serve, Came, IsTrace, IsWilling, IsWillingAt, state_after, events_of, event_of}
use Rattle.s3_service.specs.Willing.{SaysIfThere}
use Rattle.run_promise.specs.Fits.{Fits, request_at}
use Rattle.world_laws.specs.Premises.{HasCome}
use Rattle.shared_lemmas.proofs.Lists.{head_is, tail_is}
use Rattle.shared_lemmas.proofs.Members.{Has, has, split_at}
use Rattle.world_laws.proofs.Traces.{step_of}
use Rattle.world_laws.proofs.Fitting.{came_event}
use Rattle.world_laws.proofs.Early.{reached, reached_before}

willing_at : (limits : Limits) (front : List Step) (step : Step) (back : List Step) (old : State) → IsWilling limits old (front ++ step ∷ back) → IsWillingAt limits (state_after old front) step.event
willing_at limits [] step back old willing = willing.0
willing_at limits (first ∷ front) step back old willing = willing_at limits front step back first.state willing.1

-- the request could not be done after that beginning of the trace
pub record IsRefusedThere (limits : Limits) (start : State) (trace : List Step) (asked : Ask) (body : List ℕ) : Type 0 where
  pub front : List Step
  pub back : List Step
  pub is : trace ≡ front ++ back
  pub in_vain : (answered : Reply) (bytes : List ℕ) (new : State) → ¬ (Succeeds limits (state_after start front) asked body answered bytes new)

-- a request of the dispatch was refused with that code before a place of the journal, and could not be done
pub record IsRefusedEarly (limits : Limits) (start : State) (trace : List Step) (c : Dispatched) (code : List ℕ) (place : ℕ) : Type 0 where
  pub front : List Step
  pub step : Step
  pub back : List Step
  pub is : trace ≡ front ++ step ∷ back
  pub number : ℕ
  pub is_event : step.event ≡ Serve (request_at c number) (Refused code)
  pub in_vain : (answered : Reply) (bytes : List ℕ) (new : State) → ¬ (Succeeds limits (state_after start front) c.ask c.body answered bytes new)
  pub says_taken : SaysIfThere (state_after start front) c.ask code
  pub early : reached front ≤ place

-- a trace is split where its events are
steps_split : (trace : List Step) (front back : List TraceEvent) → events_of trace ≡ front ++ back → (f : List Step) × (b : List Step) × (trace ≡ f ++ b) × (events_of f ≡ front)
steps_split trace [] back is = ([], trace, refl, refl)
steps_split [] (event ∷ front) back is = absurd (nothing is)
  where
    nothing : ◌≡◌ {A = List TraceEvent} [] (event ∷ (front ++ back)) → ⊥
    nothing e = cc
steps_split (step ∷ trace) (event ∷ front) back is =
    let rest = steps_split trace front back (tail_is step.event event (events_of trace) (front ++ back) is) in
    (step ∷ rest.0, rest.1, ap (λ (t : List Step). step ∷ t) rest.2, ap (λ (t : List TraceEvent). step.event ∷ t) rest.3 ∙ ap (λ (e : TraceEvent). e ∷ front) (head_is step.event event (events_of trace) (front ++ back) is))

module _ {page : Option ℕ} (Shows : Ask → ℕ → Talk → Class → List ℕ → Type 0) (limits : Limits) (start : State) (trace : List Step) (dispatched : List Dispatched) (journal : List Event)
    (runs : IsTrace limits [] start trace) (fits : Fits Shows page (events_of trace) journal dispatched) where
  pub refused_early : IsWilling limits start trace → (c : Dispatched) → Contains dispatched c → (come : HasCome journal c) → (place : ℕ) (attempt : Attempt) (code message bytes : List ℕ)
      → slice_get c.dispatch.attempts place ≡ Some attempt → Shows c.ask c.limit attempt.talk (class.Refusal code message) bytes → IsRefusedEarly limits start trace c code come.0
  refused_early willing c known come place attempt code message bytes is_attempt shows =
      let came = split_at event_of (events_of trace) come.0 (entry.Came c.dispatch.job c.dispatch.lane come.1) (ap (λ (j : List Event). slice_get j come.0) fits.moves ∙ come.3) in
      let is_came : came.item ≡ Came c.dispatch.job c.dispatch.lane come.1 = came_event came.item c.dispatch.job c.dispatch.lane come.1 came.gives in
      let served = fits.served came.front came.back c.dispatch.job c.dispatch.lane come.1 c place attempt (class.Refusal code message) bytes
      (came.is ∙ ap (λ (event : TraceEvent). came.front ++ event ∷ came.back) is_came) known refl (come.2 ∙ ap Some (sym came.place)) is_attempt shows tt in
      let split = steps_split trace came.front (came.item ∷ came.back) came.is in
      let refused : Has (events_of split.0) (Serve (request_at c place) (Refused code)) =
      subst (λ (all : List TraceEvent). Has all (Serve (request_at c place) (Refused code))) (sym split.3)
      (has came.front (Serve (request_at c place) (Refused code)) (subst (λ (answer : Answer). Contains came.front (Serve (request_at c place) answer)) served.2 served.1)) in
      let at = step_of split.0 (Serve (request_at c place) (Refused code)) refused in
      let in_trace : trace ≡ at.front ++ at.step ∷ (at.back ++ split.1) = split.2 ∙ ap (λ (f : List Step). f ++ split.1) at.is ∙ append_assoc at.front (at.step ∷ at.back) split.1 in
      let owed = subst (λ (event : TraceEvent). IsWillingAt limits (state_after start at.front) event) at.is_event
      (willing_at limits at.front at.step (at.back ++ split.1) start (subst (λ (t : List Step). IsWilling limits start t) in_trace willing)) in
      let upto = reached_before at.front (at.step ∷ at.back) in
      let level : reached (at.front ++ at.step ∷ at.back) ≡ come.0 = ap reached (sym at.is) ∙ ap (λ (events : List TraceEvent). length (filter_map event_of events)) split.3 ∙ came.place in
      record {
        front = at.front;
        step = at.step;
        back = at.back ++ split.1;
        is = in_trace;
        number = place;
        is_event = at.is_event;
        in_vain = λ answered tried new. owed.0 answered tried new;
        says_taken = owed.1;
        early = omega arith;
      }

  pub refused_in_vain : IsWilling limits start trace → (c : Dispatched) → Contains dispatched c → HasCome journal c → (place : ℕ) (attempt : Attempt) (code message bytes : List ℕ)
      → slice_get c.dispatch.attempts place ≡ Some attempt → Shows c.ask c.limit attempt.talk (class.Refusal code message) bytes → IsRefusedThere limits start trace c.ask c.body
  refused_in_vain willing c known come place attempt code message bytes is_attempt shows =
      let there = refused_early willing c known come place attempt code message bytes is_attempt shows in
      record { front = there.front; back = there.step ∷ there.back; is = there.is; in_vain = there.in_vain }
