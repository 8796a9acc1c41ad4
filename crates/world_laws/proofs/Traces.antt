-- Traces: their beginnings, what was begun in them, and what holds all along them.
use Rattle.std.proofs.Common.{◌≡◌, ◌⊎◌, ℕ, List, [], ◌∷◌, ◌++◌, refl, sym, ap, subst, inl, inr}
use Rattle.std.proofs.lemmas.List.{map-append}
use Rattle.s3_model.specs.declared.requests.Ask.{Ask}
use Rattle.s3_model.specs.declared.answers.Reply.{Reply}
use Rattle.s3_model.specs.declared.settings.Limits.{Limits}
use Rattle.s3_service.specs.ServiceState.{State}
use Rattle.s3_service.specs.Serves.{Replied, Refused, Succeeds, ExternalWrite, after_external}
use Rattle.run_promise.specs.Traces.{SentRequest, Step, TraceEvent, Given, Begin, Serve, External, Came, IsTrace, Steps, begun_after, state_after, states, events_of}
use Rattle.shared_lemmas.proofs.Members.{Has, has-append_left, has_middle, mapped, split_of}

-- all that was begun by the end of a trace
abbrev pub begun_through : List SentRequest → List Step → List SentRequest
begun_through begun [] = begun
begun_through begun (step ∷ trace) = begun_through (begun_after begun step.event) trace

begun_one : (begun : List SentRequest) (event : TraceEvent) (sent : SentRequest) → Has (begun_after begun event) sent → Has begun sent ⊎ ((lane : ℕ) × (event ≡ Begin lane sent))
begun_one begun (Begin lane first) sent (inl e) = inr (lane, ap (Begin lane) e)
begun_one begun (Begin lane first) sent (inr h) = inl h
begun_one begun (Given job lane) sent h = inl h
begun_one begun (Serve first answer) sent h = inl h
begun_one begun (External write) sent h = inl h
begun_one begun (Came job lane tries) sent h = inl h

-- what was begun by then had begun before, or begins in the trace
pub begun_from : (trace : List Step) (begun : List SentRequest) (sent : SentRequest) → Has (begun_through begun trace) sent → Has begun sent ⊎ ((lane : ℕ) × Has (events_of trace) (Begin lane sent))
begun_from [] begun sent h = inl h
begun_from (step ∷ trace) begun sent h = elim (begun_from trace (begun_after begun step.event) sent h) [
  | inr later ↦ inr (later.0, inr later.1)
  | inl before ↦ elim (begun_one begun step.event sent before) [ inl earlier ↦ inl earlier | inr here ↦ inr (here.0, inl here.1) ]
]

pub state_after-append : (front back : List Step) (old : State) → state_after old (front ++ back) ≡ state_after (state_after old front) back
state_after-append [] back old = refl
state_after-append (step ∷ front) back old = state_after-append front back step.state

pub state_after_step : (front : List Step) (step : Step) (old : State) → state_after old (front ++ step ∷ []) ≡ step.state
state_after_step front step old = state_after-append front (step ∷ []) old

-- the two parts of a trace are traces
pub trace_parts : (limits : Limits) (front back : List Step) (begun : List SentRequest) (old : State) → IsTrace limits begun old (front ++ back)
    → IsTrace limits begun old front × IsTrace limits (begun_through begun front) (state_after old front) back
trace_parts limits [] back begun old runs = (tt, runs)
trace_parts limits (step ∷ front) back begun old runs =
    let rest = trace_parts limits front back (begun_after begun step.event) step.state runs.1 in
    ((runs.0, rest.0), rest.1)

pub trace_beginning : (limits : Limits) (part late : List Step) (begun : List SentRequest) (old : State) → IsTrace limits begun old (part ++ late) → IsTrace limits begun old part
trace_beginning limits part late begun old runs = (trace_parts limits part late begun old runs).0

-- one step, from the state before it
pub step_within : (limits : Limits) (front : List Step) (step : Step) (back : List Step) (begun : List SentRequest) (old : State) → IsTrace limits begun old (front ++ step ∷ back)
    → Steps limits (begun_through begun front) (state_after old front) step.event step.state
step_within limits front step back begun old runs = (trace_parts limits front (step ∷ back) begun old runs).1.0

-- ---- members

pub event_of_whole : (part late : List Step) (event : TraceEvent) → Has (events_of part) event → Has (events_of (part ++ late)) event
event_of_whole part late event h = subst (λ (all : List TraceEvent). Has all event) (sym (map-append (λ (step : Step). step.event) part late)) (has-append_left (events_of part) (events_of late) event h)

pub event_within : (front : List Step) (step : Step) (back : List Step) → Has (events_of (front ++ step ∷ back)) step.event
event_within front step back =
    subst (λ (all : List TraceEvent). Has all step.event) (sym (map-append (λ (s : Step). s.event) front (step ∷ back))) (has_middle (events_of front) step.event (events_of back))

-- an event of a trace stands at a step of it
pub record IsAt (trace : List Step) (event : TraceEvent) : Type 0 where
  pub front : List Step
  pub step : Step
  pub back : List Step
  pub is : trace ≡ front ++ step ∷ back
  pub is_event : step.event ≡ event

pub step_of : (trace : List Step) (event : TraceEvent) → Has (events_of trace) event → IsAt trace event
step_of trace event h =
    let found = mapped (λ (step : Step). step.event) trace event h in
    let split = split_of trace found.0 found.1 in
    record { front = split.front; step = found.0; back = split.back; is = split.is; is_event = found.2 }

-- the states of a trace are those after its beginnings
pub has_state_after : (part late : List Step) (start : State) → Has (states start (part ++ late)) (state_after start part)
has_state_after [] late start = inl refl
has_state_after (step ∷ part) late start = inr (has_state_after part late step.state)

pub record IsAfter (start : State) (trace : List Step) (t : State) : Type 0 where
  pub part : List Step
  pub late : List Step
  pub is : trace ≡ part ++ late
  pub is_state : t ≡ state_after start part

pub beginning_of : (trace : List Step) (start t : State) → Has (states start trace) t → IsAfter start trace t
beginning_of trace start t (inl e) = record { part = []; late = trace; is = refl; is_state = sym e }
beginning_of [] start t (inr h) = absurd h
beginning_of (step ∷ trace) start t (inr h) =
    let rest = beginning_of trace step.state t h in
    record { part = step ∷ rest.part; late = rest.late; is = ap (λ others. step ∷ others) rest.is; is_state = rest.is_state }

-- ---- what every request keeps

-- what each success, of whatever request, and each external write keeps
pub record IsStable (limits : Limits) (Holds : State → Type 0) : Type 0 where
  pub served : (old : State) (asked : Ask) (body : List ℕ) (answered : Reply) (bytes : List ℕ) (new : State) → Succeeds limits old asked body answered bytes new → Holds old → Holds new
  pub written : (write : ExternalWrite) (old : State) → Holds old → Holds (after_external write old)

stable_step : (limits : Limits) (Holds : State → Type 0) → IsStable limits Holds → (begun : List SentRequest) (old : State) (event : TraceEvent) (new : State) → Steps limits begun old event new → Holds old → Holds new
stable_step limits Holds stable begun old (Given job lane) new steps holds = subst Holds (sym steps) holds
stable_step limits Holds stable begun old (Begin lane sent) new steps holds = subst Holds (sym steps) holds
stable_step limits Holds stable begun old (Came job lane tries) new steps holds = subst Holds (sym steps) holds
stable_step limits Holds stable begun old (External write) new steps holds = subst Holds (sym steps.1) (stable.written write old holds)
stable_step limits Holds stable begun old (Serve sent (Refused code)) new steps holds = subst Holds (sym steps.1.0) holds
stable_step limits Holds stable begun old (Serve sent (Replied answered bytes)) new steps holds = stable.served old sent.ask sent.body answered bytes new steps.1 holds

-- holds along every trace, whatever was dispatched
pub stable_along : (limits : Limits) (Holds : State → Type 0) → IsStable limits Holds → (trace : List Step) (begun : List SentRequest) (old : State) → IsTrace limits begun old trace → Holds old → Holds (state_after old trace)
stable_along limits Holds stable [] begun old runs holds = holds
stable_along limits Holds stable (step ∷ trace) begun old runs holds =
    stable_along limits Holds stable trace (begun_after begun step.event) step.state runs.1 (stable_step limits Holds stable begun old step.event step.state runs.0 holds)
