-- Traces of a service: what happened to it while a program ran, in one order.
use Rattle.std.specs.Prelude.{◌≡◌, ◌==◌, ℕ, Bool, false, List, [], ◌∷◌, Option, Some, None, map, length, Contains}
use Rattle.std.specs.Prelude.{if◌then◌else◌}
use Rattle.s3_model.specs.declared.outcomes.JobId.{JobId}
use Rattle.s3_model.specs.declared.outcomes.Event.{Event}
use Rattle.s3_model.specs.declared.outcomes.Event.TheVariants as entry
use Rattle.s3_model.specs.declared.requests.Ask.{Ask}
use Rattle.s3_model.specs.declared.answers.Reply.{Reply}
use Rattle.s3_model.specs.declared.settings.Limits.{Limits}
use Rattle.s3_model.specs.declared.tries.Mark.{Mark}
use Rattle.s3_service.specs.ServiceState.{State, Object, HasBucket, object_at}
use Rattle.s3_service.specs.Serves.{Answer, Replied, Refused, Serves, Succeeds, ExternalWrite, Writes, Removes}
use Rattle.s3_service.specs.Serves.{bucket_of, after_external}
use Rattle.job_terms.specs.Jobs.{is_job}
use Rattle.s3_service.specs.Willing.{HasRange, IsWholeObject, SaysIfThere}

-- a request that was begun: the nth attempt of its job, counted from 1, with its body
pub record SentRequest : Type 0 where
  pub job : JobId
  pub number : ℕ
  pub ask : Ask
  pub body : List ℕ

-- Given and Came are the journal's; a request begins, is served, or somebody else writes.
pub data TraceEvent : Type 0 where
  Given : (job : JobId) → (lane : ℕ) → TraceEvent
  Begin : (lane : ℕ) → (sent : SentRequest) → TraceEvent
  Serve : (sent : SentRequest) → (answer : Answer) → TraceEvent
  External : (write : ExternalWrite) → TraceEvent
  Came : (job : JobId) → (lane : ℕ) → (tries : List Mark) → TraceEvent

-- what happened, and the state after it
pub record Step : Type 0 where
  pub event : TraceEvent
  pub state : State

-- ---- a trace

abbrev pub begun_after : List SentRequest → TraceEvent → List SentRequest
begun_after begun (Begin lane sent) = sent ∷ begun
begun_after begun (Given job lane) = begun
begun_after begun (Serve sent answer) = begun
begun_after begun (External write) = begun
begun_after begun (Came job lane tries) = begun

-- Only a request that was begun is served, also long after, and it and an external write alone change the state.
abbrev pub Steps : Limits → List SentRequest → State → TraceEvent → State → Type 0
Steps limits begun old (Serve sent answer) new = Contains begun sent × Serves limits old sent.ask sent.body answer new
Steps limits begun old (External write) new = HasBucket old (bucket_of write) × (new ≡ after_external write old)
Steps limits begun old (Given job lane) new = new ≡ old
Steps limits begun old (Begin lane sent) new = new ≡ old
Steps limits begun old (Came job lane tries) new = new ≡ old

abbrev pub IsTrace : Limits → List SentRequest → State → List Step → Type 0
IsTrace limits begun old [] = Unit {0}
IsTrace limits begun old (step ∷ trace) =
    Steps limits begun old step.event step.state × IsTrace limits (begun_after begun step.event) step.state trace

abbrev pub state_after : State → List Step → State
state_after t [] = t
state_after t (step ∷ trace) = state_after step.state trace

abbrev pub states : State → List Step → List State
states start trace = start ∷ map (λ (step : Step). step.state) trace

abbrev pub events_of : List Step → List TraceEvent
events_of trace = map (λ (step : Step). step.event) trace

-- ---- what a trace shows

abbrev pub event_of : TraceEvent → Option Event
event_of (Given job lane) = Some (entry.Given job lane)
event_of (Came job lane tries) = Some (entry.Came job lane tries)
event_of (Begin lane sent) = None
event_of (Serve sent answer) = None
event_of (External write) = None

abbrev pub begun_in : ℕ → TraceEvent → Option SentRequest
begun_in lane (Begin other sent) = if lane == other then Some sent else None
begun_in lane (Given job other) = None
begun_in lane (Serve sent answer) = None
begun_in lane (External write) = None
begun_in lane (Came job other tries) = None

abbrev pub served_in : TraceEvent → Option SentRequest
served_in (Serve sent answer) = Some sent
served_in (Given job lane) = None
served_in (Begin lane sent) = None
served_in (External write) = None
served_in (Came job lane tries) = None

abbrev pub is_begin_of : JobId → TraceEvent → Bool
is_begin_of job (Begin lane sent) = is_job job sent.job
is_begin_of job (Given other lane) = false
is_begin_of job (Serve sent answer) = false
is_begin_of job (External write) = false
is_begin_of job (Came other lane tries) = false

abbrev pub marks_come : JobId → TraceEvent → ℕ
marks_come job (Came other lane tries) = if is_job job other then length tries else 0
marks_come job (Given other lane) = 0
marks_come job (Begin lane sent) = 0
marks_come job (Serve sent answer) = 0
marks_come job (External write) = 0

abbrev pub IsSameAttempt : SentRequest → SentRequest → Type 0
IsSameAttempt a b = (a.job ≡ b.job) × (a.number ≡ b.number)

-- ---- honest traces

-- One ETag of a key never has two contents, and nobody else writes these places.
pub record IsHonest (start : State) (trace : List Step) (IsKept : List ℕ → List ℕ → Type 0) : Type 0 where
  pub one_content : (t u : State) (bucket key : List ℕ) (a b : Object)
      → Contains (states start trace) t → Contains (states start trace) u
      → object_at t bucket key ≡ Some a → object_at u bucket key ≡ Some b → a.etag ≡ b.etag → a.bytes ≡ b.bytes
  pub not_written : (bucket key : List ℕ) (object : Object)
      → Contains (events_of trace) (External (Writes bucket key object)) → ¬ (IsKept bucket key)
  pub not_removed : (bucket key : List ℕ) → Contains (events_of trace) (External (Removes bucket key))
      → ¬ (IsKept bucket key)

-- ---- willing traces

-- What may succeed does, and a Get with a range is not answered with the whole.
abbrev pub IsWillingAt : Limits → State → TraceEvent → Type 0
IsWillingAt limits old (Serve sent (Refused code)) =
    ((answered : Reply) (bytes : List ℕ) (new : State) → ¬ (Succeeds limits old sent.ask sent.body answered bytes new))
    × SaysIfThere old sent.ask code
IsWillingAt limits old (Serve sent (Replied answered bytes)) = HasRange sent.ask → ¬ (IsWholeObject answered)
IsWillingAt limits old (Given job lane) = Unit {0}
IsWillingAt limits old (Begin lane sent) = Unit {0}
IsWillingAt limits old (External write) = Unit {0}
IsWillingAt limits old (Came job lane tries) = Unit {0}

abbrev pub IsWilling : Limits → State → List Step → Type 0
IsWilling limits old [] = Unit {0}
IsWilling limits old (step ∷ trace) = IsWillingAt limits old step.event × IsWilling limits step.state trace
