-- What laws take from a run: which of its dispatches came, and how their attempts went.
use Rattle.std.specs.Prelude.{◌≡◌, ◌<◌, ◌++◌, ℕ, List, [], Some, slice_get, Contains}
use Rattle.s3_model.specs.declared.requests.Ask.{Ask}
use Rattle.s3_model.specs.declared.answers.Reply.{Reply}
use Rattle.s3_model.specs.declared.answers.Class.{Class}
use Rattle.s3_model.specs.declared.answers.Class.TheVariants as class
use Rattle.s3_model.specs.declared.outcomes.JobId.{JobId}
use Rattle.s3_model.specs.declared.outcomes.Event.{Event}
use Rattle.s3_model.specs.declared.outcomes.Event.TheVariants as entry
use Rattle.s3_model.specs.declared.settings.Limits.{Limits}
use Rattle.s3_model.specs.declared.tries.Mark.{Mark}
use Rattle.s3_model.specs.Talks.{Talk}
use Rattle.s3_service.specs.Serves.{MayChange}
use Rattle.job_terms.specs.Dispatches.{Attempt, Dispatched}
use Rattle.run_promise.specs.Traces.{SentRequest, Step, Begin, IsTrace, events_of}
use Rattle.run_promise.specs.Fits.{Fits}
use Rattle.run_promise.specs.Runs.{Run}

-- ---- a run

-- the trace begins so
abbrev pub BeginsWith : Run → List Step → Type 0
BeginsWith run part = (late : List Step) × (run.trace ≡ part ++ late)

-- a request of the job begins there
abbrev pub HasBegun : List Step → JobId → Type 0
HasBegun part job = (lane : ℕ) × (sent : SentRequest) × Contains (events_of part) (Begin lane sent) × (sent.job ≡ job)

-- ---- its jobs

-- the dispatch came, at its place in the journal
abbrev pub HasCome : List Event → Dispatched → Type 0
HasCome journal c =
    (place : ℕ) × (tries : List Mark) × (c.dispatch.came_at ≡ Some place)
    × (slice_get journal place ≡ Some (entry.Came c.dispatch.job c.dispatch.lane tries))

-- Each dispatch was given at its place in the journal and came after it, and nothing else was given or came.
pub record AreGiven (journal : List Event) (dispatched : List Dispatched) : Type 0 where
  pub given : (c : Dispatched) → Contains dispatched c
      → slice_get journal c.dispatch.given_at ≡ Some (entry.Given c.dispatch.job c.dispatch.lane)
  pub in_order : (c : Dispatched) (place : ℕ) → Contains dispatched c → c.dispatch.came_at ≡ Some place
      → c.dispatch.given_at < place
  pub each_given : (place lane : ℕ) (job : JobId) → slice_get journal place ≡ Some (entry.Given job lane)
      → (c : Dispatched) × Contains dispatched c × (c.dispatch.job ≡ job) × (c.dispatch.given_at ≡ place)
  pub each_came : (place lane : ℕ) (job : JobId) (tries : List Mark)
      → slice_get journal place ≡ Some (entry.Came job lane tries)
      → (c : Dispatched) × Contains dispatched c × (c.dispatch.job ≡ job) × (c.dispatch.came_at ≡ Some place)

-- this place and no other
abbrev pub IsPlace : List ℕ → List ℕ → List ℕ → List ℕ → Type 0
IsPlace bucket key b k = (b ≡ bucket) × (k ≡ key)

-- no place
abbrev pub IsNoPlace : List ℕ → List ℕ → Type 0
IsNoPlace b k = ⊥

-- `Shows ask limit talk class bytes`: the talk has that class for the ask, and its answer that body
module _ (Shows : Ask → ℕ → Talk → Class → List ℕ → Type 0) where
  -- the trace is one of a service, and it fits
  pub record HasTrace (limits : Limits) (run : Run) : Type 0 where
    pub runs : IsTrace limits [] run.start run.trace
    pub fits : Fits Shows run.refused_page (events_of run.trace) run.journal run.dispatched

  -- some attempt was answered with success, and with this reply
  pub record HasSucceeded (c : Dispatched) : Type 0 where
    pub place : ℕ
    pub attempt : Attempt
    pub reply : Reply
    pub bytes : List ℕ
    pub is_attempt : slice_get c.dispatch.attempts place ≡ Some attempt
    pub shows : Shows c.ask c.limit attempt.talk (class.Success reply) bytes

  -- a request that may change the object came with success
  pub record HasSuccess (journal : List Event) (dispatched : List Dispatched) (bucket key : List ℕ) : Type 0 where
    pub request : Dispatched
    pub known : Contains dispatched request
    pub may : MayChange request.ask bucket key
    pub come : HasCome journal request
    pub succeeded : HasSucceeded request

  -- each attempt was refused
  abbrev pub AllRefused : Dispatched → Type 0
  AllRefused c = (place : ℕ) (attempt : Attempt) → slice_get c.dispatch.attempts place ≡ Some attempt
      → (code : List ℕ) × (message : List ℕ) × (bytes : List ℕ)
      × Shows c.ask c.limit attempt.talk (class.Refusal code message) bytes
