-- Short runs in which little is common: a planning whose one request is refused, a task for which memory ran out, a
-- cancelled run, and one beside which somebody else writes.
use Rattle.std.specs.Prelude.{◌≡◌, ◌==◌, ℕ, Bool, false, List, [], ◌∷◌, Option, Some, None, codes}
use Rattle.s3_model.specs.declared.answers.Listed.{Listed}
use Rattle.s3_model.specs.declared.answers.Reply.TheVariants as reply
use Rattle.s3_model.specs.declared.outcomes.Cause.TheVariants as cause
use Rattle.s3_model.specs.declared.outcomes.Event.TheVariants as entry
use Rattle.s3_model.specs.declared.outcomes.JobId.{JobId}
use Rattle.s3_model.specs.declared.outcomes.Outcome.{Outcome}
use Rattle.s3_model.specs.declared.outcomes.Outcome.TheVariants as outcome
use Rattle.s3_model.specs.declared.outcomes.Reason.{Reason}
use Rattle.s3_model.specs.declared.requests.Ask.{Ask}
use Rattle.s3_model.specs.declared.requests.Ask.TheVariants as ask
use Rattle.s3_model.specs.declared.requests.Op.TheVariants as op
use Rattle.s3_model.specs.declared.tries.Mark.TheVariants as mark
use Rattle.s3_model.specs.Talks.{Talk, Closed}
use Rattle.s3_service.specs.ServiceState.{State, with_object, without_object}
use Rattle.s3_service.specs.Serves.{Refused, Removes, Replied, Writes}
use Rattle.job_terms.specs.Attempts.{in_first}
use Rattle.job_terms.specs.Dispatches.{Dispatched}
use Rattle.run_promise.specs.Planning.{One, PlansFor}
use Rattle.run_promise.specs.Traces.{Begin, Came, External, Given, SentRequest, Serve, Step}
use Rattle.promise_examples.specs.Everything.{step}
use Rattle.promise_examples.specs.GivenAgain.{bytes, put_job}
use Rattle.promise_examples.specs.Misfits.{before, bucket, key, other_key, request}
use Rattle.promise_examples.specs.Reading.{Reads}
use Rattle.promise_examples.specs.Refused.{a_talk, once, setting, whole_run}
use Rattle.promise_examples.specs.Runs.{Example, IsMet}
use Rattle.promise_examples.specs.Services.{object_of}

-- ---- a planning whose one request is refused

abbrev pub head_job : JobId
head_job = record { task = None; op = op.Head; number = 0 }

abbrev pub head : Ask
head = ask.Head bucket key

abbrev pub denied : List ℕ
denied = codes "AccessDenied"

abbrev pub head_talk : Talk
head_talk = record { host = []; port = 80; sent = 5 ∷ []; got = denied; ending = Closed }

-- so there is no plan
abbrev pub refused_head : Example
refused_head = record {
  setting = record setting { tasks = [] };
  outcomes = [];
  journal = entry.Given head_job 0 ∷ entry.Came head_job 0 (mark.Refusal ∷ []) ∷ [];
  logs = in_first (head_talk ∷ []);
  notes = in_first a_talk;
}

abbrev pub sent_head : SentRequest
sent_head = record { job = head_job; number = 1; ask = head; body = [] }

abbrev pub head_trace : List Step
head_trace = step (Given head_job 0) before ∷ step (Begin 0 sent_head) before
    ∷ step (Serve sent_head (Refused denied)) before ∷ step (Came head_job 0 (mark.Refusal ∷ [])) before ∷ []

-- the command needs to know of that object
abbrev pub NeedsHead : (page_of : List ℕ → Listed) → List Dispatched → Type 0
NeedsHead page_of = PlansFor (Reads page_of) (λ prefix pages. ⊥) ⊥ None (One head ∷ [])

abbrev pub RefusedHeadIsMet : Type 0
RefusedHeadIsMet = (page_of : List ℕ → Listed) → IsMet page_of (NeedsHead page_of) refused_head before head_trace

-- ---- a Put that came without an attempt

-- in that setting, and the upload failed for that cause
abbrev pub untried : (wanted_memory : Option ℕ → Bool) → (cancelled_at : Option ℕ) → Outcome → Example
untried wanted_memory cancelled_at how = record {
  setting = record setting { wanted_memory = wanted_memory; cancelled_at = cancelled_at };
  outcomes = how ∷ [];
  journal = once [];
  logs = in_first [];
  notes = in_first [];
}

abbrev pub untried_trace : List Step
untried_trace = step (Given put_job 0) before ∷ step (Came put_job 0 []) before ∷ []

-- memory ran out for the first task
abbrev pub wants_first : Option ℕ → Bool
wants_first None = false
wants_first (Some n) = n == 0

abbrev pub wanting : Example
wanting = untried wants_first None (outcome.Failed cause.Memory)

-- the run was cancelled while the Put was out
abbrev pub cancelled : Reason → Example
cancelled why = untried (λ task. false) (Some 1) (outcome.Failed (cause.Cancelled why))

abbrev pub IsMetUnplanned : (page_of : List ℕ → Listed) → Example → State → List Step → Type 0
IsMetUnplanned page_of = IsMet page_of (λ planning. planning ≡ [])

abbrev pub MemoryIsMet : Type 0
MemoryIsMet = (page_of : List ℕ → Listed) → IsMetUnplanned page_of wanting before untried_trace

abbrev pub CancelledIsMet : Type 0
CancelledIsMet = (page_of : List ℕ → Listed) (why : Reason)
    → IsMetUnplanned page_of (cancelled why) before untried_trace

-- ---- somebody else writes another key, and removes it, while the Put is out

abbrev pub written : State
written = with_object before bucket other_key (object_of (8 ∷ []))

abbrev pub stored : State
stored = with_object written bucket key (object_of bytes)

abbrev pub removed : State
removed = without_object stored bucket other_key

abbrev pub beside_trace : List Step
beside_trace = step (Given put_job 0) before ∷ step (Begin 0 (request 1)) before
    ∷ step (External (Writes bucket other_key (object_of (8 ∷ [])))) written
    ∷ step (Serve (request 1) (Replied reply.Stored [])) stored
    ∷ step (External (Removes bucket other_key)) removed
    ∷ step (Came put_job 0 (mark.Success ∷ [])) removed ∷ []

abbrev pub ExternalWriteIsMet : Type 0
ExternalWriteIsMet = (page_of : List ℕ → Listed) → IsMetUnplanned page_of whole_run before beside_trace
