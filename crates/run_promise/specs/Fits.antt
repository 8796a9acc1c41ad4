-- When a trace of the service is one that the journal and the logs of a program allow.
use Rattle.std.specs.Prelude.{◌≡◌, ◌+◌, ◌++◌, ◌==◌, ℕ, List, [], ◌∷◌, Option, Some, None, filter, filter_map, flat_map, count_by}
use Rattle.std.specs.Prelude.{sum_by, length, slice_get, Contains, AllPairs}
use Rattle.s3_model.specs.declared.outcomes.JobId.{JobId}
use Rattle.s3_model.specs.declared.outcomes.Event.{Event}
use Rattle.s3_model.specs.declared.requests.Ask.{Ask}
use Rattle.s3_model.specs.declared.requests.Ask.TheVariants as ask
use Rattle.s3_model.specs.declared.tries.Mark.{Mark}
use Rattle.s3_model.specs.declared.answers.Reply.{Reply}
use Rattle.s3_model.specs.Replies.{IsSameReply}
use Rattle.s3_model.specs.declared.answers.Class.{Class}
use Rattle.s3_model.specs.declared.answers.Class.TheVariants as class
use Rattle.s3_model.specs.Talks.{Talk}
use Rattle.s3_service.specs.Serves.{Answer, Replied, Refused}
use Rattle.job_terms.specs.Dispatches.{Attempt, Dispatched}
use Rattle.run_promise.specs.Traces.{SentRequest, TraceEvent, Given, Serve, Came, event_of, begun_in, served_in}
use Rattle.run_promise.specs.Traces.{is_begin_of, marks_come, IsSameAttempt}

-- the request of the kth attempt of a dispatch, counted from 0
abbrev pub request_at : Dispatched → ℕ → SentRequest
request_at c k = record { job = c.dispatch.job; number = c.dispatch.earlier + k + 1; ask = c.ask; body = c.body }

abbrev pub requests_from : Dispatched → ℕ → List Attempt → List SentRequest
requests_from c k [] = []
requests_from c k (attempt ∷ attempts) = request_at c k ∷ requests_from c (k + 1) attempts

-- the requests of a dispatch, in order
abbrev pub requests_of : Dispatched → List SentRequest
requests_of c = requests_from c 0 c.dispatch.attempts

-- the answer is the one that a class names, by the items of its lists, and the bytes are those of its body
abbrev pub Names : Class → List ℕ → Answer → Type 0
Names (class.Success reply) bytes answer = (same : Reply) × IsSameReply reply same × (answer ≡ Replied same bytes)
Names (class.Refusal code message) bytes answer = answer ≡ Refused code
Names (class.Uncertain why) bytes answer = Unit {0}

-- it asks for a page of a listing
abbrev pub IsListing : Ask → Type 0
IsListing (ask.List bucket prefix delimited token) = Unit {0}
IsListing other = ⊥

-- the planning job of that number, which asked for a page
abbrev pub IsPageJob : Option ℕ → Dispatched → Type 0
IsPageJob number c = IsListing c.ask × (c.dispatch.job.task ≡ None) × (number ≡ Some c.dispatch.job.number)

-- The class says what became of the request: a refusal or a success, but no page that the run refused by its content or
-- its count. `refused_page` is the number of the planning job that brought such a page, if one did.
abbrev pub IsCertain : (refused_page : Option ℕ) → Dispatched → Class → Type 0
IsCertain refused_page c (class.Success reply) = ¬ (IsPageJob refused_page c)
IsCertain refused_page c (class.Refusal code message) = Unit {0}
IsCertain refused_page c (class.Uncertain why) = ⊥

module _ (Shows : Ask → ℕ → Talk → Class → List ℕ → Type 0) (refused_page : Option ℕ) where
  -- this is a request of that talk, and the answer is the one that the talk names
  pub record IsAnswered (dispatched : List Dispatched) (sent : SentRequest) (answer : Answer) : Type 0 where
    pub of : Dispatched
    pub known : Contains dispatched of
    pub place : ℕ
    pub attempt : Attempt
    pub is_attempt : slice_get of.dispatch.attempts place ≡ Some attempt
    pub is_sent : sent ≡ request_at of place
    pub names : (shown : Class) (bytes : List ℕ) → Shows of.ask of.limit attempt.talk shown bytes
        → IsCertain refused_page of shown → Names shown bytes answer

  pub record Fits (trace : List TraceEvent) (journal : List Event) (dispatched : List Dispatched) : Type 0 where
    -- what was given and what came is the journal, in order
    pub moves : filter_map event_of trace ≡ journal
    -- what begins in a lane is what was sent over its wire, in order
    pub begins : (lane : ℕ)
        → filter_map (begun_in lane) trace
        ≡ flat_map requests_of (filter (λ (c : Dispatched). c.dispatch.lane == lane) dispatched)
    -- and each dispatch's requests begin between its Given and its Came
    pub since_given : (front back : List TraceEvent) (job : JobId) (lane : ℕ) → trace ≡ front ++ Given job lane ∷ back
        → count_by (is_begin_of job) front ≡ sum_by (marks_come job) front
    pub until_came : (front back : List TraceEvent) (job : JobId) (lane : ℕ) (tries : List Mark)
        → trace ≡ front ++ Came job lane tries ∷ back
        → count_by (is_begin_of job) front ≡ sum_by (marks_come job) front + length tries
    -- a request is served at most once, and as its talk says
    pub once : AllPairs (λ a b. ¬ (IsSameAttempt a b)) (filter_map served_in trace)
    pub answers : (sent : SentRequest) (answer : Answer) → Contains trace (Serve sent answer)
        → IsAnswered dispatched sent answer
    -- where the talk is certain it is served before its dispatch comes
    pub served : (front back : List TraceEvent) (job : JobId) (lane : ℕ) (tries : List Mark) (c : Dispatched)
        (place : ℕ) (attempt : Attempt) (shown : Class) (bytes : List ℕ)
        → trace ≡ front ++ Came job lane tries ∷ back → Contains dispatched c → c.dispatch.job ≡ job
        → c.dispatch.came_at ≡ Some (length (filter_map event_of front))
        → slice_get c.dispatch.attempts place ≡ Some attempt → Shows c.ask c.limit attempt.talk shown bytes
        → IsCertain refused_page c shown
        → (answer : Answer) × Contains front (Serve (request_at c place) answer) × Names shown bytes answer
