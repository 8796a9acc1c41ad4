-- Traces that break one clause of how a trace fits, of what a service does, or of honesty, and no other.
use Rattle.std.specs.Prelude.{◌≡◌, ◌≢◌, ◌+◌, ◌++◌, ◌==◌, ℕ, List, [], ◌∷◌, Some, filter, filter_map, flat_map, count_by, None}
use Rattle.std.specs.Prelude.{sum_by, length, slice_get, Contains, AllPairs}
use Rattle.s3_model.specs.declared.answers.Class.{Class}
use Rattle.s3_model.specs.declared.answers.Listed.{Listed}
use Rattle.s3_model.specs.declared.outcomes.JobId.{JobId}
use Rattle.s3_model.specs.declared.requests.Ask.{Ask}
use Rattle.s3_model.specs.declared.tries.Mark.{Mark}
use Rattle.s3_model.specs.Talks.{Talk}
use Rattle.s3_service.specs.ServiceState.{Object, State, object_at}
use Rattle.s3_service.specs.Serves.{Answer, Removes, Writes}
use Rattle.run_promise.specs.Carried.{IsCarried}
use Rattle.job_terms.specs.Dispatches.{Attempt, Dispatched}
use Rattle.run_promise.specs.Fits.{Fits, IsAnswered, IsCertain, Names, request_at, requests_of}
use Rattle.run_promise.specs.Schedule.{IsSchedule}
use Rattle.run_promise.specs.Traces.{SentRequest, Came, External, Given, IsHonest, IsSameAttempt, IsTrace, Serve, Step}
use Rattle.run_promise.specs.Traces.{TraceEvent}
use Rattle.run_promise.specs.Traces.{begun_in, event_of, events_of, is_begin_of, marks_come, served_in, states}
use Rattle.run_promise.specs.Truthful.{IsDest}
use Rattle.promise_examples.specs.Misfits as misfits
use Rattle.promise_examples.specs.Misfits.{before}
use Rattle.promise_examples.specs.Reading.{Reads, signed_body}
use Rattle.promise_examples.specs.Lies.{lost_twice}
use Rattle.promise_examples.specs.Refused.{whole_run}
use Rattle.promise_examples.specs.Runs.{Example}

-- the clauses of `Fits`, by their names there; that a service does each step (`IsTrace`); and those of `IsHonest`
pub data TraceClause : Type 0 where
  Moves : TraceClause
  Begins : TraceClause
  SinceGiven : TraceClause
  UntilCame : TraceClause
  Once : TraceClause
  Answers : TraceClause
  Served : TraceClause
  Runs : TraceClause
  OneContent : TraceClause
  NotWritten : TraceClause
  NotRemoved : TraceClause

module _ (page_of : List ℕ → Listed) where
  abbrev pub Shows : Ask → ℕ → Talk → Class → List ℕ → Type 0
  Shows = Reads page_of

  module _ (e : Example) (dispatched : List Dispatched) (trace : List Step) where
    abbrev pub events : List TraceEvent
    events = events_of trace

    -- what a clause says of this trace of a run of the small upload
    abbrev pub SaysOfTrace : TraceClause → Type 0
    SaysOfTrace Moves = filter_map event_of events ≡ e.journal
    SaysOfTrace Begins = (lane : ℕ) → filter_map (begun_in lane) events
        ≡ flat_map requests_of (filter (λ (c : Dispatched). c.dispatch.lane == lane) dispatched)
    SaysOfTrace SinceGiven = (front back : List TraceEvent) (job : JobId) (lane : ℕ)
        → events ≡ front ++ Given job lane ∷ back
        → count_by (is_begin_of job) front ≡ sum_by (marks_come job) front
    SaysOfTrace UntilCame = (front back : List TraceEvent) (job : JobId) (lane : ℕ) (tries : List Mark)
        → events ≡ front ++ Came job lane tries ∷ back
        → count_by (is_begin_of job) front ≡ sum_by (marks_come job) front + length tries
    SaysOfTrace Once = AllPairs (λ a b. ¬ (IsSameAttempt a b)) (filter_map served_in events)
    SaysOfTrace Answers = (sent : SentRequest) (answer : Answer) → Contains events (Serve sent answer)
        → IsAnswered Shows None dispatched sent answer
    SaysOfTrace Served = (front back : List TraceEvent) (job : JobId) (lane : ℕ) (tries : List Mark) (c : Dispatched)
        (place : ℕ)
        (attempt : Attempt) (shown : Class) (bytes : List ℕ) → events ≡ front ++ Came job lane tries ∷ back
        → Contains dispatched c → c.dispatch.job ≡ job → c.dispatch.came_at ≡ Some (length (filter_map event_of front))
        → slice_get c.dispatch.attempts place ≡ Some attempt → Shows c.ask c.limit attempt.talk shown bytes
        → IsCertain None c shown
        → (answer : Answer) × Contains front (Serve (request_at c place) answer) × Names shown bytes answer
    SaysOfTrace Runs = IsTrace e.setting.limits [] before trace
    SaysOfTrace OneContent = (t u : State) (bucket key : List ℕ) (a b : Object) → Contains (states before trace) t
        → Contains (states before trace) u → object_at t bucket key ≡ Some a → object_at u bucket key ≡ Some b
        → a.etag ≡ b.etag → a.bytes ≡ b.bytes
    SaysOfTrace NotWritten = (bucket key : List ℕ) (object : Object)
        → Contains events (External (Writes bucket key object))
        → ¬ (IsDest e.setting.tasks bucket key)
    SaysOfTrace NotRemoved = (bucket key : List ℕ) → Contains events (External (Removes bucket key))
        → ¬ (IsDest e.setting.tasks bucket key)

    -- the trace is one of an honest service, and it fits
    pub record IsFit : Type 0 where
      pub runs : IsTrace e.setting.limits [] before trace
      pub honest : IsHonest before trace (IsDest e.setting.tasks)
      pub fits : Fits Shows None events e.journal dispatched

  -- the clauses together say that, no more and no less
  abbrev pub TraceClausesAreAll : Type 0
  TraceClausesAreAll = (e : Example) (dispatched : List Dispatched) (trace : List Step)
      → (((rule : TraceClause) → SaysOfTrace e dispatched trace rule) → IsFit e dispatched trace)
      × (IsFit e dispatched trace → (rule : TraceClause) → SaysOfTrace e dispatched trace rule)

  abbrev pub Carries : Example → List Dispatched → List Dispatched → Type 0
  Carries e dispatched coming = IsCarried Shows signed_body [] 80 e.setting e.journal e.logs e.notes dispatched coming

  -- No trace breaks the clause on answers alone: of jobs that are carried it follows from the others.
  abbrev pub AnswersFollow : Type 0
  AnswersFollow = (e : Example) (dispatched coming : List Dispatched) (trace : List Step)
      → Carries e dispatched coming → ((rule : TraceClause) → rule ≢ Answers → SaysOfTrace e dispatched trace rule)
      → SaysOfTrace e dispatched trace Answers

  -- With one reading of the upload, whose jobs keep to the schedule and are carried, every clause holds but this one,
  -- and this one does not.
  abbrev pub BreaksTraceAlone : Example → TraceClause → List Step → Type 0
  BreaksTraceAlone e broken trace = (dispatched : List Dispatched) × (coming : List Dispatched)
      × IsSchedule Shows e.setting (λ planning. planning ≡ []) dispatched coming × Carries e dispatched coming
      × ((rule : TraceClause) → rule ≢ broken → SaysOfTrace e dispatched trace rule)
      × ¬ (SaysOfTrace e dispatched trace broken)

  pub record TracesBreakAlone : Type 0 where
    pub all_clauses : TraceClausesAreAll
    pub answers_follow : AnswersFollow
    pub never_given : BreaksTraceAlone whole_run Moves misfits.never_given
    pub other_lane : BreaksTraceAlone whole_run Begins misfits.other_lane
    pub begun_before_given : BreaksTraceAlone whole_run SinceGiven misfits.begun_before_given
    -- of an upload that was lost twice
    pub begun_late : BreaksTraceAlone lost_twice UntilCame misfits.begun_late
    pub served_twice : BreaksTraceAlone whole_run Once misfits.served_twice
    pub never_served : BreaksTraceAlone whole_run Served misfits.never_served
    pub served_after_came : BreaksTraceAlone whole_run Served misfits.served_after_came
    pub served_before_begun : BreaksTraceAlone whole_run Runs misfits.served_before_begun
    pub two_contents : BreaksTraceAlone whole_run OneContent misfits.two_contents
    pub overwritten : BreaksTraceAlone whole_run NotWritten misfits.overwritten
    pub removed : BreaksTraceAlone whole_run NotRemoved misfits.removed

abbrev pub EachTraceBreaksAlone : Type 0
EachTraceBreaksAlone = (page_of : List ℕ → Listed) → TracesBreakAlone page_of
