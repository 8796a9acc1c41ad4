-- A trace that is written out fits a journal and jobs that are.
use Rattle.std.proofs.Common.{◌≡◌, ◌∙◌, ◌+◌, ◌==◌, ℕ, Bool, true, false, List, Option, Some, None, ap, Contains, filter, filter_map, length, arith}
use Rattle.std.specs.Prelude.{flat_map, count_by, sum_by}
use Rattle.s3_model.specs.declared.requests.Ask.{Ask}
use Rattle.s3_model.specs.declared.answers.Class.{Class}
use Rattle.s3_model.specs.declared.outcomes.Event.{Event}
use Rattle.s3_model.specs.Talks.{Talk}
use Rattle.s3_service.specs.Serves.{Answer}
use Rattle.job_terms.specs.Dispatches.{Attempt, Dispatched}
use Rattle.run_promise.specs.Fits.{Fits, IsAnswered, IsPageJob, Names, IsCertain, request_at, requests_of}
use Rattle.run_promise.specs.Traces.{TraceEvent, Given, Serve, Came, IsSameAttempt, event_of, begun_in, served_in, is_begin_of, marks_come}
use Rattle.promise_examples.proofs.Concrete.{Each, each, each_passing, Slots, slot, Pairs, pairs, Cuts, cut, none_is_some}

-- a job that came at that place
abbrev pub is_place : ℕ → Option ℕ → Bool
is_place n None = false
is_place n (Some place) = place == n

abbrev pub came_at : ℕ → Dispatched → Bool
came_at n c = is_place n c.dispatch.came_at

at_itself : (n : ℕ) → (n == n) ≡ true
at_itself n = grind arith

pub passes_place : (n : ℕ) (place : Option ℕ) → place ≡ Some n → is_place n place ≡ true
passes_place n place e = ap (is_place n) e ∙ at_itself n

-- ---- the clauses, by the event

abbrev pub GivenRule : List TraceEvent → TraceEvent → Type 0
GivenRule front (Given job lane) = count_by (is_begin_of job) front ≡ sum_by (marks_come job) front
GivenRule front event = Unit {0}

abbrev pub CameRule : List TraceEvent → TraceEvent → Type 0
CameRule front (Came job lane tries) = count_by (is_begin_of job) front ≡ sum_by (marks_come job) front + length tries
CameRule front event = Unit {0}

-- where no page was refused by its content, none is that of a job
pub no_page : (c : Dispatched) → IsPageJob None c → ⊥
no_page c page = none_is_some c.dispatch.job.number page.2

module _ (Shows : Ask → ℕ → Talk → Class → List ℕ → Type 0) (dispatched : List Dispatched) where
  abbrev pub AnswerRule : TraceEvent → Type 0
  AnswerRule (Serve sent answer) = IsAnswered Shows None dispatched sent answer
  AnswerRule event = Unit {0}

  -- the answer of an attempt is served in front, where its talk is certain
  abbrev pub IsServed : List TraceEvent → Dispatched → ℕ → Attempt → Type 0
  IsServed front c place attempt = (shown : Class) (bytes : List ℕ) → Shows c.ask c.limit attempt.talk shown bytes → IsCertain None c shown
      → (answer : Answer) × Contains front (Serve (request_at c place) answer) × Names shown bytes answer

  abbrev pub ServedRule : List TraceEvent → TraceEvent → Type 0
  ServedRule front (Came job lane tries) = Each (λ (c : Dispatched). Slots (IsServed front c) c.dispatch.attempts) (filter (came_at (length (filter_map event_of front))) dispatched)
  ServedRule front event = Unit {0}

  module _ (trace : List TraceEvent) (journal : List Event)
      (moves : filter_map event_of trace ≡ journal)
      (begins : (lane : ℕ) → filter_map (begun_in lane) trace ≡ flat_map requests_of (filter (λ (c : Dispatched). c.dispatch.lane == lane) dispatched))
      (given : Cuts GivenRule trace) (came : Cuts CameRule trace)
      (once : Pairs (λ a b. ¬ (IsSameAttempt a b)) (filter_map served_in trace))
      (answers : Each AnswerRule trace) (served : Cuts ServedRule trace) where
    pub fits : Fits Shows None trace journal dispatched
    fits = record {
      moves = moves;
      begins = begins;
      since_given = λ front back job lane e. cut GivenRule trace given front (Given job lane) back e;
      until_came = λ front back job lane tries e. cut CameRule trace came front (Came job lane tries) back e;
      once = pairs (λ a b. ¬ (IsSameAttempt a b)) (filter_map served_in trace) once;
      answers = λ sent answer happened. each AnswerRule trace answers (Serve sent answer) happened;
      served = λ front back job lane tries c place attempt shown bytes e known of_job at is_attempt shows certain.
          let here = cut ServedRule trace served front (Came job lane tries) back e in
          let n : ℕ = length (filter_map event_of front) in
          let of_c = each_passing (came_at n) (λ (d : Dispatched). Slots (IsServed front d) d.dispatch.attempts) dispatched here c known (passes_place n c.dispatch.came_at at) in
          slot (IsServed front c) c.dispatch.attempts of_c place attempt is_attempt shown bytes shows certain;
    }
