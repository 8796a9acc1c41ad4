-- Neighbours of a small upload that break one clause of what is carried, and no other.
use Rattle.std.specs.Prelude.{◌≡◌, ◌≢◌, ◌+◌, ◌<◌, ◌≤◌, ◌⊎◌, ℕ, List, [], Some, map, count_by, flat_map, length}
use Rattle.std.specs.Prelude.{slice_get, Contains, AllPairs}
use Rattle.s3_model.specs.declared.answers.Class.{Class}
use Rattle.s3_model.specs.declared.answers.Class.TheVariants as class
use Rattle.s3_model.specs.declared.answers.Listed.{Listed}
use Rattle.s3_model.specs.declared.answers.Why.TheVariants as why
use Rattle.s3_model.specs.declared.outcomes.Event.TheVariants as entry
use Rattle.s3_model.specs.declared.outcomes.JobId.{JobId}
use Rattle.s3_model.specs.declared.requests.Ask.{Ask}
use Rattle.s3_model.specs.declared.tries.Mark.{Mark}
use Rattle.s3_model.specs.declared.tries.Mark.TheVariants as mark
use Rattle.s3_model.specs.Talks.{Talk}
use Rattle.run_promise.specs.Carried.{IsCarried, IsWanting, MayStop, WouldGoOn}
use Rattle.job_terms.specs.Attempts.{AreNoted, in_lane, mark_of, numbered_from, talks_of}
use Rattle.job_terms.specs.Dispatches.{Attempt, Dispatched, dispatches, last_of}
use Rattle.run_promise.specs.Schedule.{IsBefore, IsSchedule}
use Rattle.promise_examples.specs.Reading.{Reads, signed_body}
use Rattle.promise_examples.specs.Refused as refused
use Rattle.promise_examples.specs.Runs.{Example}

-- the clauses of what is carried (`IsCarried` of run_promise), by their names there
pub data Clause : Type 0 where
  Shown : Clause
  Comes : Clause
  Lanes : Clause
  UnusedLanes : Clause
  NothingElse : Clause
  InTurn : Clause
  Gained : Clause
  Noted : Clause
  Marks : Clause
  Again : Clause
  GivenAgain : Clause
  AtMost : Clause
  ToTheEnd : Clause
  Silent : Clause

module _ (page_of : List ℕ → Listed) where
  abbrev pub Shows : Ask → ℕ → Talk → Class → List ℕ → Type 0
  Shows = Reads page_of

  module _ (e : Example) (dispatched coming : List Dispatched) where
    -- the last attempt of a job that would be tried again, or a job without one, is excused
    abbrev pub IsExcused : Dispatched → Type 0
    IsExcused c = IsWanting Shows signed_body [] 80 e.setting c ⊎ MayStop Shows signed_body [] 80 e.setting coming c

    abbrev pub GoesOn : Dispatched → Attempt → Type 0
    GoesOn c attempt = WouldGoOn Shows signed_body [] 80 c attempt

    -- what a clause says of this run and these jobs
    abbrev pub Says : Clause → Type 0
    Says Shown = map (λ (c : Dispatched). c.dispatch) dispatched ≡ dispatches e.journal e.logs
    Says Comes = (c : Dispatched) → Contains dispatched c → (place : ℕ) × (tries : List Mark)
        × (c.dispatch.came_at ≡ Some place)
        × (slice_get e.journal place ≡ Some (entry.Came c.dispatch.job c.dispatch.lane tries))
        × (length tries ≡ length c.dispatch.attempts)
    Says Lanes = (c : Dispatched) → Contains dispatched c → c.dispatch.lane < e.setting.lanes
    Says UnusedLanes = (lane : ℕ) → e.setting.lanes ≤ lane → (e.logs lane ≡ []) × (e.notes lane ≡ [])
    Says NothingElse = (place lane : ℕ) (job : JobId) (tries : List Mark)
        → slice_get e.journal place ≡ Some (entry.Came job lane tries)
        → (c : Dispatched) × Contains dispatched c × (c.dispatch.came_at ≡ Some place)
    Says InTurn = (lane : ℕ) → AllPairs
        (λ (a b : Dispatched). (at : ℕ) → b.dispatch.came_at ≡ Some at → IsBefore a.dispatch.came_at at)
        (in_lane lane dispatched)
    Says Gained = (lane : ℕ) → e.logs lane ≡ flat_map talks_of (in_lane lane dispatched)
    Says Noted = (lane : ℕ) → (unused : ℕ)
        × (unused ≤ count_by (λ (c : Dispatched). e.setting.wanted_memory c.dispatch.job.task)
        (in_lane lane dispatched))
        × AreNoted Shows signed_body [] 80 unused
        (flat_map (λ (c : Dispatched). numbered_from c 0 c.dispatch.attempts) (in_lane lane dispatched)) (e.notes lane)
    Says Marks = (c : Dispatched) (k : ℕ) (attempt : Attempt) → Contains dispatched c
        → slice_get c.dispatch.attempts k ≡ Some attempt
        → ((shown : Class) × (bytes : List ℕ) × Shows c.ask c.limit attempt.talk shown bytes
        × (attempt.mark ≡ mark_of shown)
        × (shown ≡ class.Uncertain why.Memory → IsWanting Shows signed_body [] 80 e.setting c))
        ⊎ ((k + 1 ≡ length c.dispatch.attempts) × (attempt.mark ≡ mark.Uncertain)
        × IsWanting Shows signed_body [] 80 e.setting c)
    Says Again = (c : Dispatched) (k : ℕ) (attempt : Attempt) → Contains dispatched c
        → slice_get c.dispatch.attempts k ≡ Some attempt
        → k + 1 < length c.dispatch.attempts → GoesOn c attempt
    Says GivenAgain = AllPairs (λ (a b : Dispatched). a.dispatch.job ≡ b.dispatch.job → (attempt : Attempt)
        → last_of a.dispatch.attempts ≡ Some attempt
        → GoesOn a attempt × (length a.dispatch.attempts < e.setting.config.attempts)) dispatched
    Says AtMost = (c : Dispatched) → Contains dispatched c
        → c.dispatch.earlier + length c.dispatch.attempts ≤ e.setting.config.attempts
    Says ToTheEnd = (c : Dispatched) (attempt : Attempt) → Contains dispatched c
        → last_of c.dispatch.attempts ≡ Some attempt → GoesOn c attempt
        → (c.dispatch.earlier + length c.dispatch.attempts ≡ e.setting.config.attempts) ⊎ IsExcused c
    Says Silent = (c : Dispatched) → Contains dispatched c → c.dispatch.attempts ≡ [] → IsExcused c

    abbrev pub Carries : Type 0
    Carries = IsCarried Shows signed_body [] 80 e.setting e.journal e.logs e.notes dispatched coming

  -- the clauses together say what is carried, no more and no less
  abbrev pub ClausesAreAll : Type 0
  ClausesAreAll = (e : Example) (dispatched coming : List Dispatched)
      → (((clause : Clause) → Says e dispatched coming clause) → Carries e dispatched coming)
      × (Carries e dispatched coming → (clause : Clause) → Says e dispatched coming clause)

  -- With one reading of its jobs they keep to the schedule, every clause holds but this one, and this one does not.
  abbrev pub BreaksAlone : Clause → Example → Type 0
  BreaksAlone broken e = (dispatched : List Dispatched) × (coming : List Dispatched)
      × IsSchedule Shows e.setting (λ planning. planning ≡ []) dispatched coming
      × ((clause : Clause) → clause ≢ broken → Says e dispatched coming clause)
      × ¬ (Says e dispatched coming broken)

  pub record WiresBreakAlone : Type 0 where
    pub all_clauses : ClausesAreAll
    pub further_talk : BreaksAlone Gained refused.further_talk
    pub other_moment : BreaksAlone Noted refused.other_moment
    pub other_body : BreaksAlone Noted refused.other_body
    pub partly_sent : BreaksAlone Noted refused.partly_sent
    pub other_host : BreaksAlone Noted refused.other_host
    pub untold_talk : BreaksAlone Noted refused.untold_talk
    pub no_pause : BreaksAlone Noted refused.no_pause
    pub longer_pause : BreaksAlone Noted refused.longer_pause
    pub other_mark : BreaksAlone Marks refused.other_mark
    pub denied_again : BreaksAlone Again refused.denied_again
    pub third_attempt : BreaksAlone AtMost refused.third_attempt
    pub given_up : BreaksAlone ToTheEnd refused.given_up
    pub never_tried : BreaksAlone Silent refused.never_tried
    pub came_twice : BreaksAlone NothingElse refused.came_twice
    pub moment_beyond : BreaksAlone UnusedLanes refused.moment_beyond
    -- where the job that was given is left out of the reading
    pub never_came : BreaksAlone Shown refused.never_came
    pub denied_given_again : BreaksAlone GivenAgain refused.denied_given_again
    pub silent_never_came : BreaksAlone Comes refused.silent_never_came
    pub silent_other_lane : BreaksAlone Lanes refused.silent_other_lane
    pub silent_out_of_turn : BreaksAlone InTurn refused.silent_out_of_turn

abbrev pub EachWireBreaksAlone : Type 0
EachWireBreaksAlone = (page_of : List ℕ → Listed) → WiresBreakAlone page_of
