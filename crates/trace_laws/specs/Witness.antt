-- A trace over two lanes that meets what the laws take: while a job of the planning is pending in one lane, a removal
-- is stopped in the other, and given again behind it. And neighbours of it that are none.
use Rattle.std.specs.Prelude.{◌++◌, [], ◌∷◌, ℕ, zero, suc, List, Option, Some, None}
use Rattle.job_terms.specs.Jobs.{job_of}
use Rattle.jobs.specs.Endings.{SeenCarried}
use Rattle.jobs.specs.Jobs.{IsAskOf, SeenJob}
use Rattle.jobs.specs.declared.ending.Ending.TheVariants as ending
use Rattle.jobs.specs.declared.what.What.{What}
use Rattle.jobs.specs.declared.what.What.TheVariants as what
use Rattle.lane_jobs.specs.Lanes.{SeenCarrier, SeenLane}
use Rattle.lane_journals.specs.Ranges.{failed_talk}
use Rattle.run_traces.specs.Traces.{Gave, IsRunTrace, RunTrace, Took}
use Rattle.s3_model.specs.Talks.{Began, Moment, Note, Pause, Talk, WireLog}
use Rattle.s3_model.specs.declared.answers.Why.TheVariants as why
use Rattle.s3_model.specs.declared.outcomes.Reason.TheVariants as reason_of
use Rattle.s3_model.specs.declared.places.Endpoint.{Endpoint}
use Rattle.s3_model.specs.declared.requests.Ask.TheVariants as ask
use Rattle.s3_model.specs.declared.requests.Op.TheVariants as op
use Rattle.s3_model.specs.declared.settings.Keys.{Keys}
use Rattle.s3_model.specs.declared.tries.Mark.{Mark}
use Rattle.s3_model.specs.declared.tries.Mark.TheVariants as mark
use Rattle.trace_laws.specs.Joined.{HaveGained, IsJoined}

-- ---- its jobs

abbrev pub question : SeenJob
question = record {
  id = record { task = None; op = op.Buckets; number = 0 };
  what = what.Plan ask.Buckets;
  part = None;
  cell = None;
  had = 0;
}

-- in every attempt a call of the wire failed
abbrev pub lost : SeenJob → List Mark → SeenCarried
lost job tries = record { job = job; tries = tries; ending = ending.Uncertain why.WireFailed }

abbrev pub question_lost : SeenCarried
question_lost = lost question (mark.Uncertain ∷ mark.Uncertain ∷ [])

module _ (for : What) (cell : ℕ) where
  abbrev pub removal : SeenJob
  removal = record {
    id = job_of 0 op.Delete 0;
    what = for;
    part = None;
    cell = Some (record { cell = cell; known = None });
    had = 0;
  }

  -- stopped behind one attempt, since its task had failed
  abbrev pub removal_stopped : SeenCarried
  removal_stopped = lost (record removal { cell = Some (record { cell = cell; known = Some reason_of.TaskFailed }) })
      (mark.Uncertain ∷ [])

  abbrev pub removal_again : SeenJob
  removal_again = record removal { cell = None; had = 1 }

  abbrev pub removal_lost : SeenCarried
  removal_lost = lost removal_again (mark.Uncertain ∷ [])

  abbrev pub two_lanes : RunTrace
  two_lanes = Took 0 removal_lost ∷ Took 0 question_lost ∷ Gave 0 removal_again ∷ Took 1 removal_stopped
      ∷ Gave 1 removal ∷ Gave 0 question ∷ []

  -- ---- neighbours

  -- a lane brings what the other was given
  abbrev pub exchanged : RunTrace
  exchanged = Took 1 question_lost ∷ Gave 1 removal ∷ Gave 0 question ∷ []

  -- a job is given while it is pending
  abbrev pub given_twice : RunTrace
  given_twice = Gave 0 removal ∷ Gave 1 removal ∷ []

-- ---- its wires

-- what stands in the first lane and in the second
abbrev pub by_lane : {A : Type 0} → (first second : List A) → ℕ → List A
by_lane first second zero = first
by_lane first second (suc zero) = second
by_lane first second (suc (suc lane)) = []

abbrev pub tried_once : List Note
tried_once = Moment 0 ∷ Began ∷ []

-- a second attempt is made a second later
abbrev pub tried_again : List Note
tried_again = Pause 1 ∷ Moment 0 ∷ Began ∷ []

module _ (endpoint : Endpoint) (keys : Keys) where
  abbrev pub carrier : SeenCarrier
  carrier = record { endpoint = endpoint; keys = keys; attempts = 2 }

  abbrev pub logs : ℕ → List Talk
  logs = let talk = failed_talk endpoint in by_lane (talk ∷ talk ∷ talk ∷ []) (talk ∷ [])

  abbrev pub notes : ℕ → List Note
  notes = by_lane (tried_once ++ tried_again ++ tried_again) tried_once

  -- a lane whose wire, which is what is seen of it, has these talks and notes
  abbrev pub lane_with : List Talk → List Note → SeenLane (Option WireLog)
  lane_with talks noted = record { wire = Some (record { talks = talks; notes = noted }); carrier = carrier }

  abbrev pub befores : List (SeenLane (Option WireLog))
  befores = lane_with [] [] ∷ lane_with [] [] ∷ []

  abbrev pub afters : List (SeenLane (Option WireLog))
  afters = lane_with (logs 0) (notes 0) ∷ lane_with (logs 1) (notes 1) ∷ []

-- whatever the service, the keys, the task of the removal and its cell
abbrev pub TwoLanesAreMet : Type 0
TwoLanesAreMet = (endpoint : Endpoint) (keys : Keys) (for : What) (cell : ℕ)
    → IsAskOf (job_of 0 op.Delete 0) for (ask.Delete [] [])
    → let seen = λ (wire : Option WireLog). wire in
    IsJoined seen (carrier endpoint keys) (two_lanes for cell) (befores endpoint keys) (afters endpoint keys)
    × HaveGained seen (befores endpoint keys) (afters endpoint keys) (logs endpoint keys) (notes endpoint keys)

-- no lanes that are joined exchange their jobs
abbrev pub NoneAreExchanged : {W : Type 0} → (W → Option WireLog) → Type 0
NoneAreExchanged {W} seen = (of_carrier : SeenCarrier) (lanes joined : List (SeenLane W)) (for : What) (cell : ℕ)
    → ¬ (IsJoined seen of_carrier (exchanged for cell) lanes joined)

abbrev pub NoneIsGivenTwice : Type 0
NoneIsGivenTwice = (for : What) (cell : ℕ) → ¬ (IsRunTrace (given_twice for cell))
