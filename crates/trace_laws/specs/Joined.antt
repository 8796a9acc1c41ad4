-- What is known once the lanes of a trace are joined: each completion is that of its job.
use Rattle.std.specs.Prelude.{◌≡◌, ◌≤◌, ◌++◌, [], ◌∷◌, ℕ, List, Option, Some, Contains, IsSome, length, slice_get}
use Rattle.bounded_executor.specs.Exchange.{Exchange}
use Rattle.bounded_executor.specs.Runs.{EachRuns}
use Rattle.job_terms.specs.Gains.{Gains}
use Rattle.jobs.specs.Endings.{SeenCarried}
use Rattle.jobs.specs.Jobs.{SeenJob}
use Rattle.lane_jobs.specs.Lanes.{IsCarriedBy, IsSameCarrier, IsSameJob, SeenCarrier, SeenLane}
use Rattle.run_traces.specs.Exchanges.{AreExchangesOf, AreJobsOf, HasStranger}
use Rattle.run_traces.specs.Traces.{IsRunTrace, RunTrace, Took, events_of, pending_in}
use Rattle.s3_model.specs.Talks.{Note, Talk, WireLog}
use Rattle.whole_runs.specs.Given.{ComeAsGiven, Jobs}

-- Of the oldest pending job of that lane this is the outcome, by what the carrier did over a wire.
pub record IsOwnOutcome (carrier : SeenCarrier) (before : RunTrace) (lane : ℕ) (carried : SeenCarried) : Type 0 where
  pub job : SeenJob
  pub oldest : slice_get (pending_in lane before) 0 ≡ Some job
  pub was : Option WireLog
  pub now : Option WireLog
  pub by : IsCarriedBy carrier job was now carried
  pub same : IsSameJob job carried.job

-- these talks and notes came to what the wire shows, which is seen in the end
abbrev pub HasGained : (before after : Option WireLog) → List Talk → List Note → Type 0
HasGained before after talks notes =
    IsSome after × Gains before after (λ gained noted. (gained ≡ talks) × (noted ≡ notes))

-- `seen wire`: all that is seen of the wire, if it is
module _ {W : Type 0} (seen : W → Option WireLog) where
  -- the lane carried that job, and is the same carrier
  pub record CarriesJob (before : SeenLane W) (job : SeenJob) (done : SeenCarried) (after : SeenLane W) : Type 0 where
    pub carried : IsCarriedBy before.carrier job (seen before.wire) (seen after.wire) done
    pub same : IsSameJob job done.job
    pub carrier : IsSameCarrier before.carrier after.carrier

  -- The lanes of a trace were joined: each carried the jobs that the trace gave to it, one after the other, and what
  -- the trace took of it are their outcomes. All are such a carrier.
  pub record IsJoined (carrier : SeenCarrier) (trace : RunTrace) (befores afters : List (SeenLane W)) : Type 0 where
    pub trace_is : IsRunTrace trace
    pub carriers : (lane : SeenLane W) → Contains befores lane → lane.carrier ≡ carrier
    pub lanes : List (Exchange SeenJob SeenCarried)
    pub exchanged : AreExchangesOf trace lanes
    pub carried : EachRuns CarriesJob befores lanes afters

  -- what the wire of each lane gained, where all are seen in the end; there are no others
  pub record HaveGained (befores afters : List (SeenLane W)) (logs : ℕ → List Talk) (notes : ℕ → List Note)
      : Type 0 where
    pub each : (lane : ℕ) (before after : SeenLane W) → slice_get befores lane ≡ Some before
        → slice_get afters lane ≡ Some after → HasGained (seen before.wire) (seen after.wire) (logs lane) (notes lane)
    pub others : (lane : ℕ) → length befores ≤ lane → (logs lane ≡ []) × (notes lane ≡ [])

  -- Each completion is that of the oldest pending job of its lane, whether or not wires are seen.
  abbrev pub CompletionsAreOwn : Type 0
  CompletionsAreOwn = (carrier : SeenCarrier) (trace later before : RunTrace) (befores afters : List (SeenLane W))
      (lane : ℕ) (carried : SeenCarried) → IsJoined carrier trace befores afters
      → trace ≡ later ++ Took lane carried ∷ before → IsOwnOutcome carrier before lane carried

  -- So there was no stranger.
  abbrev pub NoneIsStranger : Type 0
  NoneIsStranger = (carrier : SeenCarrier) (trace : RunTrace) (befores afters : List (SeenLane W))
      → IsJoined carrier trace befores afters → ¬ (HasStranger trace)

  -- And the jobs of tasks come back for what they were given.
  abbrev pub JobsComeAsGiven : Type 0
  JobsComeAsGiven = (carrier : SeenCarrier) (trace : RunTrace) (befores afters : List (SeenLane W)) (jobs : Jobs)
      → IsJoined carrier trace befores afters → AreJobsOf trace jobs → ComeAsGiven (events_of trace) jobs

-- which jobs these are
abbrev pub TracesHaveJobs : Type 0
TracesHaveJobs = (trace : RunTrace) → (jobs : Jobs) × AreJobsOf trace jobs
