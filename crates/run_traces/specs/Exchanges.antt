-- What was exchanged at a desk, and the jobs of a run, as a trace has them.
use Rattle.std.specs.Option.{option_map}
use Rattle.std.specs.Prelude.{◌≡◌, ◌++◌, ◌∷◌, ℕ, List, Option, Some, slice_get, slice_index_or}
use Rattle.bounded_executor.specs.Exchange.{Exchange, unused}
use Rattle.jobs.specs.Endings.{SeenCarried}
use Rattle.jobs.specs.Jobs.{SeenJob}
use Rattle.lane_givings.specs.Givings.{IsSameJob}
use Rattle.manager_moves.specs.Runs.{Events}
use Rattle.s3_model.specs.declared.bytes.Part.{Part}
use Rattle.run_traces.specs.Traces.{Gave, RunTrace, Took, events_of, exchange_of, pending_in}

-- each lane of the desk has the exchange of the trace, and no other lane has one
abbrev pub AreExchangesOf : RunTrace → List (Exchange SeenJob SeenCarried) → Type 0
AreExchangesOf trace lanes = (lane : ℕ) → slice_index_or lanes lane unused ≡ exchange_of lane trace

-- `jobs` says which job of a task was given behind these events
abbrev pub AreJobsOf : RunTrace → (jobs : Events → SeenJob) → Type 0
AreJobsOf trace jobs = (later before : RunTrace) (lane task : ℕ) (job : SeenJob)
    → trace ≡ later ++ Gave lane job ∷ before → job.id.task ≡ Some task → jobs (events_of before) ≡ job

abbrev pub room_of : Option Part → Option ℕ
room_of part = option_map (λ (p : Part). p.bytes.room) part

-- as far as can be seen before lanes are joined, this is an outcome of that job
pub record MayBeOf (job : SeenJob) (carried : SeenCarried) : Type 0 where
  pub same : IsSameJob job carried.job
  pub room : room_of carried.job.part ≡ room_of job.part

-- a lane brought what is none of its oldest pending job
pub record HasStranger (trace : RunTrace) : Type 0 where
  pub later : RunTrace
  pub before : RunTrace
  pub lane : ℕ
  pub carried : SeenCarried
  pub is : trace ≡ later ++ Took lane carried ∷ before
  pub job : SeenJob
  pub oldest : slice_get (pending_in lane before) 0 ≡ Some job
  pub other : ¬ (MayBeOf job carried)
