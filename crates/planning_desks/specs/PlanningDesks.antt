-- A planning over the lanes of a desk: how it begins, and what is known once the lanes have come back.
use Rattle.std.specs.Prelude.{◌≡◌, ◌++◌, ℕ, List, [], Option, map, replicate}
use Rattle.bounded_executor.specs.Desk.{DeskState}
use Rattle.bounded_executor.specs.Exchange.{unused}
use Rattle.bounded_executor.specs.Runs.{EachRuns}
use Rattle.jobs.specs.Endings.{SeenCarried}
use Rattle.jobs.specs.Jobs.{SeenJob}
use Rattle.lane_jobs.specs.Lanes.{SeenCarrier, SeenLane}
use Rattle.lane_workers.specs.LaneWorkers.{LaneCarries, lane_over, wires_of}
use Rattle.planning_questions.specs.Questions.{GoesOnBy, Progress}
use Rattle.run_traces.specs.Traces.{IsRunTrace, RunTrace}
use Rattle.s3_model.specs.Talks.{WireLog}
use Rattle.trace_laws.specs.Joined.{IsJoined}

-- nothing was exchanged with any lane, and the journal is empty
abbrev pub fresh : (lanes : ℕ) → Progress
fresh lanes = record { lanes = replicate lanes unused; journal = [] }

-- `seen wire`: all that is seen of the wire, if it is; `faults wire`: how often a call of it failed
module _ {W : Type 0} (seen : W → Option WireLog) (faults : W → ℕ) where
  -- Each lane of the desk carried the jobs that were given to it, one after the other, and the outcomes taken there
  -- are theirs; then their wires stand in front of those that were there, in their order.
  pub record ComesBack (desk : DeskState (SeenLane W) SeenJob SeenCarried) (before after : List W) : Type 0 where
    pub afters : List (SeenLane W)
    pub carried : EachRuns (LaneCarries seen faults) desk.workers desk.lanes afters
    pub wires : after ≡ wires_of afters ++ before

  -- Where steps were made at a fresh desk, and its lanes have come back, they are joined: what each lane carried is what
  -- the steps gave to it, and what they took of it are the outcomes.
  abbrev pub DesksAreJoined : Type 0
  DesksAreJoined = (carrier : SeenCarrier) (count : ℕ) (steps : RunTrace) (came : Progress) (wires : List W)
      (afters : List (SeenLane W)) → IsRunTrace steps → GoesOnBy steps (fresh count) came
      → EachRuns (LaneCarries seen faults) (map (lane_over carrier) wires) came.lanes afters
      → IsJoined seen carrier steps (map (lane_over carrier) wires) afters
