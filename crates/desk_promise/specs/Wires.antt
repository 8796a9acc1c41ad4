-- What the wires of joined lanes gained, where all are seen in the end.
use Rattle.std.specs.Prelude.{ℕ, List, Option, Contains, IsSome}
use Rattle.lane_jobs.specs.Lanes.{SeenCarrier, SeenLane}
use Rattle.run_traces.specs.Traces.{RunTrace}
use Rattle.s3_model.specs.Talks.{Note, Talk, WireLog}
use Rattle.trace_laws.specs.Joined.{HaveGained, IsJoined}

-- `seen wire`: all that is seen of the wire, if it is
module _ {W : Type 0} (seen : W → Option WireLog) where
  abbrev pub AreSeen : List (SeenLane W) → Type 0
  AreSeen lanes = (lane : SeenLane W) → Contains lanes lane → IsSome (seen lane.wire)

  -- so there are talks and notes of each lane
  abbrev pub LanesGain : Type 0
  LanesGain = (carrier : SeenCarrier) (trace : RunTrace) (befores afters : List (SeenLane W))
      → IsJoined seen carrier trace befores afters → AreSeen afters
      → (logs : ℕ → List Talk) × (notes : ℕ → List Note) × HaveGained seen befores afters logs notes
