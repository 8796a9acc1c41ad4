-- Lanes as workers: what one does for a job, and the lanes over wires.
use Rattle.std.specs.Prelude.{◌∷◌, length, ◌≡◌, ◌≤◌, ℕ, List, [], Option, IsSome, map}
use Rattle.bounded_executor.specs.Exchange.{Exchange}
use Rattle.bounded_executor.specs.Runs.{EachRuns}
use Rattle.jobs.specs.Endings.{SeenCarried}
use Rattle.jobs.specs.Jobs.{SeenJob}
use Rattle.lane_jobs.specs.Lanes.{IsCarriedBy, IsSameCarrier, IsSameJob, SeenCarrier, SeenLane, reason_of}
use Rattle.s3_model.specs.Talks.{WireLog}
use Rattle.s3_model.specs.declared.places.Endpoint.{Endpoint}
use Rattle.s3_model.specs.declared.settings.Keys.{Keys}

-- `seen wire`: all that is seen of the wire, if it is; `faults wire`: how often a call of it failed.
-- The lane carried that job: what it did for it over its wire, and what it handed back. No attempt is made of a job
-- whose cell was known to have a reason.
pub record LaneCarries {W : Type 0} (seen : W → Option WireLog) (faults : W → ℕ) (before : SeenLane W) (job : SeenJob)
    (done : SeenCarried) (after : SeenLane W) : Type 0 where
  pub carried : IsCarriedBy before.carrier job (seen before.wire) (seen after.wire) done
  pub stopped : IsSome (reason_of job.cell) → done.tries ≡ []
  pub same : IsSameJob job done.job
  pub carrier : IsSameCarrier before.carrier after.carrier
  pub later : faults before.wire ≤ faults after.wire

-- requests to this endpoint, signed with these keys, with at most so many attempts of each
abbrev pub carrier_with : Endpoint → Keys → (attempts : ℕ) → SeenCarrier
carrier_with endpoint keys attempts = record { endpoint = endpoint; keys = keys; attempts = attempts }

abbrev pub lane_over : {W : Type 0} → SeenCarrier → W → SeenLane W
lane_over carrier wire = record { wire = wire; carrier = carrier }

abbrev pub wires_of : {W : Type 0} → List (SeenLane W) → List W
wires_of lanes = map (λ lane. lane.wire) lanes

-- ---- lanes that come back

-- the same carrier, over a wire of which no fewer calls failed
abbrev pub IsLater : {W : Type 0} → (W → ℕ) → SeenLane W → SeenLane W → Type 0
IsLater faults before after =
    IsSameCarrier before.carrier after.carrier × (faults before.wire ≤ faults after.wire)

-- as many lanes as before, each in its place
abbrev pub AreLater : {W : Type 0} → (W → ℕ) → List (SeenLane W) → List (SeenLane W) → Type 0
AreLater faults [] [] = Unit {0}
AreLater faults (before ∷ befores) (after ∷ afters) = IsLater faults before after × AreLater faults befores afters
AreLater faults befores afters = ⊥

-- lanes that carried what they were given stand in their places
abbrev pub LanesComeBack : {W : Type 0} → (W → Option WireLog) → (W → ℕ) → Type 0
LanesComeBack {W} seen faults = (befores afters : List (SeenLane W)) (lanes : List (Exchange SeenJob SeenCarried))
    → EachRuns (LaneCarries seen faults) befores lanes afters
    → AreLater faults befores afters × (length afters ≡ length befores)
