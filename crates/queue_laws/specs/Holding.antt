-- What lanes hold after the events of a run.
use Rattle.std.specs.Prelude.{◌≡◌, ◌<◌, ◌++◌, [], ◌∷◌, ℕ, Bool, true, false, drop, length, replicate}
use Rattle.jobs.specs.Endings.{SeenCarried}
use Rattle.lane_queues.specs.Lanes.{IsFreest, SeenLanes, out_of, with_jobs}
use Rattle.lane_queues.specs.Lanes as kept
use Rattle.manager_moves.specs.Lanes.{freest, jobs_in, out_before}
use Rattle.manager_moves.specs.Runs.{Back, Event, Events, Sent, Shared}
use Rattle.job_terms.specs.Jobs.{job_of}
use Rattle.s3_model.specs.declared.requests.Op.{Op}

-- lanes as they are kept hold what is out after those events
pub record HoldLanes (s : Shared) (events : Events) (lanes : SeenLanes) : Type 0 where
  pub depth : lanes.depth ≡ s.depth
  pub count : length lanes.jobs ≡ s.lanes
  pub jobs : (lane : ℕ) → lane < s.lanes → kept.jobs_in lanes lane ≡ jobs_in lane events

-- at the start no job is out
abbrev pub LanesBegin : Type 0
LanesBegin = (s : Shared) → HoldLanes s [] (record { depth = s.depth; jobs = replicate s.lanes [] })

-- a job that is sent stands behind the others of its lane
abbrev pub SentJoins : Type 0
SentJoins = (s : Shared) (events : Events) (lanes : SeenLanes) (task : ℕ) (of_op : Op) (number lane : ℕ)
    → HoldLanes s events lanes → lane < s.lanes
    → HoldLanes s (Sent task of_op number lane ∷ events)
    (with_jobs lanes lane (kept.jobs_in lanes lane ++ job_of task of_op number ∷ []))

-- the oldest job of a lane comes back
abbrev pub BackLeaves : Type 0
BackLeaves = (s : Shared) (events : Events) (lanes : SeenLanes) (lane : ℕ) (carried : SeenCarried)
    → HoldLanes s events lanes → lane < s.lanes
    → HoldLanes s (Back lane carried ∷ events) (with_jobs lanes lane (drop 1 (kept.jobs_in lanes lane)))

abbrev pub is_of_lanes : Event → Bool
is_of_lanes (Sent task of_op number lane) = true
is_of_lanes (Back lane carried) = true
is_of_lanes event = false

-- nothing else changes a lane
abbrev pub OthersStay : Type 0
OthersStay = (s : Shared) (events : Events) (lanes : SeenLanes) (event : Event) → is_of_lanes event ≡ false
    → HoldLanes s events lanes → HoldLanes s (event ∷ events) lanes

abbrev pub FreestIsFreest : Type 0
FreestIsFreest = (s : Shared) (events : Events) (lanes : SeenLanes) (lane : ℕ) → HoldLanes s events lanes
    → IsFreest lanes lane → lane ≡ freest s.lanes events

abbrev pub OutIsOut : Type 0
OutIsOut = (s : Shared) (events : Events) (lanes : SeenLanes) → HoldLanes s events lanes
    → out_of lanes ≡ out_before s.lanes events
