-- What contracts see of a desk.
use Rattle.std.specs.Prelude.{◌≡◌, ℕ, ◌+◌, ◌<◌, ◌≤◌, List, length, sum_by, map, All, slice_index_or, slice_set}
use Rattle.bounded_executor.specs.Exchange.{Exchange, unused, jobs_out, with_given, with_taken}
use Rattle.bounded_executor.specs.Lane.{LaneState}

-- how many jobs may be out in each lane, the workers behind the lanes as they were before, and what was exchanged with
-- each lane
pub record DeskState (W J D : Type 0) : Type 0 where
  pub depth : ℕ
  pub workers : List W
  pub lanes : List (Exchange J D)

module _ {W J D : Type 0} where
  -- what was exchanged with a lane
  abbrev pub lane_of : DeskState W J D → ℕ → Exchange J D
  lane_of desk lane = slice_index_or desk.lanes lane unused

  -- how many jobs are out in all lanes
  abbrev pub all_out : DeskState W J D → ℕ
  all_out desk = sum_by jobs_out desk.lanes

  -- the desk after a job was given to a lane
  abbrev pub gives : DeskState W J D → ℕ → J → DeskState W J D
  gives desk lane job = record desk { lanes = slice_set desk.lanes lane (with_given (lane_of desk lane) job) }

  -- the desk after an outcome was taken of a lane
  abbrev pub takes : DeskState W J D → ℕ → D → DeskState W J D
  takes desk lane done = record desk { lanes = slice_set desk.lanes lane (with_taken (lane_of desk lane) done) }

  -- an outcome of a lane with a job out was taken
  pub record TookOne (before : DeskState W J D) (lane : ℕ) (done : D) (after : DeskState W J D) : Type 0 where
    pub in_range : lane < length before.lanes
    pub was_out : 0 < jobs_out (lane_of before lane)
    pub taken : after ≡ takes before lane done
    pub one_less : all_out after + 1 ≡ all_out before

  -- a desk of these lanes
  abbrev pub desk_of : ℕ → List (LaneState W J D) → DeskState W J D
  desk_of depth lanes =
      record { depth = depth; workers = map (λ l. l.worker) lanes; lanes = map (λ l. l.exchange) lanes }

-- each lane has this depth, and no more jobs out
abbrev pub IsLaneOf : {W J D : Type 0} → ℕ → LaneState W J D → Type 0
IsLaneOf depth l = (l.depth ≡ depth) × (jobs_out l.exchange ≤ depth)

-- `out` counts the jobs out in all lanes, and no number is too large
pub record IsDesk {W J D : Type 0} (depth out : ℕ) (lanes : List (LaneState W J D)) : Type 0 where
  pub counted : out ≡ all_out (desk_of depth lanes)
  pub alike : All (IsLaneOf depth) lanes
  pub shallow : depth ≤ 64
  pub few : length lanes ≤ 65535

-- as many lanes of the same workers, with the same depth
pub record SameDesk {W J D : Type 0} (before after : DeskState W J D) : Type 0 where
  pub depth : after.depth ≡ before.depth
  pub workers : after.workers ≡ before.workers
  pub lanes : length after.lanes ≡ length before.lanes
