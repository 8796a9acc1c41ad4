-- The jobs that are out in each lane.
use Rattle.std.specs.Prelude.{◌≡◌, ◌≤◌, ◌<◌, ◌^◌, ◌-◌, [], ℕ, List, All, get_or, length, map, set}
use Rattle.std.specs.List.{sum_by}
use Rattle.s3_model.specs.declared.outcomes.JobId.{JobId}

-- what contracts see of lanes: how many jobs each one takes, and for each lane the jobs out, the oldest first
pub record SeenLanes : Type 0 where
  pub depth : ℕ
  pub jobs : List (List JobId)

abbrev pub jobs_in : SeenLanes → (lane : ℕ) → List JobId
jobs_in lanes lane = get_or lanes.jobs lane []

abbrev pub out_in : SeenLanes → (lane : ℕ) → ℕ
out_in lanes lane = length (jobs_in lanes lane)

-- how many jobs are out in all lanes
abbrev pub out_of : SeenLanes → ℕ
out_of lanes = sum_by length lanes.jobs

-- these jobs are out in that lane, and the others are as before
abbrev pub with_jobs : SeenLanes → (lane : ℕ) → List JobId → SeenLanes
with_jobs lanes lane jobs = record { depth = lanes.depth; jobs = set lanes.jobs lane jobs }

-- no lane has fewer jobs out, and each lower one has more
pub record IsFreest (lanes : SeenLanes) (lane : ℕ) : Type 0 where
  pub within : lane < length lanes.jobs
  pub least : (other : ℕ) → other < length lanes.jobs → out_in lanes lane ≤ out_in lanes other
  pub first : (other : ℕ) → other < lane → out_in lanes lane < out_in lanes other

-- ---- how lanes are kept

-- jobs in a row, the oldest first, with room for so many
pub record SeenQueue : Type 0 where
  pub row : List JobId
  pub room : ℕ

abbrev pub rows : List SeenQueue → List (List JobId)
rows queues = map (λ (queue : SeenQueue). queue.row) queues

-- the numbers are those of the jobs out in each lane, and greater ones stand behind them
pub record IsCounted (jobs : List (List JobId)) (outs : List ℕ) : Type 0 where
  pub wide : length jobs ≤ length outs
  pub counts : (lane : ℕ) → lane < length jobs → get_or outs lane 0 ≡ length (get_or jobs lane [])
  pub behind : (place : ℕ) → length jobs ≤ place → place < length outs → get_or outs place 0 ≡ 2 ^ 32 - 1

pub record IsSound (depth : ℕ) (queues : List SeenQueue) (outs : List ℕ) (out : ℕ) : Type 0 where
  pub shallow : depth ≤ 64
  pub some : 1 ≤ length queues
  pub few : length queues ≤ 65535
  pub rooms : All (λ queue. (queue.room ≡ depth) × (length queue.row ≤ depth)) queues
  pub counted : IsCounted (rows queues) outs
  pub total : out ≡ sum_by length (rows queues)
