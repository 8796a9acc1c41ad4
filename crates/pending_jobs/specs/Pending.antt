-- The jobs that were given to lanes and have not come back.
use Rattle.std.specs.Prelude.{◌≡◌, ◌≤◌, [], ◌∷◌, ℕ, List, Option, Some, None, get_or, is_some, set}
use Rattle.std.specs.Option.{option_map}
use Rattle.jobs.specs.Jobs.{SeenJob}
use Rattle.pending_jobs.specs.declared.pending.Pending.{Pending}
use Rattle.s3_model.specs.declared.bytes.Part.{Part}

-- what is kept of a job while it is out
abbrev pub pending_of : SeenJob → Pending
pending_of job = record {
  id = job.id;
  has_cell = is_some job.cell;
  room = option_map (λ (part : Part). part.bytes.room) job.part;
  had = job.had;
}

-- a part came back where one was given, with at least its room
abbrev pub KeepsRoom : (given : Option ℕ) → (now : Option Part) → Type 0
KeepsRoom None None = Unit {0}
KeepsRoom (Some room) (Some part) = room ≤ part.bytes.room
KeepsRoom given now = ⊥

-- The job may be this one, come back: it has the same name and the same number of earlier attempts, and a cell and a
-- part exactly where this one has them.
pub record IsBack (pending : Pending) (job : SeenJob) : Type 0 where
  pub id : job.id ≡ pending.id
  pub cell : is_some job.cell ≡ pending.has_cell
  pub part : KeepsRoom pending.room job.part
  pub had : job.had ≡ pending.had

-- what contracts see: how many jobs each lane takes, and for each lane those that are out, the oldest first
pub record SeenPendingJobs : Type 0 where
  pub depth : ℕ
  pub lanes : List (List Pending)

abbrev pub out_of : SeenPendingJobs → (lane : ℕ) → List Pending
out_of pending lane = get_or pending.lanes lane []

-- these jobs are out in that lane, and the others are as before
abbrev pub with_out : SeenPendingJobs → (lane : ℕ) → List Pending → SeenPendingJobs
with_out pending lane jobs = record { depth = pending.depth; lanes = set pending.lanes lane jobs }

abbrev pub IsOldestOf : List Pending → SeenJob → Type 0
IsOldestOf [] job = ⊥
IsOldestOf (oldest ∷ others) job = IsBack oldest job

-- the job may be the oldest of the lane, come back
abbrev pub IsOldestBack : SeenPendingJobs → (lane : ℕ) → SeenJob → Type 0
IsOldestBack pending lane job = IsOldestOf (out_of pending lane) job
