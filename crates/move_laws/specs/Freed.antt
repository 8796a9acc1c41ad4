-- The parts of a task that has stopped, or is about to.
use Rattle.std.specs.Prelude.{◌≡◌, ◌≤◌, ◌&&◌, ℕ, Bool, true, Option, Some, None, IfSome, is_some}
use Rattle.jobs.specs.Jobs.{SeenJob}
use Rattle.kept_jobs.specs.Slots.{job_at}
use Rattle.s3_model.specs.declared.bytes.Part.{Part}
use Rattle.task_acts.specs.Work.{is_piece, piece_op}
use Rattle.held_parts.specs.Held.{SeenParts, held_at}
use Rattle.task_core.specs.Machine.{SeenTask}

-- the job of a piece that is kept to be given again
abbrev pub kept_piece : SeenTask → (number : ℕ) → Option SeenJob
kept_piece t number = job_at t.kept (piece_op t.stages.work.of_kind t.stages.work.small) number

-- the part that it has
abbrev pub part_in : Option SeenJob → Option Part
part_in None = None
part_in (Some job) = job.part

-- the task has that piece, and keeps a part with its job
abbrev pub keeps_part : SeenTask → (number : ℕ) → Bool
keeps_part t number = is_piece t.stages.work number && is_some (part_in (kept_piece t number))

-- a part that comes back to a piece is away, and has that room
abbrev pub IsAway : (room : ℕ) → Option (Option Part) → Option Part → Type 0
IsAway room held part = IfSome part (λ x. (held ≡ Some None) × (room ≤ x.bytes.room))

-- the part of that job is away with it
abbrev pub IsWith : (room : ℕ) → Option (Option Part) → Option SeenJob → Type 0
IsWith room held job = IsAway room held (part_in job)

-- so is that of each kept job of its pieces
abbrev pub AreWithJobs : SeenParts → (task : ℕ) → SeenTask → Type 0
AreWithJobs parts task t = (number : ℕ) → is_piece t.stages.work number ≡ true
    → IsWith parts.pool.room (held_at parts.slots task number) (kept_piece t number)
