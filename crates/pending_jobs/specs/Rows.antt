-- How the jobs that are out are kept.
use Rattle.std.specs.Prelude.{◌≤◌, ℕ, List, All, length, map}
use Rattle.std.specs.VecDeque.{deque_capacity}
use Rattle.pending_jobs.specs.declared.pending.Pending.{Pending}
use Rattle.pending_jobs.specs.declared.pending_jobs.Row.{Row}

-- the jobs of each lane
abbrev pub jobs_of : List Row → List (List Pending)
jobs_of rows = map (λ (row : Row). row.jobs.items) rows

-- each lane has at most `depth` jobs, and the room for so many
abbrev pub IsSound : (depth : ℕ) → List Row → Type 0
IsSound depth rows = All (λ (row : Row). (depth ≤ deque_capacity row.jobs) × (length row.jobs.items ≤ depth)) rows
