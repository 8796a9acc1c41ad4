-- The cells of tasks, by which their jobs are cancelled.
use Rattle.std.specs.Prelude.{◌≡◌, ◌==◌, ℕ, false, Option, Some, None}
use Rattle.jobs.specs.Holders.{Holder}
use Rattle.step_jobs.specs.Shares.{SeenSteps}
use Rattle.manager_core.specs.Kept.{SeenManager, jobs_at}

-- a holder of the cell of these jobs
abbrev pub IsCellOf : Holder → Option SeenSteps → Type 0
IsCellOf holder None = ⊥
IsCellOf holder (Some j) = holder.cell ≡ j.cell.cell

-- a task that goes on has the cell that it had, of which as much is known
abbrev pub CellStays : (before now : Option SeenSteps) → Type 0
CellStays before None = Unit {0}
CellStays None (Some new) = ⊥
CellStays (Some j) (Some new) = new.cell ≡ j.cell

abbrev pub KeepsCells : (m new : SeenManager) → Type 0
KeepsCells m new = (n : ℕ) → CellStays (jobs_at m n) (jobs_at new n)

-- but for the task that is made
abbrev pub KeepsCellsBut : (task : ℕ) → (m new : SeenManager) → Type 0
KeepsCellsBut task m new = (n : ℕ) → (task == n) ≡ false → CellStays (jobs_at m n) (jobs_at new n)
