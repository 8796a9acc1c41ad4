-- Which numbers the pieces of a task have.
use Rattle.std.specs.Prelude.{◌<◌, ◌≤◌, ℕ}
use Rattle.s3_model.specs.Parts.{piece_count}
use Rattle.task_acts.specs.declared.work.Work.{Work}

-- A number that is not 0 is that of a piece, which has at least one byte.
abbrev pub HasNumber : Work → (number : ℕ) → Type 0
HasNumber w number = 0 < number → (1 ≤ w.piece) × (number ≤ piece_count w.size w.piece)
