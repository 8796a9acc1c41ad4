-- Which parts pieces have here after a call.
use Rattle.std.specs.Option.{option_or}
use Rattle.std.specs.Prelude.{◌≡◌, ◌==◌, ◌&&◌, ℕ, Option, Some, None, IfSome}
use Rattle.std.specs.Prelude.{if◌then◌else◌}
use Rattle.held_parts.specs.Held.{here_at}
use Rattle.jobs.specs.Endings.{SeenCarried}
use Rattle.part_tables.specs.Tables.{Slots}
use Rattle.s3_model.specs.declared.bytes.Part.{Part}

-- no piece is brought a part
abbrev pub no_part : (x y : ℕ) → Option Part
no_part x y = None

-- that piece is brought this part, and no other piece any
abbrev pub only_at : (task number : ℕ) → Option Part → (x y : ℕ) → Option Part
only_at task number part x y = if (task == x) && (number == y) then part else None

abbrev pub at_piece : Option ℕ → (number : ℕ) → Option Part → (x y : ℕ) → Option Part
at_piece None number part x y = None
at_piece (Some task) number part x y = only_at task number part x y

-- the piece of a job that came back is brought the part that came with it
abbrev pub part_by : SeenCarried → (x y : ℕ) → Option Part
part_by carried x y = at_piece carried.job.id.task carried.job.id.number carried.job.part x y

-- A part that a piece has here now was brought to it, or else was here for it before. So no part that is here has the
-- bytes of another piece, and none that stayed has lost or gained any.
abbrev pub KeepsBytes : (brought : ℕ → ℕ → Option Part) → (slots new : Slots) → Type 0
KeepsBytes brought slots new = (x y : ℕ)
    → IfSome (here_at new x y) (λ part. option_or (brought x y) (here_at slots x y) ≡ Some part)
