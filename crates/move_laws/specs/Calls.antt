-- What a call on files and a job find and leave of the parts.
use Rattle.std.specs.Prelude.{◌≡◌, ◌≤◌, [], ℕ, Bool, true, false, List, Option, Some, None, is_some}
use Rattle.std.specs.Prelude.{if◌then◌else◌}
use Rattle.held_parts.specs.Held.{IsHere, IsSamePool, held_at}
use Rattle.part_tables.specs.Tables.{IsFreed, IsPut, Slots}
use Rattle.job_terms.specs.Buffers.{holds_buffer}
use Rattle.s3_model.specs.declared.bytes.Part.{Part}
use Rattle.s3_model.specs.declared.requests.Op.{Op}
use Rattle.task_acts.specs.declared.acts.Act.{Act}
use Rattle.task_acts.specs.declared.acts.Act.TheVariants as act
use Rattle.task_core.specs.Machine.{SeenTask}
use Rattle.move_laws.specs.Freed.{keeps_part}
use Rattle.move_laws.specs.Kept.{SeenMoves}

-- ---- a call on files

-- nothing changed but that the piece holds a part, which is here
pub record IsLent (task number : ℕ) (m new : SeenMoves) : Type 0 where
  pub rest : new ≡ record m { parts = new.parts }
  pub pool : IsSamePool m.parts.pool new.parts.pool
  pub part : Part
  pub put : IsPut task number (Some (Some part)) m.parts.slots new.parts.slots

-- before the call all is as it was, but that a Read was lent a part
abbrev pub IsLentFor : (task : ℕ) → Act → (m now : SeenMoves) → Type 0
IsLentFor task (act.Read number) m now = IsLent task number m now
IsLentFor task called m now = now ≡ m

abbrev pub HasPlaced : (task : ℕ) → Act → Slots → Type 0
HasPlaced task (act.Place number) slots = IsHere (held_at slots task number)
HasPlaced task called slots = Unit {0}

-- the piece that was placed holds no part
abbrev pub IsPlaced : (task : ℕ) → Act → (slots new : Slots) → Type 0
IsPlaced task (act.Place number) slots new = IsPut task number None slots new
IsPlaced task called slots new = new ≡ slots

-- ---- a task that stops

-- the parts of a task are free, where it has stopped just now
abbrev pub IsFreedWhere : Bool → (task : ℕ) → SeenTask → (slots new : Slots) → Type 0
IsFreedWhere true task t slots new = IsFreed task (keeps_part t) slots new
IsFreedWhere false task t slots new = new ≡ slots

-- ---- a job that comes back

-- the part that came with it is here, or free
abbrev pub IsBrought : (task number : ℕ) → Option Part → (stays : Bool) → (slots new : Slots) → Type 0
IsBrought task number None stays slots new = new ≡ slots
IsBrought task number (Some part) stays slots new =
    IsPut task number (if stays then Some (Some part) else None) slots new

-- ---- a job that is given

-- the bytes that were read, none where the piece held no part
abbrev pub bytes_held : Option (Option Part) → List ℕ
bytes_held None = []
bytes_held (Some None) = []
bytes_held (Some (Some part)) = part.bytes.bytes

-- A job of that op takes such a part: one exactly where the op takes one, with that room, and with the bytes of the one
-- that the piece held.
abbrev pub HasBytes : (room : ℕ) → Option (Option Part) → Option Part → Type 0
HasBytes room held None = Unit {0}
HasBytes room held (Some part) = (room ≤ part.bytes.room) × (part.bytes.bytes ≡ bytes_held held)

abbrev pub IsPartFor : Op → (room : ℕ) → (held : Option (Option Part)) → Option Part → Type 0
IsPartFor of_op room held part = (is_some part ≡ holds_buffer of_op) × HasBytes room held part
