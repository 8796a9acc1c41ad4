-- What a table holds of a piece as the rule of a run names its next move.
use Rattle.std.specs.Prelude.{◌≡◌, ◌≢◌, ◌<◌, ◌∷◌, ℕ, Bool, true, false, Some, None, is_some, slice_get}
use Rattle.jobs.specs.Endings.{SeenCarried}
use Rattle.job_terms.specs.Buffers.{holds_buffer}
use Rattle.s3_model.specs.declared.requests.Op.{Op}
use Rattle.task_acts.specs.Kept.{kept_job}
use Rattle.task_acts.specs.declared.acts.Act.TheVariants as act
use Rattle.task_acts.specs.declared.work.Work.{Work}
use Rattle.manager_moves.specs.declared.moves.Move.TheVariants as move
use Rattle.manager_moves.specs.Laws.{IsRun}
use Rattle.manager_moves.specs.Moves.{call_of, next_move}
use Rattle.manager_moves.specs.Runs.{Back, Events, Shared, share}
use Rattle.held_parts.specs.Held.{AreSingle, IsHere, held_at, lent_in}
use Rattle.part_tables.specs.Tables.{IsTableOf, Slots}

-- the part of a piece is away with its job that is kept; else the piece holds one that is here, or none and one is free
pub record FindsPart (kept : Bool) (buffers : ℕ) (slots : Slots) (task number : ℕ) : Type 0 where
  pub away : kept ≡ true → held_at slots task number ≡ Some None
  pub here : kept ≡ false → held_at slots task number ≢ None → IsHere (held_at slots task number)
  pub free : kept ≡ false → held_at slots task number ≡ None → lent_in slots < buffers

-- as a job that takes a part is given
abbrev pub SendingFindsPart : Type 0
SendingFindsPart = (s : Shared) (events : Events) (slots : Slots) (task : ℕ) (of_op : Op) (number lane : ℕ) (w : Work)
    → IsRun s events → AreSingle slots → IsTableOf s.works events slots → slice_get s.works task ≡ Some w
    → next_move s events ≡ move.Give task of_op number lane → holds_buffer of_op ≡ true
    → FindsPart (is_some (kept_job w (share w task events) (act.Send of_op number))) s.buffers slots task number

-- as such a job comes back, the part is away
abbrev pub ReturningFindsAway : Type 0
ReturningFindsAway = (s : Shared) (events : Events) (slots : Slots) (lane : ℕ) (carried : SeenCarried) (task : ℕ)
    → IsRun s (Back lane carried ∷ events) → IsTableOf s.works events slots
    → carried.job.id.task ≡ Some task → holds_buffer carried.job.id.op ≡ true
    → held_at slots task carried.job.id.number ≡ Some None

-- as a piece is read, it holds none, and one is free
abbrev pub ReadingFindsFree : Type 0
ReadingFindsFree = (s : Shared) (events : Events) (slots : Slots) (task number : ℕ)
    → IsRun s events → AreSingle slots → IsTableOf s.works events slots
    → call_of s events task (act.Read number) ≡ Some (next_move s events)
    → (held_at slots task number ≡ None) × (lent_in slots < s.buffers)

-- as a piece is placed, its part is here
abbrev pub PlacingFindsPart : Type 0
PlacingFindsPart = (s : Shared) (events : Events) (slots : Slots) (task number : ℕ)
    → IsRun s events → IsTableOf s.works events slots
    → call_of s events task (act.Place number) ≡ Some (next_move s events)
    → IsHere (held_at slots task number)
