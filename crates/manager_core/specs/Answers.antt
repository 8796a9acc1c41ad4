-- What may be called next.
use Rattle.std.specs.Prelude.{◌≡◌, ◌+◌, ◌≤◌, ℕ, List, Option, Some, None, IfSome, length}
use Rattle.held_parts.specs.Held.{here_at}
use Rattle.jobs.specs.Endings.{SeenCarried}
use Rattle.manager_moves.specs.Laws.{MayFollow}
use Rattle.manager_moves.specs.Runs.{Back, Events, Shared}
use Rattle.manager_moves.specs.declared.moves.Move.{Move}
use Rattle.manager_moves.specs.declared.moves.Move.TheVariants as move
use Rattle.move_laws.specs.Bytes.{only_at}
use Rattle.part_tables.specs.Tables.{Slots}
use Rattle.s3_model.specs.declared.bytes.Part.{Part}
use Rattle.s3_model.specs.declared.requests.Op.{Op}
use Rattle.task_acts.specs.declared.acts.FileCame.{FileCame}
use Rattle.task_acts.specs.Kept.{MayCome}
use Rattle.manager_core.specs.declared.due.Call.{Call}
use Rattle.manager_core.specs.declared.due.Due.{Due}
use Rattle.manager_core.specs.declared.due.Due.TheVariants as due
use Rattle.manager_core.specs.Due.{IsSettled, call_due}
use Rattle.manager_core.specs.Kept.{SeenManager}
use Rattle.manager_core.specs.Running.{IsRunning, Start}

-- a run is kept, and no job was formed that is still to be given
pub record CanGoOn (m : SeenManager) : Type 0 where
  pub start : Start
  pub s : Shared
  pub events : Events
  pub running : IsRunning start s events m
  pub settled : IsSettled m.due

-- that move is to be answered
pub record IsDue (moved : Move) (m : SeenManager) : Type 0 where
  pub start : Start
  pub s : Shared
  pub events : Events
  pub running : IsRunning start s events m
  pub is : m.due ≡ due.Next moved

-- that call on files is to be answered, and can come back so
pub record IsCallDue (result : FileCame) (m : SeenManager) : Type 0 where
  pub start : Start
  pub s : Shared
  pub events : Events
  pub running : IsRunning start s events m
  pub call : Call
  pub is : call_due m.due ≡ Some call
  pub may : MayCome call.act result

-- a job was formed that is to be given to that lane
pub record IsJobDue (lane : ℕ) (m : SeenManager) : Type 0 where
  pub start : Start
  pub s : Shared
  pub events : Events
  pub running : IsRunning start s events m
  pub task : ℕ
  pub of_op : Op
  pub number : ℕ
  pub is : m.due ≡ due.Job task of_op number lane

-- the oldest job of that lane comes back, as it was given
pub record MayComeBack (lane : ℕ) (carried : SeenCarried) (m : SeenManager) : Type 0 where
  pub start : Start
  pub s : Shared
  pub events : Events
  pub running : IsRunning start s events m
  pub settled : IsSettled m.due
  pub may : MayFollow s events (Back lane carried)

-- ---- the part of a move

-- that of the piece that is read next, and that of the one that is placed next
abbrev pub read_in : Slots → Due → Option Part
read_in slots (due.Next (move.Read task number)) = here_at slots task number
read_in slots of_due = None

abbrev pub placed_in : Slots → Due → Option Part
placed_in slots (due.Next (move.Place task number)) = here_at slots task number
placed_in slots of_due = None

abbrev pub read_part : SeenManager → Option Part
read_part m = read_in m.moves.parts.slots m.due

abbrev pub placed_part : SeenManager → Option Part
placed_part m = placed_in m.moves.parts.slots m.due

-- the piece that is read next was brought its part, and no other piece any
abbrev pub read_at : Slots → Due → (x y : ℕ) → Option Part
read_at slots (due.Next (move.Read task number)) x y = only_at task number (here_at slots task number) x y
read_at slots of_due x y = None

-- so many bytes more fit into it
abbrev pub FitsInPart : (bytes : List ℕ) → Option Part → Type 0
FitsInPart bytes part = IfSome part (λ x. length x.bytes.bytes + length bytes ≤ x.bytes.room)
