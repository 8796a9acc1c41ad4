-- What a run lends of one task.
use Rattle.std.specs.Prelude.{◌≡◌, ◌≤◌, ◌+◌, ℕ, Bool, false, List, Option, Some, None, IfSome, IsSome, length}
use Rattle.std.specs.Prelude.{slice_get}
use Rattle.held_parts.specs.Held.{here_at, held_at}
use Rattle.kept_jobs.specs.Tags.{SeenTags}
use Rattle.manager_moves.specs.Moves.{made, next_move}
use Rattle.manager_moves.specs.Runs.{Events, Shared, lacks_memory}
use Rattle.manager_moves.specs.declared.moves.Move.TheVariants as move
use Rattle.task_acts.specs.declared.work.Work.{Work}
use Rattle.task_acts.specs.Histories.{History}
use Rattle.task_core.specs.Machine.{SeenTask, Stands}
use Rattle.move_laws.specs.Admits.{IsRunOf}
use Rattle.move_laws.specs.Calls.{IsLent}
use Rattle.move_laws.specs.Follows.{Follows}
use Rattle.move_laws.specs.Kept.{SeenMoves, state_at}

-- ---- a state that is kept

abbrev pub failing_in : Option SeenTask → Bool
failing_in None = false
failing_in (Some t) = t.causes.failing

abbrev pub slot_upload : Option SeenTask → Option (List ℕ)
slot_upload None = None
slot_upload (Some t) = t.upload

abbrev pub slot_tags : Option SeenTask → Option SeenTags
slot_tags None = None
slot_tags (Some t) = t.tags

-- the entity tags were given away, and nothing else is said of the task than before
pub record IsUntagged (t new : SeenTask) : Type 0 where
  pub stands : (w : Work) (h : History) → Stands w h t → Stands w h new
  pub tags : new.tags ≡ None

-- the task of that work is made and has not ended
pub record IsGoing (s : Shared) (events : Events) (m : SeenMoves) (task : ℕ) (w : Work) : Type 0 where
  pub there : slice_get (made s events) task ≡ Some w
  pub memory : lacks_memory task events ≡ false
  pub state : IsSome (state_at m task)

-- ---- the part of a piece

-- so many bytes more fit into it
abbrev pub HasRoomFor : (bytes : List ℕ) → SeenMoves → (task number : ℕ) → Type 0
HasRoomFor bytes m task number = IfSome (here_at m.parts.slots task number)
    (λ part. length part.bytes.bytes + length bytes ≤ part.bytes.room)

-- it is read next, in a run that is followed
pub record IsReadNext (task number : ℕ) (m : SeenMoves) : Type 0 where
  pub s : Shared
  pub events : Events
  pub run : IsRunOf s events
  pub follows : Follows s events m
  pub next : next_move s events ≡ move.Read task number

-- it was lent for a Read of this run, which is not made
pub record IsLentIn (s : Shared) (events : Events) (task number : ℕ) (m : SeenMoves) : Type 0 where
  pub before : SeenMoves
  pub follows : Follows s events before
  pub none : held_at before.parts.slots task number ≡ None
  pub lent : IsLent task number before m
