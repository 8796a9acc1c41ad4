-- What may happen next in a run that is followed.
use Rattle.std.specs.Prelude.{◌≡◌, ◌∷◌, ℕ, Some, slice_get}
use Rattle.manager_moves.specs.Laws.{IsRun}
use Rattle.manager_moves.specs.Runs.{Event, Events, Shared}
use Rattle.task_acts.specs.declared.work.Work.{Work}
use Rattle.task_progress.specs.Progress.{HasPiece}
use Rattle.move_laws.specs.Follows.{Follows}
use Rattle.move_laws.specs.Kept.{SeenMoves}

-- the events can come about, and each task has a piece
pub record IsRunOf (s : Shared) (events : Events) : Type 0 where
  pub run : IsRun s events
  pub pieces : (n : ℕ) (w : Work) → slice_get s.works n ≡ Some w → HasPiece w

-- what is kept follows a run in which that may happen next
pub record Admits (event : Event) (m : SeenMoves) : Type 0 where
  pub s : Shared
  pub events : Events
  pub run : IsRunOf s (event ∷ events)
  pub follows : Follows s events m

-- whatever run it followed, it follows that run with this event in front
abbrev pub GoesOn : Event → (m new : SeenMoves) → Type 0
GoesOn event m new = (s : Shared) (events : Events) → IsRunOf s (event ∷ events) → Follows s events m
    → Follows s (event ∷ events) new
