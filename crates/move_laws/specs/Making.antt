-- The next task of a run is made.
use Rattle.std.specs.Prelude.{◌≡◌, ◌+◌, [], ◌∷◌, Option, Some, None, set, slice_get}
use Rattle.manager_moves.specs.Runs.{Events, Shared, made_count}
use Rattle.s3_model.specs.declared.outcomes.Cause.TheVariants as cause
use Rattle.s3_model.specs.declared.outcomes.Outcome.TheVariants as outcome
use Rattle.s3_model.specs.declared.outcomes.Reason.{Reason}
use Rattle.task_acts.specs.declared.work.Work.{Work}
use Rattle.task_acts.specs.Histories.{Cancelled, History}
use Rattle.task_core.specs.Machine.{SeenTask, Stands}
use Rattle.move_laws.specs.Kept.{SeenMoves}

-- it is the next task, to which nothing happened
abbrev pub IsNew : Shared → Events → SeenTask → Type 0
IsNew s events t = (w : Work) → slice_get s.works (made_count events) ≡ Some w → Stands w [] t

-- what a task that is made after a cancel has heard
abbrev pub first_cancel : Option Reason → History
first_cancel None = []
first_cancel (Some reason) = Cancelled reason ∷ []

-- one task more is made, and is unfinished
abbrev pub with_made : SeenMoves → SeenMoves
with_made m = record m { made = m.made + 1; unfinished = m.unfinished + 1 }

-- one task more is made, for which memory ran out
abbrev pub with_lost : SeenMoves → SeenMoves
with_lost m = record m {
  slots = set m.slots m.made None;
  outcomes = set m.outcomes m.made (Some (outcome.Failed cause.Memory));
  made = m.made + 1;
}
