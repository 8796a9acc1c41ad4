-- The entity tags of parts, as a run keeps them.
use Rattle.std.specs.Prelude.{◌≡◌, ℕ, true, Some, is_some, slice_get}
use Rattle.manager_moves.specs.Moves.{made}
use Rattle.manager_moves.specs.Runs.{Events, Shared, share}
use Rattle.move_laws.specs.Kept.{SeenMoves, state_at}
use Rattle.move_laws.specs.Steady.{has_tags}
use Rattle.s3_model.specs.declared.requests.Op.TheVariants as op
use Rattle.task_acts.specs.declared.acts.Act.TheVariants as act
use Rattle.task_acts.specs.declared.acts.Stage.TheVariants as at
use Rattle.task_acts.specs.declared.work.Work.{Work}
use Rattle.task_acts.specs.Stages.{stage}
use Rattle.task_core.specs.Machine.{keeps_tags}

-- a task that goes on has those of its parts until its Complete is given
abbrev pub HoldTags : Shared → Events → SeenMoves → Type 0
HoldTags s events m = (n : ℕ) (w : Work) → slice_get (made s events) n ≡ Some w → keeps_tags w ≡ true
    → stage w (share w n events) (act.Send op.Complete 0) ≡ at.Waiting → is_some (state_at m n) ≡ true
    → has_tags (state_at m n) ≡ true
