-- A job that is given next, behind its giving and before it is formed.
use Rattle.std.specs.Prelude.{◌≡◌, ◌<◌, ◌^◌, ◌∷◌, ℕ, List, Option, Some, None, slice_get}
use Rattle.held_parts.specs.Held.{held_at}
use Rattle.manager_moves.specs.Runs.{Events, Sent, Shared, share}
use Rattle.manager_moves.specs.declared.moves.Move.TheVariants as move
use Rattle.move_laws.specs.Calls.{IsPartFor}
use Rattle.move_laws.specs.Follows.{Follows}
use Rattle.move_laws.specs.Kept.{SeenMoves}
use Rattle.move_laws.specs.Steady.{IsSteady}
use Rattle.s3_model.specs.declared.bytes.Part.{Part}
use Rattle.s3_model.specs.declared.requests.Op.{Op}
use Rattle.s3_model.specs.declared.tasks.Task.{Task}
use Rattle.step_jobs.specs.Shares.{SeenSteps}
use Rattle.task_acts.specs.declared.acts.Act.TheVariants as act
use Rattle.task_acts.specs.declared.work.Work.{Work}
use Rattle.task_acts.specs.Kept.{kept_job}
use Rattle.manager_core.specs.declared.due.Due.TheVariants as due
use Rattle.manager_core.specs.Kept.{SeenManager}
use Rattle.manager_core.specs.Running.{IsRunning, Start}

-- the rule of the run gives it next, and the moves are behind its giving
pub record HasSent (start : Start) (s : Shared) (events : Events) (task : ℕ) (of_op : Op) (number lane : ℕ)
    (m : SeenManager) (mv : SeenMoves) : Type 0 where
  pub running : IsRunning start s events m
  pub named : m.due ≡ due.Next (move.Give task of_op number lane)
  pub follows : Follows s (Sent task of_op number lane ∷ events) mv
  pub steady : IsSteady m.moves mv

-- none is kept to be given again, and this part goes with it; the jobs of the tasks are as they were
pub record HasSentFirst (start : Start) (s : Shared) (events : Events) (task : ℕ) (of_op : Op) (number lane : ℕ)
    (part : Option Part) (m : SeenManager) (mv : SeenMoves) (steps : List (Option SeenSteps)) : Type 0 where
  pub sent : HasSent start s events task of_op number lane m mv
  pub steps_are : steps ≡ m.steps
  pub none_kept : (w : Work) → slice_get s.works task ≡ Some w
      → kept_job w (share w task events) (act.Send of_op number) ≡ None
  pub part_is : IsPartFor of_op m.moves.parts.pool.room (held_at m.moves.parts.slots task number) part
  pub size : (of_task : Task) → slice_get m.plan.tasks.items task ≡ Some of_task → of_task.size < 2 ^ 64

-- it is so in some run
pub record CanBeFormed (task : ℕ) (of_op : Op) (number : ℕ) (part : Option Part) (mv : SeenMoves)
    (steps : List (Option SeenSteps)) : Type 0 where
  pub start : Start
  pub s : Shared
  pub events : Events
  pub lane : ℕ
  pub m : SeenManager
  pub first : HasSentFirst start s events task of_op number lane part m mv steps
