-- How the shares of a task's jobs follow what happened to it.
use Rattle.std.specs.Prelude.{◌≡◌, [], ◌∷◌, ℕ, true, false, None, set}
use Rattle.kept_jobs.specs.Slots.{HasSlot, slot}
use Rattle.manager_moves.specs.Parts.{is_kept}
use Rattle.s3_model.specs.declared.requests.Op.{Op}
use Rattle.s3_model.specs.declared.tasks.Task.{Task}
use Rattle.task_acts.specs.declared.acts.Act.TheVariants as act
use Rattle.task_acts.specs.declared.acts.Stage.TheVariants as at
use Rattle.task_acts.specs.declared.work.Work.{Work}
use Rattle.task_acts.specs.Histories.{Gave, Happening, History}
use Rattle.task_acts.specs.Kept.{IsHistory}
use Rattle.task_acts.specs.Rule.{is_ready_in}
use Rattle.task_acts.specs.Stages.{stage}
use Rattle.step_jobs.specs.Shares.{HasAll, HasShare, SeenSteps}

-- they are those of that task, and each job that was not given has one
pub record HoldsShares (task : Task) (w : Work) (h : History) (j : SeenSteps) : Type 0 where
  pub task_is : j.task ≡ task
  pub work_is : j.work ≡ w
  pub shares : (of_op : Op) (number : ℕ) → HasSlot w of_op number → stage w h (act.Send of_op number) ≡ at.Waiting
      → HasShare j of_op number

abbrev pub SharesBegin : Type 0
SharesBegin = (task : Task) (w : Work) (j : SeenSteps) → j.task ≡ task → j.work ≡ w → HasAll j
    → HoldsShares task w [] j

-- whatever happens
abbrev pub SharesStay : Type 0
SharesStay = (task : Task) (w : Work) (h : History) (event : Happening) (j : SeenSteps) → HoldsShares task w h j
    → HoldsShares task w (event ∷ h) j

-- the share of that job was taken, as it was formed
pub record IsTakenFor (of_op : Op) (number : ℕ) (j new : SeenSteps) : Type 0 where
  pub task : new.task ≡ j.task
  pub work : new.work ≡ j.work
  pub shares : new.shares ≡ set j.shares (slot j.work of_op number) None

-- it is given
abbrev pub GivingTakesShare : Type 0
GivingTakesShare = (task : Task) (w : Work) (h : History) (j new : SeenSteps) (of_op : Op) (number : ℕ)
    → HasSlot w of_op number → HoldsShares task w h j → IsTakenFor of_op number j new
    → HoldsShares task w (Gave (act.Send of_op number) ∷ h) new

-- a job that a task is ready for has a share, unless it is kept to be given again
abbrev pub ReadyJobsHaveShares : Type 0
ReadyJobsHaveShares = (task : Task) (w : Work) (h : History) (j : SeenSteps) (of_op : Op) (number : ℕ)
    → IsHistory w h → HoldsShares task w h j → is_ready_in w h (act.Send of_op number) ≡ true
    → is_kept (stage w h (act.Send of_op number)) ≡ false → HasSlot w of_op number × HasShare j of_op number
