-- What the jobs of a task share: the task and its cancel cell.
use Rattle.std.specs.Prelude.{◌≡◌, ◌+◌, ◌^◌, ◌<◌, ℕ, List, Option, None, IfSome, IsSome, get_or, length}
use Rattle.jobs.specs.Cells.{Keeps}
use Rattle.jobs.specs.Holders.{Holder}
use Rattle.kept_jobs.specs.Slots.{HasSlot, slot, slots}
use Rattle.s3_model.specs.declared.requests.Op.{Op}
use Rattle.s3_model.specs.declared.tasks.Task.{Task}
use Rattle.task_acts.specs.declared.work.Work.{Work}

-- what contracts see of a share: the task, and which cell it is
pub record SeenShare : Type 0 where
  pub task : Task
  pub cell : ℕ

-- a task with its work, a holder of its cell, and a share at the place of each job that was not formed yet
pub record SeenSteps : Type 0 where
  pub task : Task
  pub work : Work
  pub cell : Holder
  pub shares : List (Option SeenShare)

-- the cell knows a reason now, the one that it knew before if there was one, and nothing else changed
pub record HearsReason (s new : SeenSteps) : Type 0 where
  pub rest : new ≡ record s { cell = new.cell }
  pub cell : Keeps s.cell new.cell

abbrev pub share_of : Task → Holder → SeenShare
share_of task cell = record { task = task; cell = cell.cell }

abbrev pub IsShareOf : Task → Holder → SeenShare → Type 0
IsShareOf task cell share = (share.task ≡ task) × (share.cell ≡ cell.cell)

-- there is a place for each job, and what stands there is a share of this task
pub record HasPlaces (task : Task) (w : Work) (cell : Holder) (shares : List (Option SeenShare)) : Type 0 where
  pub many : length shares ≡ slots w
  pub few : w.count + 1 < 2 ^ 32
  pub same : (place : ℕ) → IfSome (get_or shares place None) (IsShareOf task cell)

abbrev pub share_at : SeenSteps → Op → (number : ℕ) → Option SeenShare
share_at s of_op number = get_or s.shares (slot s.work of_op number) None

-- the job was not formed yet
abbrev pub HasShare : SeenSteps → Op → (number : ℕ) → Type 0
HasShare s of_op number = IsSome (share_at s of_op number)

-- no job was formed yet
abbrev pub HasAll : SeenSteps → Type 0
HasAll s = (of_op : Op) (number : ℕ) → HasSlot s.work of_op number → HasShare s of_op number
