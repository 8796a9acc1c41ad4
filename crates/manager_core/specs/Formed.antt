-- The job that is handed out to be given.
use Rattle.std.specs.Prelude.{◌≡◌, ℕ, Option, Some, None, IfSome, is_some, not, slice_get}
use Rattle.held_parts.specs.Held.{held_at}
use Rattle.jobs.specs.Jobs.{SeenJob}
use Rattle.manager_moves.specs.Runs.{Events, Shared, share}
use Rattle.move_laws.specs.Calls.{IsPartFor}
use Rattle.job_terms.specs.Ops.{is_op}
use Rattle.job_terms.specs.Jobs.{job_of}
use Rattle.s3_model.specs.declared.requests.Op.{Op}
use Rattle.s3_model.specs.declared.requests.Op.TheVariants as op
use Rattle.s3_model.specs.declared.tasks.Task.{Task}
use Rattle.task_acts.specs.declared.acts.Act.TheVariants as act
use Rattle.task_acts.specs.declared.work.Work.{Work}
use Rattle.task_acts.specs.Kept.{kept_job}
use Rattle.kept_jobs.specs.Steps.{IsStepOf}
use Rattle.manager_core.specs.Cells.{IsCellOf}
use Rattle.manager_core.specs.Kept.{SeenManager, jobs_at}

-- A job at its first giving: what it is for is what the history of its task says, with the cell of the task
-- unless it is an Abort, and with the part that its op takes, in which the bytes stand that its piece held.
pub record IsFirst (task : Task) (w : Work) (s : Shared) (events : Events) (n : ℕ) (of_op : Op) (number : ℕ)
    (m : SeenManager) (job : SeenJob) : Type 0 where
  pub id : job.id ≡ job_of n of_op number
  pub step : IsStepOf task w (share w n events) of_op number job.what
  pub has_cell : is_some job.cell ≡ not (is_op of_op op.Abort)
  pub cell : IfSome job.cell (λ holder. IsCellOf holder (jobs_at m n))
  pub had : job.had ≡ 0
  pub part : IsPartFor of_op m.moves.parts.pool.room (held_at m.moves.parts.slots n number) job.part

-- the job that was kept to be given again, or one at its first giving
abbrev pub IsHandedOut : Option SeenJob → Task → Work → Shared → Events → (n : ℕ) → Op → (number : ℕ) → SeenManager
    → SeenJob → Type 0
IsHandedOut (Some kept) task w s events n of_op number m job = job ≡ kept
IsHandedOut None task w s events n of_op number m job = IsFirst task w s events n of_op number m job

abbrev pub IsJobFor : Shared → Events → (n : ℕ) → Op → (number : ℕ) → SeenManager → SeenJob → Type 0
IsJobFor s events n of_op number m job = (task : Task) (w : Work) → slice_get m.plan.tasks.items n ≡ Some task
    → slice_get s.works n ≡ Some w
    → IsHandedOut (kept_job w (share w n events) (act.Send of_op number)) task w s events n of_op number m job
