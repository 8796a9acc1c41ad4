-- What is formed for an act.
use Rattle.std.specs.Prelude.{◌≡◌, ℕ, not, IfSome, is_some}
use Rattle.std.specs.Arc.{arc_value}
use Rattle.jobs.specs.Jobs.{HasPart, SeenJob}
use Rattle.jobs.specs.declared.what.What.{What}
use Rattle.jobs.specs.declared.what.What.TheVariants as what
use Rattle.job_terms.specs.Ops.{is_op}
use Rattle.s3_model.specs.Parts.{piece_range}
use Rattle.s3_model.specs.declared.requests.Op.TheVariants as op
use Rattle.s3_model.specs.declared.tasks.Task.{Task}
use Rattle.task_acts.specs.declared.work.Work.{Work}
use Rattle.step_jobs.specs.declared.step_jobs.Given.{Given}
use Rattle.step_jobs.specs.Requests.{BeginsWithin, HasRequest}
use Rattle.step_jobs.specs.Shares.{SeenSteps}

-- the place and the length of a piece; number 0 is that of the first one, the whole of a task with one piece
abbrev pub range_at : Work → (number : ℕ) → ℕ × ℕ
range_at w number = piece_range w.size w.piece number

-- what a job is given fits it: it has a request, and a part exactly where it sends bytes or takes them in
pub record FitsJob (task : Task) (w : Work) (given : Given) : Type 0 where
  pub asks : HasRequest task (range_at w given.id.number) given.upload given.etags given.id.op given.id.number
  pub part : HasPart given.id.op (range_at w given.id.number).1 given.part
  pub within : BeginsWithin w given.id.number

-- it is for that task, with this piece, upload and entity tags
abbrev pub IsStepFor : Task → Work → Given → What → Type 0
IsStepFor task w given (what.Plan asked) = ⊥
IsStepFor task w given (what.Step of_task range upload etags) = (arc_value of_task ≡ task)
    × (range ≡ range_at w given.id.number) × (upload ≡ given.upload) × (etags ≡ given.etags)

-- a job at its first giving: with the cell of its task, unless it is an Abort
pub record IsFormed (s : SeenSteps) (given : Given) (job : SeenJob) : Type 0 where
  pub id : job.id ≡ given.id
  pub for : IsStepFor s.task s.work given job.what
  pub part : job.part ≡ given.part
  pub has_cell : is_some job.cell ≡ not (is_op given.id.op op.Abort)
  pub cell : IfSome job.cell (λ holder. holder.cell ≡ s.cell.cell)
  pub first : job.had ≡ 0
