-- What a job that came back shows of the task.
use Rattle.std.specs.Prelude.{◌&&◌, ◌+◌, ◌==◌, ℕ, Bool, Option, Some, None, if◌then◌else◌}
use Rattle.jobs.specs.Jobs.{SeenJob}
use Rattle.job_terms.specs.Ops.{is_op}
use Rattle.s3_model.specs.declared.outcomes.JobId.{JobId}
use Rattle.task_acts.specs.Ends.{is_by_request}
use Rattle.task_acts.specs.Work.{deciding_op}
use Rattle.task_acts.specs.declared.work.Work.{Work}

-- the job is the deciding request
abbrev pub is_deciding : Work → JobId → Bool
is_deciding w id = is_by_request w.of_kind && is_op id.op (deciding_op w) && (id.number == 0)

-- a job without its cell, behind so many attempts
abbrev pub behind : SeenJob → (tries : ℕ) → SeenJob
behind job tries = record { id = job.id; what = job.what; part = job.part; cell = None; had = job.had + tries }

abbrev pub kept_if : Bool → SeenJob → (tries : ℕ) → Option SeenJob
kept_if is_kept job tries = if is_kept then Some (behind job tries) else None
