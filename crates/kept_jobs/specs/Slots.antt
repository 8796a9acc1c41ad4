-- Where the jobs of a task stand in a list: those that it has once, then those of its pieces.
use Rattle.std.specs.Prelude.{◌≡◌, ◌<◌, ◌+◌, ◌-◌, ◌^◌, ◌==◌, ◌||◌, not, ℕ, List, Option, None, get_or, length, nat_lt, if◌then◌else◌}
use Rattle.jobs.specs.Jobs.{SeenJob}
use Rattle.job_terms.specs.Ops.{is_op}
use Rattle.s3_model.specs.declared.requests.Op.{Op}
use Rattle.s3_model.specs.declared.requests.Op.TheVariants as op
use Rattle.task_acts.specs.Work.{first_number, piece_op}
use Rattle.task_acts.specs.declared.work.Work.{Work}

-- what contracts see of kept jobs
pub record SeenKept : Type 0 where
  pub work : Work
  pub jobs : List (Option SeenJob)

-- the place of a job that a task has once; 4 for every other op
abbrev pub rank : Op → ℕ
rank op.Create = 0
rank op.Complete = 1
rank op.Abort = 2
rank op.Delete = 3
rank of_op = 4

abbrev pub slots : Work → ℕ
slots w = 4 + w.count

abbrev pub piece_slot : Work → Op → (number : ℕ) → ℕ
piece_slot w of_op number =
    if not (is_op of_op (piece_op w.of_kind w.small)) || nat_lt number (first_number w) then slots w
    else 4 + (number - first_number w)

-- the place of a job, behind all others where the task has none such
abbrev pub slot : Work → Op → (number : ℕ) → ℕ
slot w of_op number =
    if nat_lt (rank of_op) 4 then (if number == 0 then rank of_op else slots w) else piece_slot w of_op number

-- there is a place for each job
pub record HasSlots (w : Work) (jobs : List (Option SeenJob)) : Type 0 where
  pub many : length jobs ≡ slots w
  pub few : w.count + 1 < 2 ^ 32

abbrev pub job_at : SeenKept → Op → (number : ℕ) → Option SeenJob
job_at k of_op number = get_or k.jobs (slot k.work of_op number) None

-- the task has that job
abbrev pub HasSlot : Work → Op → (number : ℕ) → Type 0
HasSlot w of_op number = slot w of_op number < slots w
