-- What the jobs of a task ask, by its history.
use Rattle.std.specs.Prelude.{◌≡◌, ℕ, true, List, Option, Some, None, Contains, if◌then◌else◌}
use Rattle.std.specs.Arc.{arc_value}
use Rattle.jobs.specs.Endings.{SeenCarried}
use Rattle.jobs.specs.Jobs.{IsAskOf}
use Rattle.jobs.specs.declared.ending.Ending.TheVariants as ending
use Rattle.jobs.specs.declared.what.What.{What}
use Rattle.jobs.specs.declared.what.What.TheVariants as what
use Rattle.kept_jobs.specs.Tags.{present}
use Rattle.run_promise.specs.Schedule.{Gained, IsTaskAsk, Known}
use Rattle.job_terms.specs.Jobs.{job_of}
use Rattle.s3_model.specs.Documents.{document_of}
use Rattle.s3_model.specs.Lists.{Reserved}
use Rattle.s3_model.specs.Parts.{piece_of, piece_range}
use Rattle.s3_model.specs.declared.requests.Ask.{Ask}
use Rattle.s3_model.specs.declared.requests.Op.{Op}
use Rattle.s3_model.specs.declared.requests.Op.TheVariants as op
use Rattle.s3_model.specs.declared.settings.Config.{Config}
use Rattle.s3_model.specs.declared.settings.Limits.{Limits}
use Rattle.s3_model.specs.declared.tasks.Task.{Task}
use Rattle.task_acts.specs.Histories.{Came, History}
use Rattle.task_acts.specs.Kept.{IsHistory, etags_of, upload_of}
use Rattle.task_acts.specs.Rule.{is_ready_in}
use Rattle.task_acts.specs.Work.{IsWorkOf}
use Rattle.task_acts.specs.declared.acts.Act.TheVariants as act
use Rattle.task_acts.specs.declared.work.Work.{Work}
use Rattle.kept_jobs.specs.Steps.{IsStepOf}

-- ---- successes

-- which successes came, of which job and with which reply
abbrev pub gained_in : History → Gained
gained_in history job said = (carried : SeenCarried) × Contains history (Came carried) × (carried.job.id ≡ job)
    × (carried.ending ≡ ending.Gained said)

-- the jobs that came are those of that task
abbrev pub AreOfTask : (n : ℕ) → History → Type 0
AreOfTask n history = (carried : SeenCarried) → Contains history (Came carried) → carried.job.id.task ≡ Some n

-- ---- its body

-- the bytes of a piece of an uploaded file; the single piece of a small one is all of it
abbrev pub bytes_at : Work → (bytes : List ℕ) → (number : ℕ) → List ℕ
bytes_at w bytes number = if w.small then bytes else piece_of bytes w.piece number

-- a Put and a Part send their piece, every other request its document
abbrev pub IsBodyOf : Work → (bytes : List ℕ) → Op → (number : ℕ) → Ask → (body : List ℕ) → Type 0
IsBodyOf w bytes op.Put number asked body = body ≡ bytes_at w bytes number
IsBodyOf w bytes op.Part number asked body = body ≡ bytes_at w bytes number
IsBodyOf w bytes of_op number asked body = body ≡ document_of asked

-- ---- the law

-- what of a task its jobs depend on
abbrev pub known_of : (n : ℕ) → Work → (bytes : List ℕ) → Known
known_of n w bytes = record { number = n; bytes = bytes; piece = w.piece; count = w.count }

-- A job that is formed when its act is ready asks what the schedule says of it, by the successes that came before.
abbrev pub AsksAreOfSchedule : Type 0
AsksAreOfSchedule = (task : Task) (config : Config) (limits : Limits) (w : Work) (history : History) (n : ℕ)
    (bytes : List ℕ) (of_op : Op) (number : ℕ) (for : What) (asked : Ask) (body : List ℕ)
    → IsWorkOf task config limits w → IsHistory w history → AreOfTask n history
    → is_ready_in w history (act.Send of_op number) ≡ true → IsStepOf task w history of_op number for
    → IsAskOf (job_of n of_op number) for asked → IsBodyOf w bytes of_op number asked body
    → IsTaskAsk (gained_in history) task (known_of n w bytes) task.kind w.small of_op number asked body
