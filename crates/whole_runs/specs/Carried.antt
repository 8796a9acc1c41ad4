-- What dispatches ask of jobs that lanes carried.
use Rattle.std.specs.Prelude.{◌≡◌, ◌++◌, ◌∷◌, ℕ, List, Option, Some, Contains, slice_get, unwrap_or}
use Rattle.attempts.specs.Payloads.{body_of}
use Rattle.job_terms.specs.Dispatches.{Dispatched}
use Rattle.jobs.specs.Endings.{SeenCarried}
use Rattle.jobs.specs.Jobs.{SeenJob, bytes_of, range_of}
use Rattle.lane_jobs.specs.Lanes.{IsCarriedBy, SeenCarrier, limit_of}
use Rattle.manager_moves.specs.Laws.{IsRun}
use Rattle.manager_moves.specs.Runs.{Events, Sent, Shared}
use Rattle.run_promise.specs.Schedule.{Setting, most_body, source_bytes}
use Rattle.s3_model.specs.Talks.{WireLog}
use Rattle.s3_model.specs.declared.requests.Ask.{Ask}
use Rattle.s3_model.specs.declared.requests.Op.{Op}
use Rattle.s3_model.specs.declared.requests.Op.TheVariants as op
use Rattle.s3_model.specs.declared.tasks.Task.{Task}
use Rattle.task_acts.specs.Work.{IsWorkOf}
use Rattle.task_acts.specs.declared.work.Work.{Work}
use Rattle.task_schedule.specs.Asks.{bytes_at}
use Rattle.task_schedule.specs.Journals.{AreWorks, place_after}
use Rattle.whole_runs.specs.Given.{AreAskedBy, AreHandedOut, ComeAsGiven, IsAskedBy, Jobs, WasFormed}

-- a Put and a Part are sent with the bytes of their piece
abbrev pub SendsItsPiece : Work → (bytes : List ℕ) → Op → (number : ℕ) → (sent : List ℕ) → Type 0
SendsItsPiece w bytes op.Put number sent = sent ≡ bytes_at w bytes number
SendsItsPiece w bytes op.Part number sent = sent ≡ bytes_at w bytes number
SendsItsPiece w bytes of_op number sent = Unit {0}

-- the dispatch is of that job, and has the request that a lane makes of it with this ask
pub record IsDispatchOf (job : SeenJob) (asked : Ask) (c : Dispatched) : Type 0 where
  pub id : c.dispatch.job ≡ job.id
  pub ask_is : c.ask ≡ asked
  pub body : c.body ≡ body_of asked (bytes_of job.part)
  pub limit : c.limit ≡ unwrap_or (limit_of asked (range_of job.what).1) most_body

-- A lane carried the job, whose part had the bytes of its piece if it sends any, and the dispatch tells of that.
pub record WasCarried (setting : Setting) (task : Task) (w : Work) (job : SeenJob) (c : Dispatched) : Type 0 where
  pub carrier : SeenCarrier
  pub before : Option WireLog
  pub after : Option WireLog
  pub carried : SeenCarried
  pub by : IsCarriedBy carrier job before after carried
  pub sends : SendsItsPiece w (source_bytes setting.held task.source) job.id.op job.id.number (bytes_of job.part)
  pub of_job : IsDispatchOf job by.asked c
  pub size : c.size ≡ task.size

-- Where the job was formed when its act was ready, the dispatch asks what its task says.
abbrev pub CarriedJobsAreAsked : Type 0
CarriedJobsAreAsked = (setting : Setting) (task : Task) (w : Work) (n : ℕ) (past : Events) (job : SeenJob)
    (c : Dispatched) → IsWorkOf task setting.config setting.limits w
    → WasFormed task w n past job.id.op job.id.number job.what → WasCarried setting task w job c
    → IsAskedBy setting task w job c

-- each job that was given was carried so
abbrev pub AreCarried : Shared → Setting → (planned : ℕ) → Events → Jobs → List Dispatched → Type 0
AreCarried s setting planned events jobs dispatched =
    (c : Dispatched) (n lane : ℕ) (task : Task) (w : Work) (later before : Events) → Contains dispatched c
    → slice_get setting.tasks n ≡ Some task → slice_get s.works n ≡ Some w
    → events ≡ later ++ Sent n c.dispatch.job.op c.dispatch.job.number lane ∷ before
    → c.dispatch.given_at ≡ place_after planned before → WasCarried setting task w (jobs before) c

-- So in a run whose jobs are handed out and come back as its tasks say, all dispatches do.
abbrev pub CarriedRunsAreAsked : Type 0
CarriedRunsAreAsked = (s : Shared) (setting : Setting) (planned : ℕ) (events : Events) (jobs : Jobs)
    (dispatched : List Dispatched) → IsRun s events → AreWorks setting s.works
    → AreHandedOut s setting.tasks events jobs → ComeAsGiven events jobs
    → AreCarried s setting planned events jobs dispatched → AreAskedBy s setting planned events jobs dispatched
