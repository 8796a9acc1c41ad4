-- The jobs of a run, as they are handed out and come back.
use Rattle.std.specs.Prelude.{◌≡◌, ◌++◌, [], ◌∷◌, ℕ, true, List, Option, Some, None, Contains, slice_get}
use Rattle.jobs.specs.Endings.{SeenCarried}
use Rattle.jobs.specs.Jobs.{IsAskOf, SeenJob}
use Rattle.jobs.specs.declared.what.What.{What}
use Rattle.manager_moves.specs.Laws.{IsRun}
use Rattle.manager_moves.specs.Runs.{Back, Event, Events, Sent, Shared, share}
use Rattle.job_terms.specs.Dispatches.{Dispatched}
use Rattle.run_promise.specs.Schedule.{Setting, limit_of, source_bytes}
use Rattle.s3_model.specs.declared.requests.Op.{Op}
use Rattle.s3_model.specs.declared.tasks.Task.{Task}
use Rattle.task_acts.specs.Histories.{History}
use Rattle.task_acts.specs.Kept.{kept_job}
use Rattle.task_acts.specs.Rule.{is_ready_in}
use Rattle.task_acts.specs.declared.acts.Act.TheVariants as act
use Rattle.task_acts.specs.declared.work.Work.{Work}
use Rattle.task_schedule.specs.Asks.{IsBodyOf}
use Rattle.kept_jobs.specs.Steps.{IsStepOf}
use Rattle.task_schedule.specs.Journals.{AreAsked, place_after}

-- which job was given behind these events
abbrev pub Jobs : Type 0
Jobs = Events → SeenJob

-- the job that was kept is handed out again, and any other is formed for its act
abbrev pub IsKeptOrFormed : Option SeenJob → Task → Work → History → Op → (number : ℕ) → SeenJob → Type 0
IsKeptOrFormed (Some kept) task w history of_op number job = job ≡ kept
IsKeptOrFormed None task w history of_op number job = IsStepOf task w history of_op number job.what

-- the job that was given behind these events is handed out so, as the history of its task says
abbrev pub IsOfHistory : Shared → List Task → Jobs → (before : Events) → (n : ℕ) → Op → (number : ℕ) → Type 0
IsOfHistory s tasks jobs before n of_op number = (task : Task) (w : Work) → slice_get tasks n ≡ Some task
    → slice_get s.works n ≡ Some w
    → IsKeptOrFormed (kept_job w (share w n before) (act.Send of_op number)) task w (share w n before) of_op number
    (jobs before)

-- and each job of the run is
abbrev pub AreHandedOut : Shared → List Task → Events → Jobs → Type 0
AreHandedOut s tasks events jobs = (later before : Events) (n number lane : ℕ) (of_op : Op)
    → events ≡ later ++ Sent n of_op number lane ∷ before → IsOfHistory s tasks jobs before n of_op number

-- that job was given, for what the one is that came back
pub record WasGiven (jobs : Jobs) (n : ℕ) (before : Events) (carried : SeenCarried) : Type 0 where
  pub since : Events
  pub first : Events
  pub lane : ℕ
  pub is : before ≡ since ++ Sent n carried.job.id.op carried.job.id.number lane ∷ first
  pub what : carried.job.what ≡ (jobs first).what

-- each job comes back for what it was given
abbrev pub ComeAsGiven : Events → Jobs → Type 0
ComeAsGiven events jobs = (later before : Events) (n lane : ℕ) (carried : SeenCarried)
    → events ≡ later ++ Back lane carried ∷ before → carried.job.id.task ≡ Some n → WasGiven jobs n before carried

-- ---- one event more

abbrev pub HandsOutItsJob : Shared → List Task → Jobs → (before : Events) → Event → Type 0
HandsOutItsJob s tasks jobs before (Sent n of_op number lane) = IsOfHistory s tasks jobs before n of_op number
HandsOutItsJob s tasks jobs before event = Unit {0}

abbrev pub ComesAsGiven : Jobs → (before : Events) → Event → Type 0
ComesAsGiven jobs before (Back lane carried) = (n : ℕ) → carried.job.id.task ≡ Some n → WasGiven jobs n before carried
ComesAsGiven jobs before event = Unit {0}

-- They are handed out and come back so from the start, and stay so with each event that does.
pub record JobsGoOn : Type 0 where
  pub none : (s : Shared) (tasks : List Task) (jobs : Jobs) → AreHandedOut s tasks [] jobs × ComeAsGiven [] jobs
  pub handed : (s : Shared) (tasks : List Task) (jobs : Jobs) (before : Events) (event : Event)
      → AreHandedOut s tasks before jobs → HandsOutItsJob s tasks jobs before event
      → AreHandedOut s tasks (event ∷ before) jobs
  pub come : (jobs : Jobs) (before : Events) (event : Event) → ComeAsGiven before jobs
      → ComesAsGiven jobs before event → ComeAsGiven (event ∷ before) jobs

-- ---- how they were formed

-- What a job is for that was given behind these events was formed when its act was ready, there or at its first giving.
pub record WasFormed (task : Task) (w : Work) (n : ℕ) (before : Events) (of_op : Op) (number : ℕ) (for : What)
    : Type 0 where
  pub since : Events
  pub first : Events
  pub is : before ≡ since ++ first
  pub ready : is_ready_in w (share w n first) (act.Send of_op number) ≡ true
  pub step : IsStepOf task w (share w n first) of_op number for

abbrev pub JobsAreFormed : Type 0
JobsAreFormed = (s : Shared) (tasks : List Task) (events : Events) (jobs : Jobs) → IsRun s events
    → AreHandedOut s tasks events jobs → ComeAsGiven events jobs → (later before : Events) (n number lane : ℕ)
    (of_op : Op) (task : Task) (w : Work) → events ≡ later ++ Sent n of_op number lane ∷ before
    → slice_get tasks n ≡ Some task → slice_get s.works n ≡ Some w
    → WasFormed task w n before of_op number (jobs before).what

-- ---- what is asked

-- what a dispatch asks is what its job asks, with the bytes and the limit of its piece
pub record IsAskedBy (setting : Setting) (task : Task) (w : Work) (job : SeenJob) (c : Dispatched) : Type 0 where
  pub asks : IsAskOf c.dispatch.job job.what c.ask
  pub body : IsBodyOf w (source_bytes setting.held task.source) c.dispatch.job.op c.dispatch.job.number c.ask c.body
  pub size : c.size ≡ task.size
  pub limit : c.limit ≡ limit_of task.size w.piece c.dispatch.job.number c.ask

abbrev pub AreAskedBy : Shared → Setting → (planned : ℕ) → Events → Jobs → List Dispatched → Type 0
AreAskedBy s setting planned events jobs dispatched =
    (c : Dispatched) (n lane : ℕ) (task : Task) (w : Work) (later before : Events) → Contains dispatched c
    → slice_get setting.tasks n ≡ Some task → slice_get s.works n ≡ Some w
    → events ≡ later ++ Sent n c.dispatch.job.op c.dispatch.job.number lane ∷ before
    → c.dispatch.given_at ≡ place_after planned before → IsAskedBy setting task w (jobs before) c

-- So each dispatch asks what was formed when its act was ready, as it was given or at its first giving.
abbrev pub JobsAreAsked : Type 0
JobsAreAsked = (s : Shared) (setting : Setting) (planned : ℕ) (events : Events) (jobs : Jobs)
    (dispatched : List Dispatched) → IsRun s events → AreHandedOut s setting.tasks events jobs
    → ComeAsGiven events jobs → AreAskedBy s setting planned events jobs dispatched
    → AreAsked s setting planned events dispatched
