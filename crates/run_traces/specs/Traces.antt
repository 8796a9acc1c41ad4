-- What a conductor did in a run: one list, and what is read off it.
use Rattle.std.specs.Option.{option_map}
use Rattle.std.specs.Prelude.{◌≡◌, ◌≢◌, ◌+◌, ◌<◌, ◌++◌, ◌==◌, [], ◌∷◌, ℕ, List, Option, Some, drop, filter}
use Rattle.std.specs.Prelude.{Bool, filter_map, is_some, length, slice_get, if◌then◌else◌}
use Rattle.bounded_executor.specs.Exchange.{Exchange, unused, with_given, with_taken}
use Rattle.job_terms.specs.Jobs.{is_job}
use Rattle.jobs.specs.Endings.{SeenCarried}
use Rattle.jobs.specs.Jobs.{SeenJob}
use Rattle.local_files.specs.Calls.{CallStep}
use Rattle.manager_moves.specs.Runs as run
use Rattle.manager_moves.specs.Runs.{Event, Events}
use Rattle.s3_model.specs.declared.outcomes.Event.{Event as Entry}
use Rattle.s3_model.specs.declared.outcomes.Event.TheVariants as entry
use Rattle.s3_model.specs.declared.outcomes.JobId.{JobId}
use Rattle.s3_model.specs.declared.outcomes.Reason.{Reason}
use Rattle.s3_outside.specs.declared.files.FileNote.{FileNote}
use Rattle.task_acts.specs.declared.acts.Act.{Act}
use Rattle.task_acts.specs.declared.acts.FileCame.{FileCame}

-- one thing that the conductor did
pub data RunStep : Type 0 where
  -- a job went to a lane, of a task or of the planning, which is of no task
  Gave : (lane : ℕ) → (job : SeenJob) → RunStep
  -- a lane brought a job back
  Took : (lane : ℕ) → (carried : SeenCarried) → RunStep
  -- a call on files was made for a task: what it changed, and what was noted of it
  Called : (task : ℕ) → (called : Act) → (result : FileCame) → (steps : List CallStep) → (notes : List FileNote)
      → RunStep
  -- the state of the next task was made, or memory ran out for it
  Made : (fits : Bool) → RunStep
  -- the line of the next task was due
  Lined : RunStep
  -- the run was cancelled
  Stopped : (reason : Reason) → RunStep

-- the newest first
abbrev pub RunTrace : Type 0
RunTrace = List RunStep

-- ---- events and the journal

-- what the step is to the tasks; jobs of the planning are nothing to them
abbrev pub event_of : RunStep → Option Event
event_of (Gave lane job) = option_map (λ (task : ℕ). run.Sent task job.id.op job.id.number lane) job.id.task
event_of (Took lane carried) = option_map (λ (task : ℕ). run.Back lane carried) carried.job.id.task
event_of (Called task called result steps notes) = Some (run.Called task called result)
event_of (Made fits) = Some (run.Made fits)
event_of Lined = Some run.Lined
event_of (Stopped reason) = Some (run.Stopped reason)

abbrev pub events_of : RunTrace → Events
events_of trace = filter_map event_of trace

-- all jobs that were given and came, the oldest first
abbrev pub journal_of : RunTrace → List Entry
journal_of [] = []
journal_of (Gave lane job ∷ before) = journal_of before ++ entry.Given job.id lane ∷ []
journal_of (Took lane carried ∷ before) = journal_of before ++ entry.Came carried.job.id lane carried.tries ∷ []
journal_of (step ∷ before) = journal_of before

-- ---- lanes

-- what went between the conductor and a lane
abbrev pub exchange_of : ℕ → RunTrace → Exchange SeenJob SeenCarried
exchange_of lane [] = unused
exchange_of lane (Gave to job ∷ before) =
    if to == lane then with_given (exchange_of lane before) job else exchange_of lane before
exchange_of lane (Took from carried ∷ before) =
    if from == lane then with_taken (exchange_of lane before) carried else exchange_of lane before
exchange_of lane (step ∷ before) = exchange_of lane before

-- the jobs of a lane that are pending, the oldest first
abbrev pub pending_in : ℕ → RunTrace → List SeenJob
pending_in lane trace = drop (length (exchange_of lane trace).taken) (exchange_of lane trace).given

-- and those of them that are of tasks
abbrev pub pending_of_tasks : ℕ → RunTrace → List SeenJob
pending_of_tasks lane trace = filter (λ (job : SeenJob). is_some job.id.task) (pending_in lane trace)

-- how many attempts the completions of a job tell of
abbrev pub tries_of : JobId → RunTrace → ℕ
tries_of id [] = 0
tries_of id (Took lane carried ∷ before) =
    if is_job carried.job.id id then tries_of id before + length carried.tries else tries_of id before
tries_of id (step ∷ before) = tries_of id before

-- ---- what is known of a step as it is made

abbrev pub IsNotPending : JobId → RunTrace → Type 0
IsNotPending id trace =
    (lane place : ℕ) (job : SeenJob) → slice_get (pending_in lane trace) place ≡ Some job → job.id ≢ id

-- A job is given while none of its name is pending, and knows how many attempts were made of it. Only of a lane with a
-- pending job an outcome is taken, whatever it is.
abbrev pub MayFollow : RunTrace → RunStep → Type 0
MayFollow before (Gave lane job) = IsNotPending job.id before × (job.had ≡ tries_of job.id before)
MayFollow before (Took lane carried) = 0 < length (pending_in lane before)
MayFollow before step = Unit {0}

abbrev pub IsRunTrace : RunTrace → Type 0
IsRunTrace [] = Unit {0}
IsRunTrace (step ∷ before) = MayFollow before step × IsRunTrace before
