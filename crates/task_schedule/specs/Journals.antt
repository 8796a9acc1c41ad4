-- How the dispatches of a run show what happened in it, and what the schedule says of the jobs of its tasks.
use Rattle.std.specs.Prelude.{◌≡◌, ◌≢◌, ◌+◌, ◌<◌, ◌≤◌, ◌++◌, ◌⊎◌, ◌∷◌, ◌&&◌, ◌||◌, [], ℕ, Bool, true, false, List}
use Rattle.std.specs.Prelude.{AllPairs, Contains, IsPermutation, IsSome, None, Some, is_some, length, map, not}
use Rattle.std.specs.Prelude.{slice_get}
use Rattle.jobs.specs.Endings.{SeenCarried}
use Rattle.jobs.specs.Jobs.{IsAskOf}
use Rattle.jobs.specs.declared.ending.Ending.{Ending}
use Rattle.jobs.specs.declared.ending.Ending.TheVariants as ending
use Rattle.jobs.specs.declared.what.What.{What}
use Rattle.manager_moves.specs.Laws.{IsRun}
use Rattle.manager_moves.specs.Runs.{Back, Events, Sent, Shared, Stopped, journal_of, share}
use Rattle.run_promise.specs.Dispatches.{IsSuccessLast}
use Rattle.job_terms.specs.Dispatches.{Attempt, Dispatched, last_of}
use Rattle.run_promise.specs.Schedule.{IsBefore, IsBeforeAny, IsDecided, IsFailed, IsTaskAsk, IsUpload, Setting}
use Rattle.run_promise.specs.Schedule.{gained_before, is_small, limit_of, source_bytes}
use Rattle.job_terms.specs.Jobs.{job_of}
use Rattle.s3_model.specs.Parts.{HasPieces}
use Rattle.s3_model.specs.Replies.{IsSameClass}
use Rattle.s3_model.specs.Talks.{Talk}
use Rattle.s3_model.specs.declared.answers.Class.{Class}
use Rattle.s3_model.specs.declared.answers.Class.TheVariants as class
use Rattle.s3_model.specs.declared.answers.Reply.TheVariants as reply
use Rattle.s3_model.specs.declared.answers.Why.TheVariants as why
use Rattle.s3_model.specs.declared.outcomes.Cause.{Cause}
use Rattle.s3_model.specs.declared.outcomes.JobId.{JobId}
use Rattle.s3_model.specs.declared.outcomes.Outcome.TheVariants as outcome
use Rattle.s3_model.specs.declared.outcomes.Reason.{Reason}
use Rattle.s3_model.specs.declared.requests.Ask.{Ask}
use Rattle.s3_model.specs.declared.requests.Op.{Op}
use Rattle.s3_model.specs.declared.requests.Op.TheVariants as op
use Rattle.s3_model.specs.declared.tasks.Kind.TheVariants as kind
use Rattle.s3_model.specs.declared.tasks.Task.{Task}
use Rattle.task_acts.specs.Ends.{outcome_of}
use Rattle.task_acts.specs.Failures.{carried_cause, file_cause, first_failure, is_cut_short, is_memory}
use Rattle.task_acts.specs.Histories.{Came, Cancelled, Gave, Happening, History, Returned, Taken}
use Rattle.task_acts.specs.Rule.{is_ready_in}
use Rattle.task_acts.specs.Work.{IsWorkOf}
use Rattle.task_acts.specs.declared.acts.Act.TheVariants as act
use Rattle.task_acts.specs.declared.work.Work.{Work}
use Rattle.task_progress.specs.Progress.{HasPiece}
use Rattle.task_schedule.specs.Asks.{IsBodyOf}
use Rattle.kept_jobs.specs.Steps.{IsStepOf}

-- ---- the journal

-- where the journal has the next event, behind those of the planning and those of the run so far
abbrev pub place_after : (planned : ℕ) → Events → ℕ
place_after planned before = planned + length (journal_of before)

-- the job did not come back
abbrev pub NoneBack : Events → JobId → Type 0
NoneBack events job = (lane : ℕ) (carried : SeenCarried) → Contains events (Back lane carried) → carried.job.id ≢ job

-- ---- tasks

-- there is one work for each task, that of the task with its number; a removal moves nothing
pub record AreWorks (setting : Setting) (works : List Work) : Type 0 where
  pub as_many : length works ≡ length setting.tasks
  pub each : (n : ℕ) (w : Work) → slice_get works n ≡ Some w → (task : Task) × (slice_get setting.tasks n ≡ Some task)
      × IsWorkOf task setting.config setting.limits w × HasPiece w
      × (task.kind ≡ kind.RemoveObject → task.moves ≡ false)

-- ---- requests

-- what a dispatch asks was formed when its act was ready, as it was given or at its first giving
pub record IsAsked (setting : Setting) (n : ℕ) (task : Task) (w : Work) (before : Events) (c : Dispatched)
    : Type 0 where
  pub since : Events
  pub then : Events
  pub is : before ≡ since ++ then
  pub ready : is_ready_in w (share w n then) (act.Send c.dispatch.job.op c.dispatch.job.number) ≡ true
  pub for : What
  pub step : IsStepOf task w (share w n then) c.dispatch.job.op c.dispatch.job.number for
  pub asks : IsAskOf c.dispatch.job for c.ask
  pub body : IsBodyOf w (source_bytes setting.held task.source) c.dispatch.job.op c.dispatch.job.number c.ask c.body
  pub size : c.size ≡ task.size
  pub limit : c.limit ≡ limit_of task.size w.piece c.dispatch.job.number c.ask

-- each dispatch asks so
abbrev pub AreAsked : Shared → Setting → (planned : ℕ) → Events → List Dispatched → Type 0
AreAsked s setting planned events dispatched =
    (c : Dispatched) (n lane : ℕ) (task : Task) (w : Work) (later before : Events) → Contains dispatched c
    → slice_get setting.tasks n ≡ Some task → slice_get s.works n ≡ Some w
    → events ≡ later ++ Sent n c.dispatch.job.op c.dispatch.job.number lane ∷ before
    → c.dispatch.given_at ≡ place_after planned before → IsAsked setting n task w before c

-- they stand in the order of their coming
abbrev pub ComeInOrder : List Dispatched → Type 0
ComeInOrder coming = AllPairs (λ (a b : Dispatched). IsBeforeAny a.dispatch.came_at b.dispatch.came_at) coming

-- ---- what stops a task

-- the setting tells whether the run was cancelled, and at which place
abbrev pub TellsCancels : Setting → Events → Type 0
TellsCancels setting events = (reason : Reason) → Contains events (Stopped reason) → IsSome setting.cancelled_at

-- the run was cancelled behind these events, for the first time
pub record IsFirstCancel (events before : Events) : Type 0 where
  pub later : Events
  pub reason : Reason
  pub is : events ≡ later ++ Stopped reason ∷ before
  pub none : (other : Reason) → ¬ (Contains before (Stopped other))

abbrev pub TellsWhere : Setting → (planned : ℕ) → Events → Type 0
TellsWhere setting planned events = (place : ℕ) → setting.cancelled_at ≡ Some place
    → (before : Events) × IsFirstCancel events before × (place ≡ place_after planned before)

-- a call on files failed, or memory ran out
abbrev pub is_otherwise : Work → Happening → Bool
is_otherwise w (Came carried) = not (is_cut_short w carried) && is_memory (carried_cause w carried)
is_otherwise w (Returned called result) = is_some (file_cause called result)
is_otherwise w (Gave given) = false
is_otherwise w (Cancelled reason) = false
is_otherwise w (Taken of_op number) = false

-- the first failure of the task is such a one
abbrev pub fails_otherwise : Work → History → Bool
fails_otherwise w [] = false
fails_otherwise w (event ∷ before) =
    fails_otherwise w before || (not (is_some (first_failure w before)) && is_otherwise w event)

-- the setting tells which failed tasks failed first so
abbrev pub TellsFailures : Shared → Setting → Events → Type 0
TellsFailures s setting events = (n : ℕ) (w : Work) (why : Cause) → slice_get s.works n ≡ Some w
    → outcome_of w (share w n events) ≡ Some (outcome.Failed why) → fails_otherwise w (share w n events) ≡ true
    → setting.file_failed n ≡ true

-- `Shows ask limit talk class bytes`: the talk has that class for the ask, and its answer that body
module _ (Shows : Ask → ℕ → Talk → Class → List ℕ → Type 0) where
  -- a talk shows one class
  abbrev pub ShowOne : Type 0
  ShowOne = (asked : Ask) (limit : ℕ) (talk : Talk) (one same : Class) (bytes body : List ℕ)
      → Shows asked limit talk one bytes → Shows asked limit talk same body → IsSameClass one same

  -- the last talk of the dispatch shows that class
  pub record ShowsLast (c : Dispatched) (of_class : Class) : Type 0 where
    pub attempt : Attempt
    pub last : last_of c.dispatch.attempts ≡ Some attempt
    pub bytes : List ℕ
    pub shows : Shows c.ask c.limit attempt.talk of_class bytes

  -- the ending of a job is what its last talk shows; want of memory and a cell's reason need none
  abbrev pub EndsAs : Dispatched → Ending → Type 0
  EndsAs c (ending.Gained said) = ShowsLast c (class.Success said)
  EndsAs c (ending.Refused status code message) = ShowsLast c (class.Refusal code message)
  EndsAs c (ending.Uncertain why.Memory) = Unit {0}
  EndsAs c (ending.Uncertain reason) = ShowsLast c (class.Uncertain reason)
  EndsAs c (ending.Cancelled reason) = Unit {0}
  EndsAs c ending.Memory = Unit {0}

  -- what came back has the marks of the dispatch, and ended as it shows
  pub record IsOf (c : Dispatched) (carried : SeenCarried) : Type 0 where
    pub marks : map (λ (attempt : Attempt). attempt.mark) c.dispatch.attempts ≡ carried.tries
    pub ends : EndsAs c carried.ending

  -- ---- the jobs that were sent

  -- It came back since it was sent, for the first time there.
  pub record IsBack (planned : ℕ) (later before : Events) (c : Dispatched) : Type 0 where
    pub newer : Events
    pub between : Events
    pub lane : ℕ
    pub carried : SeenCarried
    pub is : later ≡ newer ++ Back lane carried ∷ between
    pub of_job : carried.job.id ≡ c.dispatch.job
    pub first : NoneBack between c.dispatch.job
    pub came_at : c.dispatch.came_at ≡ Some (place_after planned (between ++ before))
    pub brings : IsOf c carried

  -- the job was not sent before
  pub record IsFirst (n : ℕ) (before : Events) (c : Dispatched) : Type 0 where
    pub not_second : c.dispatch.is_second ≡ false
    pub none_earlier : c.dispatch.earlier ≡ 0
    pub none : (lane : ℕ) → ¬ (Contains before (Sent n c.dispatch.job.op c.dispatch.job.number lane))

  -- it was
  pub record IsSecond (n : ℕ) (before : Events) (c : Dispatched) : Type 0 where
    pub second : c.dispatch.is_second ≡ true
    pub lane : ℕ
    pub known : Contains before (Sent n c.dispatch.job.op c.dispatch.job.number lane)

  -- It was sent for that task, and came back or did not.
  pub record IsSent (planned : ℕ) (events : Events) (n : ℕ) (c : Dispatched) : Type 0 where
    pub later : Events
    pub before : Events
    pub lane : ℕ
    pub is : events ≡ later ++ Sent n c.dispatch.job.op c.dispatch.job.number lane ∷ before
    pub of_task : c.dispatch.job.task ≡ Some n
    pub given_at : c.dispatch.given_at ≡ place_after planned before
    pub giving : IsFirst n before c ⊎ IsSecond n before c
    pub comes : ((c.dispatch.came_at ≡ None) × NoneBack later c.dispatch.job)
        ⊎ IsBack planned later (Sent n c.dispatch.job.op c.dispatch.job.number lane ∷ before) c

  -- The dispatches of tasks are the jobs that were sent, in order; what comes back is one of them.
  pub record AreSent (planned : ℕ) (events : Events) (dispatched : List Dispatched) : Type 0 where
    pub sent : (c : Dispatched) (n : ℕ) → Contains dispatched c → c.dispatch.job.task ≡ Some n
        → IsSent planned events n c
    pub each_sent : (later before : Events) (n number lane : ℕ) (of_op : Op)
        → events ≡ later ++ Sent n of_op number lane ∷ before
        → (c : Dispatched) × Contains dispatched c × (c.dispatch.job ≡ job_of n of_op number)
        × (c.dispatch.given_at ≡ place_after planned before)
    pub each_back : (later before : Events) (lane : ℕ) (carried : SeenCarried)
        → events ≡ later ++ Back lane carried ∷ before
        → (c : Dispatched) × Contains dispatched c × (c.dispatch.job ≡ carried.job.id)
        × (c.dispatch.came_at ≡ Some (place_after planned before))
    pub in_order : AllPairs (λ (a b : Dispatched). a.dispatch.given_at < b.dispatch.given_at) dispatched

  -- ---- a run

  -- A run to its end, its dispatches as they were given and as they came, and what its setting tells of it.
  pub record IsRunOf (s : Shared) (setting : Setting) (planned : ℕ) (events : Events)
      (dispatched coming : List Dispatched) : Type 0 where
    pub run : IsRun s events
    pub works : AreWorks setting s.works
    pub sent : AreSent planned events dispatched
    pub asked : AreAsked s setting planned events dispatched
    -- each task of which a job was given has its outcome
    pub ended : (n number lane : ℕ) (w : Work) (of_op : Op) → slice_get s.works n ≡ Some w
        → Contains events (Sent n of_op number lane) → IsSome (outcome_of w (share w n events))
    pub is_coming : IsPermutation dispatched coming
    pub in_order : ComeInOrder coming
    pub cancelled : TellsCancels setting events
    pub cancelled_at : TellsWhere setting planned events
    pub files : TellsFailures s setting events

  -- The clauses of the schedule on the jobs of tasks.
  pub record KeepsSchedule (setting : Setting) (dispatched coming : List Dispatched) : Type 0 where
    pub asks : (c : Dispatched) (n : ℕ) → Contains dispatched c → c.dispatch.job.task ≡ Some n
        → (task : Task) × (piece : ℕ) × (count : ℕ) × (slice_get setting.tasks n ≡ Some task)
        × HasPieces setting.config setting.limits task.kind task.size piece count × (c.size ≡ task.size)
        × (c.limit ≡ limit_of task.size piece c.dispatch.job.number c.ask)
        × IsTaskAsk (gained_before Shows dispatched c.dispatch.given_at) task
        (record { number = n; bytes = source_bytes setting.held task.source; piece = piece; count = count })
        task.kind (is_small setting task) c.dispatch.job.op c.dispatch.job.number c.ask c.body
    pub twice : AllPairs (λ (a b : Dispatched). IsSome a.dispatch.job.task → a.dispatch.job ≡ b.dispatch.job
        → IsBefore a.dispatch.came_at b.dispatch.given_at × ¬ (IsSuccessLast (last_of a.dispatch.attempts))
        × IsBeforeAny (Some b.dispatch.given_at) setting.cancelled_at
        × ((failed : Dispatched) → IsFailed Shows setting coming failed
        → failed.dispatch.job.task ≡ a.dispatch.job.task
        → IsBeforeAny a.dispatch.came_at failed.dispatch.came_at)
        × (a.dispatch.job.op ≢ op.Abort)) dispatched
    pub no_third : (a b c : Dispatched) (i j k : ℕ) → i < j → j < k → slice_get dispatched i ≡ Some a
        → slice_get dispatched j ≡ Some b → slice_get dispatched k ≡ Some c → IsSome a.dispatch.job.task
        → a.dispatch.job ≡ b.dispatch.job → b.dispatch.job ≡ c.dispatch.job → ⊥
    pub stops : (failed c : Dispatched) → IsFailed Shows setting coming failed → IsSome failed.dispatch.job.task
        → Contains dispatched c → c.dispatch.job.task ≡ failed.dispatch.job.task
        → IsBefore failed.dispatch.came_at c.dispatch.given_at → c.dispatch.job.op ≡ op.Abort
    -- after a cancel no job of a task is given but Abort
    pub cancels : (c : Dispatched) (n place : ℕ) → Contains dispatched c → c.dispatch.job.task ≡ Some n
        → setting.cancelled_at ≡ Some place → place ≤ c.dispatch.given_at → c.dispatch.job.op ≡ op.Abort
    pub abort_last : (a c : Dispatched) → Contains dispatched a → Contains dispatched c
        → IsSome a.dispatch.job.task → a.dispatch.job.op ≡ op.Abort
        → c.dispatch.job.task ≡ a.dispatch.job.task → c.dispatch.job.op ≢ op.Abort
        → IsBefore c.dispatch.came_at a.dispatch.given_at
    pub aborts : (n : ℕ) (id : List ℕ) (end : ℕ) → IsUpload (gained_before Shows dispatched end) n id
        → ((c : Dispatched) → Contains dispatched c → IsBefore c.dispatch.came_at end)
        → gained_before Shows dispatched end (job_of n op.Complete 0) reply.Completed
        ⊎ ((a : Dispatched) × Contains dispatched a × (a.dispatch.job ≡ job_of n op.Abort 0))
    pub completed_stays : (n : ℕ) (end : ℕ) (a : Dispatched) → Contains dispatched a
        → a.dispatch.job ≡ job_of n op.Abort 0
        → ¬ (gained_before Shows dispatched end (job_of n op.Complete 0) reply.Completed)
    pub moves_last : (c : Dispatched) (n : ℕ) (task : Task) → Contains dispatched c → c.dispatch.job.task ≡ Some n
        → slice_get setting.tasks n ≡ Some task → task.moves ≡ true → c.dispatch.job.op ≡ op.Delete
        → IsDecided setting task n (gained_before Shows dispatched c.dispatch.given_at)

  -- The shares of a run's tasks keep to the schedule, so that a run of many tasks does.
  abbrev pub SharesKeepSchedule : Type 0
  SharesKeepSchedule = (s : Shared) (setting : Setting) (planned : ℕ) (events : Events)
      (dispatched coming : List Dispatched) → ShowOne → IsRunOf s setting planned events dispatched coming
      → KeepsSchedule setting dispatched coming
