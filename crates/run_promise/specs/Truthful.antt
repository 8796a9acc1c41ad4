-- Truthful outcomes: what a run of `cp`, `mv`, `rm` and `sync` promises over every honest service.
use Rattle.std.specs.Prelude.{◌≡◌, ◌++◌, ◌⊎◌, ℕ, Bool, true, false, List, [], ◌∷◌, Option, Some, None, length, map}
use Rattle.std.specs.Prelude.{slice_get, Contains, IsNone}
use Rattle.std.specs.FinMap.{get}
use Rattle.s3_model.specs.declared.requests.Ask.{Ask}
use Rattle.s3_model.specs.declared.requests.Op.TheVariants as op
use Rattle.s3_model.specs.declared.tasks.Kind.{Kind}
use Rattle.s3_model.specs.declared.tasks.Kind.TheVariants as kind
use Rattle.s3_model.specs.declared.requests.Ask.TheVariants as ask
use Rattle.s3_model.specs.declared.answers.Reply.TheVariants as reply
use Rattle.s3_model.specs.declared.outcomes.Event.{Event}
use Rattle.s3_model.specs.declared.answers.Class.{Class}
use Rattle.s3_model.specs.declared.answers.Class.TheVariants as class
use Rattle.s3_model.specs.declared.answers.Why.{Why}
use Rattle.s3_model.specs.declared.outcomes.Outcome.{Outcome}
use Rattle.s3_model.specs.declared.outcomes.Outcome.TheVariants as outcome
use Rattle.s3_model.specs.declared.places.Place.TheVariants as place
use Rattle.s3_model.specs.declared.outcomes.Cause.{Cause}
use Rattle.s3_model.specs.declared.outcomes.Cause.TheVariants as cause
use Rattle.s3_model.specs.declared.tasks.Task.{Task}
use Rattle.s3_model.specs.Talks.{Talk, Note}
use Rattle.s3_model.specs.Maps.{MapOf}
use Rattle.s3_service.specs.ServiceState.{State, Object, object_at, HasBucket}
use Rattle.s3_model.specs.Files.{HeldFile}
use Rattle.s3_service.specs.Serves.{Replied, ExternalWrite, Writes, Removes}
use Rattle.job_terms.specs.Dispatches.{Attempt, Dispatched}
use Rattle.run_promise.specs.Traces.{Step, SentRequest, Begin, Serve, External, IsWilling, events_of, state_after}
use Rattle.run_promise.specs.Runs.{Run, moments, HasEndedBy, IsFitting}
use Rattle.local_files.specs.Calls.{Call}
use Rattle.run_promise.specs.Endings.{Excused, Scene, IsEnded, IsLeftover, IsNew, IsThereIn}
use Rattle.run_promise.specs.FileCalls.{AreCalls, FileRun, IsMoveOf, IsRemoved, TaskCall, files_after}
use Rattle.run_promise.specs.FileOutcomes.{HasFailedAct, IsByFiles, IsDestChanged, IsMoveShown, IsShownByCalls}
use Rattle.run_promise.specs.Schedule.{Setting, IsSchedule}
use Rattle.run_promise.specs.Outcomes.{HasOutcome}
use Rattle.job_terms.specs.Buffers.{KeepsBuffers}
use Rattle.run_promise.specs.Carried.{IsCarried}

-- What a run shows: its status, the plan with its outcomes, the journal, what each wire's log and notes gained, the
-- files before and after, and what warnings except.
pub record Shown : Type 0 where
  pub setting : Setting
  pub status : ℕ
  pub outcomes : List Outcome
  pub journal : List Event
  pub logs : ℕ → List Talk
  pub notes : ℕ → List Note
  pub held_after : MapOf HeldFile
  pub excused : Excused
  -- the calls that changed files, in order, as the files tell them
  pub file_calls : List Call
  -- the number of the planning job whose page was refused by its content, if one was
  pub refused_page : Option ℕ

-- ---- the places that a run is to change

abbrev pub IsDest : List Task → List ℕ → List ℕ → Type 0
IsDest tasks bucket key = (task : Task) × Contains tasks task × (task.dest ≡ place.Object bucket key)

abbrev pub IsMovedSource : List Task → List ℕ → List ℕ → Type 0
IsMovedSource tasks bucket key =
    (task : Task) × Contains tasks task × (task.moves ≡ true) × (task.source ≡ Some (place.Object bucket key))

abbrev pub IsExternal : List Step → List ℕ → List ℕ → Type 0
IsExternal trace bucket key =
    ((object : Object) × Contains (events_of trace) (External (Writes bucket key object)))
    ⊎ Contains (events_of trace) (External (Removes bucket key))

abbrev pub IsTouchedFile : List Task → List ℕ → Type 0
IsTouchedFile tasks path =
    (task : Task) × Contains tasks task
    × ((task.dest ≡ place.File path) ⊎ (task.moves ≡ true) × (task.source ≡ Some (place.File path)))

-- ---- what is promised of a run, once all of its journal has happened

-- how things were when the run began, and how they are after a beginning of its trace
abbrev pub shown_before : Shown → State → Scene
shown_before shown state = record { state = state; held = shown.setting.held; others = shown.setting.others }

abbrev pub shown_after : Shown → State → Scene
shown_after shown state = record { state = state; held = shown.held_after; others = shown.setting.others }

-- each task is as its outcome says
abbrev pub AllEnded : Shown → Run → List Step → Type 0
AllEnded shown run part = (n : ℕ) (task : Task) (how : Outcome) → slice_get shown.setting.tasks n ≡ Some task
    → slice_get shown.outcomes n ≡ Some how
    → IsEnded shown.excused run (shown_before shown run.start) (shown_after shown (state_after run.start part))
    n task how

-- the object is as it was at the start
abbrev pub IsOldAfter : Run → List Step → List ℕ → List ℕ → Type 0
IsOldAfter run part bucket key = object_at (state_after run.start part) bucket key ≡ object_at run.start bucket key

-- where memory ran out before a job of a task was given, there are no outcomes, and no object is changed
abbrev pub NoneChanged : Shown → Run → List Step → Type 0
NoneChanged shown run part =
    (bucket key : List ℕ) → shown.outcomes ≡ [] → IsExternal run.trace bucket key ⊎ IsOldAfter run part bucket key

-- no other object and no other file is changed
abbrev pub OthersStay : Shown → Run → List Step → Type 0
OthersStay shown run part = (bucket key : List ℕ)
    → IsDest shown.setting.tasks bucket key ⊎ IsMovedSource shown.setting.tasks bucket key
    ⊎ IsExternal run.trace bucket key ⊎ IsOldAfter run part bucket key

abbrev pub OtherFilesStay : Shown → Type 0
OtherFilesStay shown =
    (path : List ℕ) → IsTouchedFile shown.setting.tasks path ⊎ IsLeftover shown.excused shown.setting.held path
    ⊎ (get shown.held_after path ≡ get shown.setting.held path)

-- what a run shows, with its dispatched requests and its calls
abbrev pub run_shown : Shown → (dispatched coming : List Dispatched) → List TaskCall → FileRun
run_shown shown dispatched coming calls =
    record { setting = shown.setting; excused = shown.excused; dispatched = dispatched; coming = coming; calls = calls }

-- the Delete of a copied source begins only once the destination is new
abbrev pub MovesAfter : Shown → Run → Type 0
MovesAfter shown run =
    (n : ℕ) (task : Task) (front later : List Step) (step : Step) (lane : ℕ) (sent : SentRequest)
    → slice_get shown.setting.tasks n ≡ Some task → task.kind ≡ kind.Copy → run.trace ≡ front ++ step ∷ later
    → step.event ≡ Begin lane sent → sent.job ≡ record { task = Some n; op = op.Delete; number = 0 }
    → IsNew shown.excused shown.setting.held (moments run) (shown_after shown step.state) task task.kind

-- an upload whose Abort was answered with success is open at no later step
abbrev pub AbortsLast : List Step → Type 0
AbortsLast trace =
    (front mid late : List Step) (step : Step) (sent : SentRequest) (bucket key id bytes : List ℕ)
    → trace ≡ front ++ step ∷ (mid ++ late)
    → step.event ≡ Serve sent (Replied reply.Gone bytes) → sent.ask ≡ ask.Abort bucket key id
    → IsNone (get (state_after step.state mid).uploads id)

-- ---- what a willing service owes

-- nobody else writes
abbrev pub IsAlone : List Step → Type 0
IsAlone trace = (write : ExternalWrite) → ¬ (Contains (events_of trace) (External write))

abbrev pub HasDestBuckets : List Task → State → Type 0
HasDestBuckets tasks start = (bucket key : List ℕ) → IsDest tasks bucket key → HasBucket start bucket

-- Done, or skipped where the task is not to replace and its destination was there; under `--dryrun` dry. Copied only
-- where a moved file could not be removed.
abbrev pub IsFinished : Bool → (WasTaken : Type 0) → Outcome → Type 0
IsFinished true WasTaken how = how ≡ outcome.Dry
IsFinished false WasTaken outcome.Done = ¬ WasTaken
IsFinished false WasTaken outcome.Skipped = WasTaken
IsFinished false WasTaken (outcome.Copied (cause.Files of_call)) = ¬ WasTaken
IsFinished false WasTaken how = ⊥

-- the kinds of task that may be told not to replace
abbrev pub MayBeFresh : Kind → Type 0
MayBeFresh kind.Upload = Unit {0}
MayBeFresh kind.Download = Unit {0}
MayBeFresh other = ⊥

abbrev pub WasTaken : Shown → State → ℕ → Type 0
WasTaken shown start n = (task : Task) × (slice_get shown.setting.tasks n ≡ Some task) × (task.fresh ≡ true)
    × MayBeFresh task.kind × IsThereIn (shown_before shown start) task.dest

-- each task has its outcome; where memory ran out before a job of a task was given, there may be none
abbrev pub HasOutcomes : Shown → List Dispatched → Type 0
HasOutcomes shown dispatched =
    (length shown.outcomes ≡ length shown.setting.tasks)
    ⊎ ((shown.status ≡ 70) × (shown.outcomes ≡ [])
    × ((c : Dispatched) → Contains dispatched c → c.dispatch.job.task ≡ None)
    × ((path : List ℕ) → get shown.held_after path ≡ get shown.setting.held path))

-- `Shows ask limit talk class bytes`: the talk has that class for the ask, and its answer that body
module _ (Shows : Ask → ℕ → Talk → Class → List ℕ → Type 0) where
  -- a run with the journal that is shown, over an honest trace that fits
  pub record FitsShown (shown : Shown) (run : Run) : Type 0 where
    pub of_journal : run.journal ≡ shown.journal
    pub of_page : run.refused_page ≡ shown.refused_page
    pub fitting : IsFitting Shows shown.setting.limits run (IsDest shown.setting.tasks)

  -- What local files hold, whatever a service did: the calls that the files tell are those of the run's tasks and keep
  -- to their clauses, the files are those after them, and each outcome is one that they show.
  pub record AreToldByCalls (shown : Shown) (dispatched coming : List Dispatched) (calls : List TaskCall) : Type 0
    where
      pub told : map (λ (c : TaskCall). c.step.call) calls ≡ shown.file_calls
      pub keep : AreCalls Shows (run_shown shown dispatched coming calls)
      pub held_after : shown.held_after ≡ files_after shown.setting.held calls
      -- of a task that calls decide, and of one that moves its file
      pub decided : (n : ℕ) (task : Task) (how : Outcome) → slice_get shown.setting.tasks n ≡ Some task
          → slice_get shown.outcomes n ≡ Some how → IsByFiles task
          → IsShownByCalls how (IsDestChanged task.kind calls n) (HasFailedAct calls n)
      pub moved : (n : ℕ) (task : Task) (how : Outcome) (path : List ℕ) → IsMoveOf shown.setting.tasks n task path
          → slice_get shown.outcomes n ≡ Some how → IsMoveShown how (IsRemoved calls n) (HasFailedAct calls n)

  -- Over every honest service, and whatever is lost, refused or late.
  abbrev pub HoldsOver : Shown → List Dispatched → Type 0
  HoldsOver shown dispatched = (run : Run) (part : List Step) → run.dispatched ≡ dispatched → FitsShown shown run
      → HasEndedBy run part
      → AllEnded shown run part × NoneChanged shown run part × OthersStay shown run part × MovesAfter shown run
      × AbortsLast run.trace

  -- each answer says what became of its request
  abbrev pub AreCertain : List Dispatched → Type 0
  AreCertain dispatched = (c : Dispatched) (place : ℕ) (attempt : Attempt) (why : Why) (bytes : List ℕ)
      → Contains dispatched c → slice_get c.dispatch.attempts place ≡ Some attempt
      → ¬ (Shows c.ask c.limit attempt.talk (class.Uncertain why) bytes)

  -- `request_text ask body moment`: the text of a request, signed at that moment;
  -- `Plans refused_page`: the planning jobs, in order, are those that the command needs, and the page of the job of that
  -- number was refused by its content
  module _ (request_text : Ask → List ℕ → ℕ → List ℕ) (host : List ℕ) (port : ℕ)
      (Plans : Option ℕ → List Dispatched → Type 0) where
    -- However the jobs of the run are read, and over every honest service that does what it may: where each answer is
    -- certain, nobody else writes, the buckets of the destinations are there, and the run is not cancelled, each task
    -- is done (or skipped, see above), but one whose file call failed or for which memory ran out.
    abbrev pub IsDoneWhereWilling : Shown → Type 0
    IsDoneWhereWilling shown = (run : Run) (coming : List Dispatched)
        → IsSchedule Shows shown.setting (Plans shown.refused_page) run.dispatched coming
        → IsCarried Shows request_text host port shown.setting shown.journal shown.logs shown.notes
        run.dispatched coming
        → FitsShown shown run → IsWilling shown.setting.limits run.start run.trace
        → AreCertain run.dispatched → IsAlone run.trace → HasDestBuckets shown.setting.tasks run.start
        → shown.setting.cancelled_at ≡ None
        → (n : ℕ) (how : Outcome) → slice_get shown.outcomes n ≡ Some how
        → IsFinished shown.setting.dryrun (WasTaken shown run.start n) how ⊎ (shown.setting.file_failed n ≡ true)
        ⊎ (shown.setting.wanted_memory (Some n) ≡ true)

-- `HasStatus ask limit talk status`: its answer has that HTTP status; `Plans refused_page`: as above;
-- `CallFailed n why`: the calls on files show that one of task n failed so
module _ (Shows : Ask → ℕ → Talk → Class → List ℕ → Type 0) (HasStatus : Ask → ℕ → Talk → ℕ → Type 0)
    (request_text : Ask → List ℕ → ℕ → List ℕ) (host : List ℕ) (port : ℕ)
    (Plans : Option ℕ → List Dispatched → Type 0) (CallFailed : ℕ → Cause → Type 0) where
  -- The jobs are those of the plan, the wires carried them and nothing else, each task has its outcome with the cause
  -- that the talks show, and over every honest trace that fits it is true.
  pub record IsTruthful (shown : Shown) : Type 0 where
    pub dispatched : List Dispatched
    pub coming : List Dispatched
    pub schedule : IsSchedule Shows shown.setting (Plans shown.refused_page) dispatched coming
    pub carried : IsCarried Shows request_text host port shown.setting shown.journal shown.logs shown.notes
        dispatched coming
    pub buffers : KeepsBuffers shown.setting.config.buffers shown.journal
    pub outcomes : HasOutcomes shown dispatched
    pub causes : (n : ℕ) (task : Task) (how : Outcome) → slice_get shown.setting.tasks n ≡ Some task
        → slice_get shown.outcomes n ≡ Some how
        → HasOutcome Shows HasStatus CallFailed shown.setting dispatched coming n task how
    pub calls : List TaskCall
    pub files : AreToldByCalls Shows shown dispatched coming calls
    pub others : OtherFilesStay shown
    pub holds : HoldsOver Shows shown dispatched
