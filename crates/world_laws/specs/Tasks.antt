-- What a run that keeps to the clauses on given and carried jobs leaves of each task whose destination is an object.
use Rattle.std.specs.Prelude.{◌≡◌, ◌≤◌, ◌≢◌, ◌++◌, ◌⊎◌, ℕ, Bool, true, false, List, ◌∷◌, Option, Some, None, Contains}
use Rattle.std.specs.Prelude.{length, slice_get}
use Rattle.std.specs.Bool.{OnTrue}
use Rattle.std.specs.FinMap.{get}
use Rattle.s3_model.specs.declared.requests.Ask.{Ask}
use Rattle.s3_model.specs.declared.requests.Op.TheVariants as op
use Rattle.s3_model.specs.declared.answers.Class.{Class}
use Rattle.s3_model.specs.declared.answers.Class.TheVariants as class
use Rattle.s3_model.specs.declared.outcomes.Event.{Event}
use Rattle.s3_model.specs.declared.outcomes.Outcome.{Outcome}
use Rattle.s3_model.specs.declared.outcomes.Outcome.TheVariants as outcome
use Rattle.s3_model.specs.declared.places.Place.{Place}
use Rattle.s3_model.specs.declared.places.Place.TheVariants as place
use Rattle.s3_model.specs.declared.tasks.Kind.{Kind}
use Rattle.s3_model.specs.declared.tasks.Kind.TheVariants as kind
use Rattle.s3_model.specs.declared.tasks.Task.{Task}
use Rattle.s3_model.specs.Maps.{MapOf}
use Rattle.s3_model.specs.Talks.{Talk}
use Rattle.s3_model.specs.Validity.{IsValidLimits}
use Rattle.s3_model.specs.Files.{HeldFile, is_listed}
use Rattle.s3_service.specs.ServiceState.{State}
use Rattle.s3_service.specs.Serves.{taken_codes}
use Rattle.job_terms.specs.Dispatches.{Attempt, Dispatched}
use Rattle.run_promise.specs.Traces.{SentRequest, Step, Begin, state_after}
use Rattle.run_promise.specs.Schedule.{Setting, IsSchedule, is_small}
use Rattle.job_terms.specs.Jobs.{IsObject, IsSource, job_of}
use Rattle.job_terms.specs.Ops.{deciding, IsPlanning}
use Rattle.run_promise.specs.Endings.{Excused, Scene, IsNew, IsGone, IsGoneOrThere, IsSpared, IsEnded}
use Rattle.run_promise.specs.Truthful.{IsDest, IsMovedSource, IsExternal, IsOldAfter}
use Rattle.world_laws.specs.Premises.{BeginsWith, AreGiven, HasCome}
use Rattle.run_promise.specs.Runs.{Run, moments, HasEndedBy, IsFitting}
use Rattle.world_laws.specs.Premises.{HasSucceeded, AllRefused}
use Rattle.world_laws.specs.SmallTransfers.{HasSize}

-- no two tasks have one destination, and no destination is the source of a move
pub record AreApart (tasks : List Task) : Type 0 where
  pub destinations : (m n : ℕ) (a b : Task) (bucket key : List ℕ) → slice_get tasks m ≡ Some a
      → slice_get tasks n ≡ Some b → IsObject a.dest bucket key → IsObject b.dest bucket key → m ≡ n
  pub sources : (m n : ℕ) (a b : Task) (bucket key : List ℕ) → slice_get tasks m ≡ Some a → slice_get tasks n ≡ Some b
      → a.moves ≡ true → IsSource a.source bucket key → IsObject b.dest bucket key → ⊥

-- each of these jobs asks such
abbrev pub AreQuestions : List Dispatched → Type 0
AreQuestions jobs = (c : Dispatched) → Contains jobs c → IsPlanning c.ask

-- an uploaded file is there, with the size that was planned
abbrev pub HasSourceFile : MapOf HeldFile → Task → Type 0
HasSourceFile held task =
    (path : List ℕ) × (file : HeldFile) × (task.source ≡ Some (place.File path)) × (get held path ≡ Some file)
    × (length file.bytes ≡ task.size)

-- a copied object has the size that was planned, under the planned ETag
abbrev pub HasSourceObject : List State → Task → Type 0
HasSourceObject moments task =
    (bucket : List ℕ) × (key : List ℕ) × (task.source ≡ Some (place.Object bucket key))
    × HasSize moments bucket key task.etag task.size

-- what planning made sure of, by the kinds whose destination is an object
abbrev pub HasSource : MapOf HeldFile → List State → Task → Kind → Bool → Type 0
HasSource held moments task kind.Upload small = HasSourceFile held task
HasSource held moments task kind.Copy true = (bucket : List ℕ) × (key : List ℕ)
    × (task.source ≡ Some (place.Object bucket key))
HasSource held moments task kind.Copy false = HasSourceObject moments task
HasSource held moments task kind.RemoveObject small = task.moves ≡ false
HasSource held moments task of_kind small = ⊥

-- a task whose destination is an object, and whose source is as it was planned
pub record IsObjectTask (s : Setting) (moments : List State) (n : ℕ) (task : Task) (bucket key : List ℕ) : Type 0 where
  pub is_task : slice_get s.tasks n ≡ Some task
  pub is_dest : task.dest ≡ place.Object bucket key
  pub has_source : HasSource s.held moments task task.kind (is_small s task)

-- how things were when the run began, and how they are after a beginning of its trace
abbrev pub scene_before : Setting → Run → Scene
scene_before s run = record { state = run.start; held = s.held; others = s.others }

abbrev pub scene_after : Setting → MapOf HeldFile → Run → List Step → Scene
scene_after s held run part = record { state = state_after run.start part; held = held; others = s.others }

abbrev pub IsTaskNew : Setting → Excused → MapOf HeldFile → List State → Task → State → Type 0
IsTaskNew s excused held moments task t =
    IsNew excused s.held moments (record { state = t; held = held; others = s.others }) task task.kind

-- the outcomes after which the destination may be new
abbrev pub MayBeNew : Outcome → Type 0
MayBeNew outcome.Done = Unit {0}
MayBeNew (outcome.Copied cause) = Unit {0}
MayBeNew (outcome.Unknown cause) = Unit {0}
MayBeNew how = ⊥

-- the tasks whose deciding request can be conditional, and so told not to replace: it is a Put or a Complete
abbrev pub IsConditional : Kind → Bool → Type 0
IsConditional kind.Upload small = Unit {0}
IsConditional kind.Copy false = Unit {0}
IsConditional of_kind small = ⊥

-- what an outcome shows of a task: of its deciding request, and of the source of a move
abbrev pub IsShown : Outcome → (decided refused taken gone left spared : Type 0) → Type 0
IsShown outcome.Done decided refused taken gone left spared = decided × gone
IsShown (outcome.Copied cause) decided refused taken gone left spared = decided × left
IsShown (outcome.Failed cause) decided refused taken gone left spared = refused × spared
IsShown (outcome.Unknown cause) decided refused taken gone left spared = spared
IsShown outcome.Dry decided refused taken gone left spared = refused × spared
IsShown outcome.Skipped decided refused taken gone left spared = refused × taken × spared

-- `Shows ask limit talk class bytes`: the talk has that class for the ask, and its answer that body
module _ (Shows : Ask → ℕ → Talk → Class → List ℕ → Type 0) where
  -- ---- a run of a plan

  -- the clauses on given jobs, and what the clauses on carried jobs add to them
  pub record IsScheduled (s : Setting) (journal : List Event) (dispatched coming : List Dispatched) : Type 0 where
    pub schedule : IsSchedule Shows s AreQuestions dispatched coming
    pub given : AreGiven journal dispatched
    pub come : (c : Dispatched) → Contains dispatched c → HasCome journal c
    pub apart : AreApart s.tasks
    pub threshold : 1 ≤ s.config.threshold
    pub limits : IsValidLimits s.limits

  -- an honest trace that fits, in which nobody else writes a destination
  abbrev pub IsTraceOf : Setting → Run → Type 0
  IsTraceOf s run = IsFitting Shows s.limits run (IsDest s.tasks)

  -- such a run, with such a trace
  pub record IsRunOf (s : Setting) (run : Run) : Type 0 where
    pub coming : List Dispatched
    pub scheduled : IsScheduled s run.journal run.dispatched coming
    pub traced : IsTraceOf s run

  -- ---- how its requests went

  -- the deciding request of the task came with success
  pub record IsDecidedIn (s : Setting) (dispatched : List Dispatched) (n : ℕ) (task : Task) : Type 0 where
    pub request : Dispatched
    pub known : Contains dispatched request
    pub decides : request.dispatch.job ≡ job_of n (deciding task.kind (is_small s task)) 0
    pub succeeded : HasSucceeded Shows request

  -- each attempt of it was refused, or none was made
  abbrev pub IsRefusedIn : Setting → List Dispatched → ℕ → Task → Type 0
  IsRefusedIn s dispatched n task = (c : Dispatched) → Contains dispatched c
      → c.dispatch.job ≡ job_of n (deciding task.kind (is_small s task)) 0 → AllRefused Shows c

  -- it was not to replace, and an attempt of it was refused since the object was there
  pub record IsTakenIn (s : Setting) (dispatched : List Dispatched) (n : ℕ) (task : Task) : Type 0 where
    pub fresh : task.fresh ≡ true
    pub may_be : IsConditional task.kind (is_small s task)
    pub request : Dispatched
    pub known : Contains dispatched request
    pub decides : request.dispatch.job ≡ job_of n (deciding task.kind (is_small s task)) 0
    pub place : ℕ
    pub attempt : Attempt
    pub is_attempt : slice_get request.dispatch.attempts place ≡ Some attempt
    pub code : List ℕ
    pub message : List ℕ
    pub bytes : List ℕ
    pub refused : Shows request.ask request.limit attempt.talk (class.Refusal code message) bytes
    pub says_taken : is_listed taken_codes code ≡ true

  -- the Delete of the task came with success
  abbrev pub HasDeleted : List Dispatched → ℕ → Type 0
  HasDeleted dispatched n =
      (c : Dispatched) × Contains dispatched c × (c.dispatch.job ≡ job_of n op.Delete 0) × HasSucceeded Shows c

  -- the source of a move: its Delete came with success, or the file is no more
  abbrev pub IsSourceGone : List Dispatched → MapOf HeldFile → ℕ → Option Place → Type 0
  IsSourceGone dispatched held n None = Unit {0}
  IsSourceGone dispatched held n (Some (place.Object bucket key)) = HasDeleted dispatched n
  IsSourceGone dispatched held n (Some (place.File path)) = get held path ≡ None

  -- ---- the laws

  -- Where the deciding request came with success, the destination is new at the end and at every later moment.
  abbrev pub TaskIsNew : Type 0
  TaskIsNew = (s : Setting) (excused : Excused) (held : MapOf HeldFile) (run : Run) (part : List Step)
      → IsRunOf s run → HasEndedBy run part
      → (n : ℕ) (task : Task) (bucket key : List ℕ) → IsObjectTask s (moments run) n task bucket key
      → IsDecidedIn s run.dispatched n task → IsTaskNew s excused held (moments run) task (state_after run.start part)

  -- Where each attempt of it was refused, or it was never given, the destination is as before, at every moment.
  abbrev pub TaskIsOld : Type 0
  TaskIsOld = (s : Setting) (run : Run) (part : List Step) → IsRunOf s run → BeginsWith run part
      → (n : ℕ) (task : Task) (bucket key : List ℕ) → slice_get s.tasks n ≡ Some task
      → task.dest ≡ place.Object bucket key → IsRefusedIn s run.dispatched n task → IsOldAfter run part bucket key

  -- Whatever was answered, it is as before or new, at every moment.
  abbrev pub TaskIsWhole : Type 0
  TaskIsWhole = (s : Setting) (excused : Excused) (held : MapOf HeldFile) (run : Run) (part : List Step)
      → IsRunOf s run → BeginsWith run part
      → (n : ℕ) (task : Task) (bucket key : List ℕ) → IsObjectTask s (moments run) n task bucket key
      → IsOldAfter run part bucket key ⊎ IsTaskNew s excused held (moments run) task (state_after run.start part)

  -- Of a copy that is moved, the destination is new from the time that the Delete of its source begins.
  abbrev pub MovedTaskIsNew : Type 0
  MovedTaskIsNew = (s : Setting) (excused : Excused) (held : MapOf HeldFile) (run : Run) (front later : List Step)
      (step : Step) → IsRunOf s run → run.trace ≡ front ++ step ∷ later
      → (n : ℕ) (task : Task) (bucket key : List ℕ) → IsObjectTask s (moments run) n task bucket key
      → task.kind ≡ kind.Copy
      → (lane : ℕ) (sent : SentRequest) → step.event ≡ Begin lane sent → sent.job ≡ job_of n op.Delete 0
      → IsTaskNew s excused held (moments run) task step.state

  -- After the Delete of a moved source came with success the source is gone, at the end and at every later moment.
  abbrev pub MovedSourceIsGone : Type 0
  MovedSourceIsGone = (s : Setting) (held : MapOf HeldFile) (run : Run) (part : List Step)
      → IsRunOf s run → HasEndedBy run part
      → (n : ℕ) (task : Task) (bucket key : List ℕ) → slice_get s.tasks n ≡ Some task → task.moves ≡ true
      → task.source ≡ Some (place.Object bucket key) → task.kind ≢ kind.RemoveObject → HasDeleted run.dispatched n
      → IsGone run.trace (scene_after s held run part) task.source

  -- Nothing else is changed: every object is a destination, a moved source, written by somebody else, or as before.
  abbrev pub OtherObjectsStay : Type 0
  OtherObjectsStay = (s : Setting) (run : Run) (part : List Step) (bucket key : List ℕ)
      → IsRunOf s run → BeginsWith run part
      → IsDest s.tasks bucket key ⊎ IsMovedSource s.tasks bucket key ⊎ IsExternal run.trace bucket key
      ⊎ IsOldAfter run part bucket key

  -- ---- how a task ended

  -- the run shows of the task what its outcome asks for
  abbrev pub IsShownIn : Setting → MapOf HeldFile → Run → List Step → ℕ → Task → Outcome → Type 0
  IsShownIn s held run part n task how =
      IsShown how
      (IsDecidedIn s run.dispatched n task) (IsRefusedIn s run.dispatched n task) (IsTakenIn s run.dispatched n task)
      (OnTrue task.moves (IsSourceGone run.dispatched held n task.source))
      (OnTrue task.moves (IsGoneOrThere (scene_before s run) (scene_after s held run part) task.source))
      (OnTrue task.moves (IsSpared n run.journal (scene_before s run) (scene_after s held run part) task.source))

  -- A task ended as its outcome says, over every honest trace. Its source is to be as planned only where its
  -- destination may be new.
  abbrev pub TaskEnds : Type 0
  TaskEnds = (s : Setting) (excused : Excused) (held : MapOf HeldFile) (run : Run) (part : List Step)
      → IsRunOf s run → HasEndedBy run part
      → (n : ℕ) (task : Task) (bucket key : List ℕ) → slice_get s.tasks n ≡ Some task
      → task.dest ≡ place.Object bucket key
      → (how : Outcome) → (MayBeNew how → HasSource s.held (moments run) task task.kind (is_small s task))
      → IsShownIn s held run part n task how
      → IsEnded excused run (scene_before s run) (scene_after s held run part) n task how
