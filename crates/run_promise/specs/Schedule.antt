-- Which jobs a run gives, and what each of them asks.
use Rattle.std.specs.Prelude.{◌≡◌, ◌≢◌, ◌+◌, ◌-◌, ◌<◌, ◌≤◌, ◌++◌, ◌⊎◌, ◌||◌, ℕ, Bool, true, false, List, [], ◌∷◌}
use Rattle.std.specs.Prelude.{Option, Some, None, length, slice_get, Contains, AllPairs, IsPermutation, IsSome, nat_lt}
use Rattle.std.specs.Prelude.{is_some, filter, not}
use Rattle.std.specs.FinMap.{get}
use Rattle.s3_model.specs.declared.tasks.Task.{Task}
use Rattle.s3_model.specs.declared.places.Place.{Place}
use Rattle.s3_model.specs.declared.places.Place.TheVariants as place
use Rattle.s3_model.specs.declared.tasks.Kind.{Kind}
use Rattle.s3_model.specs.declared.tasks.Kind.TheVariants as kind
use Rattle.s3_model.specs.declared.requests.Ask.{Ask}
use Rattle.s3_model.specs.declared.requests.Ask.TheVariants as ask
use Rattle.s3_model.specs.declared.answers.Class.TheVariants as class
use Rattle.s3_model.specs.declared.answers.Class.{Class}
use Rattle.s3_model.specs.declared.answers.Reply.{Reply}
use Rattle.s3_model.specs.declared.answers.Reply.TheVariants as reply
use Rattle.s3_model.specs.declared.requests.Op.{Op}
use Rattle.s3_model.specs.declared.requests.Op.TheVariants as op
use Rattle.s3_model.specs.declared.outcomes.JobId.{JobId}
use Rattle.s3_model.specs.declared.settings.Config.{Config}
use Rattle.s3_model.specs.declared.settings.Limits.{Limits}
use Rattle.s3_model.specs.declared.tries.Mark.TheVariants as mark
use Rattle.s3_model.specs.Talks.{Talk}
use Rattle.s3_model.specs.Documents.{document_of}
use Rattle.s3_model.specs.Maps.{MapOf}
use Rattle.s3_model.specs.Files.{HeldFile}
use Rattle.s3_model.specs.Parts.{HasPieces, piece_range, piece_of}
use Rattle.run_promise.specs.Dispatches.{IsSuccessLast, IsCompletedWell, IsCut, IsFailing}
use Rattle.job_terms.specs.Dispatches.{Dispatched, Attempt, last_of}
use Rattle.job_terms.specs.Jobs.{IsSourceDelete, Origin, Target, job_of}
use Rattle.job_terms.specs.Ops.{op_of}

-- ---- what a job asks

-- which successes came before: of which job, with which reply
abbrev pub Gained : Type 1
Gained = JobId → Reply → Type 0

-- the upload that Create named
abbrev pub IsUpload : Gained → ℕ → List ℕ → Type 0
IsUpload gained task id = gained (job_of task op.Create 0) (reply.Created id)

-- the ETags of parts 1 to count, in order
pub record AreETags (gained : Gained) (task : ℕ) (part : Op) (count : ℕ) (etags : List (List ℕ)) : Type 0 where
  pub each_part : length etags ≡ count
  pub in_order : (n : ℕ) (etag : List ℕ) → slice_get etags n ≡ Some etag
      → gained (job_of task part (n + 1)) (reply.PartStored etag)

-- the range of a piece as a request names it, with both ends inside
abbrev pub asked_range : ℕ → ℕ → ℕ → ℕ × ℕ
asked_range size piece number =
    ((piece_range size piece number).0, (piece_range size piece number).0 + (piece_range size piece number).1 - 1)

-- the greatest length of the body of a 2xx answer, in bytes, for every request but a Get
abbrev pub most_body : ℕ
most_body = 8388608

-- the greatest length for a request of a task of that size: for a Get the length of its piece
abbrev pub limit_of : ℕ → ℕ → ℕ → Ask → ℕ
limit_of size piece number (ask.Get bucket key etag None) = size
limit_of size piece number (ask.Get bucket key etag (Some range)) = (piece_range size piece number).1
limit_of size piece number asked = most_body

-- what of a task its jobs depend on: its number, the bytes of a source file, the length of a piece and their count
pub record Known : Type 0 where
  pub number : ℕ
  pub bytes : List ℕ
  pub piece : ℕ
  pub count : ℕ

abbrev pub IsPart : Known → ℕ → Type 0
IsPart known number = (1 ≤ number) × (number ≤ known.count)

abbrev pub IsComplete : Gained → Task → Known → Op → Ask → Type 0
IsComplete gained task known part asked =
    (to : Target task) × (id : List ℕ) × (etags : List (List ℕ)) × (spare : ℕ) × IsUpload gained known.number id
    × AreETags gained known.number part known.count etags
    × (asked ≡ ask.Complete to.bucket to.key id (record { items = etags; spare = spare }) task.fresh)

abbrev pub IsAbort : Gained → Task → Known → Ask → Type 0
IsAbort gained task known asked =
    (to : Target task) × (id : List ℕ) × IsUpload gained known.number id × (asked ≡ ask.Abort to.bucket to.key id)

-- The ask and the body of a task's job, by the task's kind, whether it is below the threshold, and the job's op.
-- A job with no row here is never given.
abbrev pub IsTaskAsk : Gained → Task → Known → Kind → Bool → Op → ℕ → Ask → List ℕ → Type 0
IsTaskAsk gained task known kind.Upload true op.Put number asked body =
    (to : Target task) × (number ≡ 0) × (asked ≡ ask.Put to.bucket to.key task.content task.fresh)
    × (body ≡ known.bytes)
IsTaskAsk gained task known kind.Upload false op.Create number asked body =
    (to : Target task) × (number ≡ 0) × (asked ≡ ask.Create to.bucket to.key task.content) × (body ≡ [])
IsTaskAsk gained task known kind.Upload false op.Part number asked body =
    (to : Target task) × (id : List ℕ) × IsUpload gained known.number id × IsPart known number
    × (asked ≡ ask.Part to.bucket to.key id number) × (body ≡ piece_of known.bytes known.piece number)
IsTaskAsk gained task known kind.Upload false op.Complete number asked body =
    IsComplete gained task known op.Part asked × (number ≡ 0) × (body ≡ document_of asked)
IsTaskAsk gained task known kind.Upload false op.Abort number asked body =
    IsAbort gained task known asked × (number ≡ 0) × (body ≡ [])
IsTaskAsk gained task known kind.Download true op.Get number asked body =
    (from : Origin task) × (number ≡ 0) × (asked ≡ ask.Get from.bucket from.key task.etag None) × (body ≡ [])
IsTaskAsk gained task known kind.Download false op.Get number asked body =
    (from : Origin task) × IsPart known number
    × (asked ≡ ask.Get from.bucket from.key task.etag (Some (asked_range task.size known.piece number))) × (body ≡ [])
IsTaskAsk gained task known kind.Download small op.Delete number asked body =
    IsSourceDelete task asked × (number ≡ 0) × (body ≡ [])
IsTaskAsk gained task known kind.Copy true op.Copy number asked body =
    (to : Target task) × (from : Origin task) × (number ≡ 0)
    × (asked ≡ ask.Copy to.bucket to.key from.bucket from.key task.etag) × (body ≡ [])
IsTaskAsk gained task known kind.Copy false op.Create number asked body =
    (to : Target task) × (number ≡ 0) × (asked ≡ ask.Create to.bucket to.key None) × (body ≡ [])
IsTaskAsk gained task known kind.Copy false op.PartCopy number asked body =
    (to : Target task) × (from : Origin task) × (id : List ℕ) × IsUpload gained known.number id × IsPart known number
    × (asked ≡ ask.PartCopy to.bucket to.key id number from.bucket from.key task.etag
    (asked_range task.size known.piece number)) × (body ≡ [])
IsTaskAsk gained task known kind.Copy false op.Complete number asked body =
    IsComplete gained task known op.PartCopy asked × (number ≡ 0) × (body ≡ document_of asked)
IsTaskAsk gained task known kind.Copy false op.Abort number asked body =
    IsAbort gained task known asked × (number ≡ 0) × (body ≡ [])
IsTaskAsk gained task known kind.Copy small op.Delete number asked body =
    IsSourceDelete task asked × (number ≡ 0) × (body ≡ [])
IsTaskAsk gained task known kind.RemoveObject small op.Delete number asked body =
    (to : Target task) × (number ≡ 0) × (asked ≡ ask.Delete to.bucket to.key) × (body ≡ [])
IsTaskAsk gained task known of_kind small of_op number asked body = ⊥

-- ---- which jobs are given

abbrev pub is_planning : Dispatched → Bool
is_planning c = not (is_some c.dispatch.job.task)

-- the planning jobs, in the order of their Given
abbrev pub planning_of : List Dispatched → List Dispatched
planning_of dispatched = filter is_planning dispatched

-- what a run began with, what its outcomes show of file calls, and how many events of the journal stood before the run
-- was cancelled, if it was
pub record Setting : Type 0 where
  pub config : Config
  pub limits : Limits
  -- how many lanes are used, the first ones
  pub lanes : ℕ
  pub tasks : List Task
  -- the plan is shown and not carried out
  pub dryrun : Bool
  pub held : MapOf HeldFile
  -- the paths of what is neither file nor folder
  pub others : List (List ℕ)
  pub file_failed : ℕ → Bool
  pub cancelled_at : Option ℕ
  -- whether memory ran out for a task, by its cause, or for the planning, by the status
  pub wanted_memory : Option ℕ → Bool

abbrev pub is_small : Setting → Task → Bool
is_small s task = nat_lt task.size s.config.threshold

abbrev pub bytes_of : Option HeldFile → List ℕ
bytes_of None = []
bytes_of (Some file) = file.bytes

-- the bytes of a source file, none where it has no such source
abbrev pub source_bytes : MapOf HeldFile → Option Place → List ℕ
source_bytes held None = []
source_bytes held (Some (place.Object bucket key)) = []
source_bytes held (Some (place.File path)) = bytes_of (get held path)

abbrev pub is_stopped : Setting → Option ℕ → Bool
is_stopped s None = is_some s.cancelled_at
is_stopped s (Some task) = is_some s.cancelled_at || s.file_failed task

-- a file call of the task failed
abbrev pub file_call_failed : Setting → Option ℕ → Bool
file_call_failed s None = false
file_call_failed s (Some task) = s.file_failed task

abbrev pub IsBefore : Option ℕ → ℕ → Type 0
IsBefore None b = ⊥
IsBefore (Some a) b = a < b

abbrev pub IsBeforePlace : Option ℕ → Option ℕ → Type 0
IsBeforePlace a None = ⊥
IsBeforePlace a (Some b) = IsBefore a b

-- it comes before that place, or nothing stands there
abbrev pub IsBeforeAny : Option ℕ → Option ℕ → Type 0
IsBeforeAny a None = Unit {0}
IsBeforeAny a (Some b) = IsBefore a b

-- the request that decides a task came with success, or every Get of a download
abbrev pub IsDecidedBy : Kind → Bool → ℕ → ℕ → Gained → Type 0
IsDecidedBy kind.Copy true n count gained = gained (job_of n op.Copy 0) reply.Copied
IsDecidedBy kind.Copy false n count gained = gained (job_of n op.Complete 0) reply.Completed
IsDecidedBy kind.Download true n count gained = (answered : Reply) × gained (job_of n op.Get 0) answered
IsDecidedBy kind.Download false n count gained =
    (k : ℕ) → 1 ≤ k → k ≤ count → (answered : Reply) × gained (job_of n op.Get k) answered
IsDecidedBy of_kind small n count gained = ⊥

abbrev pub IsDecided : Setting → Task → ℕ → Gained → Type 0
IsDecided s task n gained =
    (piece count : ℕ) → HasPieces s.config s.limits task.kind task.size piece count
    → IsDecidedBy task.kind (is_small s task) n count gained

-- what stopped a task but its own jobs: a file call that failed, or a cancel of the run
abbrev pub IsStopped : Setting → Option ℕ → Type 0
IsStopped s task = is_stopped s task ≡ true

-- `Shows ask limit talk class bytes`: the talk has that class for the ask, and its answer that body
module _ (Shows : Ask → ℕ → Talk → Class → List ℕ → Type 0) where
  abbrev pub HasReply : Dispatched → Option Attempt → Reply → Type 0
  HasReply c None answered = ⊥
  HasReply c (Some attempt) answered =
      (attempt.mark ≡ mark.Success) × (bytes : List ℕ) × Shows c.ask c.limit attempt.talk (class.Success answered) bytes

  -- the successes that came before a place of the journal
  abbrev pub gained_before : List Dispatched → ℕ → JobId → Reply → Type 0
  gained_before dispatched place job answered =
      (c : Dispatched) × Contains dispatched c × (c.dispatch.job ≡ job) × IsBefore c.dispatch.came_at place
      × HasReply c (last_of c.dispatch.attempts) answered

  -- It came and was cut. `coming` are the dispatches in the order of their coming.
  abbrev pub IsCutIn : Setting → List Dispatched → Dispatched → Type 0
  IsCutIn s coming c =
      (front : List Dispatched) × (later : List Dispatched) × (coming ≡ front ++ c ∷ later)
      × IsCut Shows s.config.attempts c later
      (IsStopped s c.dispatch.job.task
      ⊎ IsFailing Shows s.config.attempts c.dispatch.job.task (IsStopped s c.dispatch.job.task) later)

  -- It came, was not cut, and did not do what it was to do. `coming` are the dispatches in the order of their coming.
  abbrev pub IsFailed : Setting → List Dispatched → Dispatched → Type 0
  IsFailed s coming c =
      (front : List Dispatched) × (later : List Dispatched) × (coming ≡ front ++ c ∷ later)
      × ¬ (IsCut Shows s.config.attempts c later
      (IsStopped s c.dispatch.job.task
      ⊎ IsFailing Shows s.config.attempts c.dispatch.job.task (IsStopped s c.dispatch.job.task) later))
      × ¬ (IsCompletedWell Shows c)

  -- What the jobs of a run are to keep to. `dispatched` stand in the order of their Given, `coming` in that of their
  -- Came. `Plans` says of the planning jobs, in order, that they are those that the command needs.
  pub record IsSchedule (s : Setting) (Plans : List Dispatched → Type 0) (dispatched coming : List Dispatched)
      : Type 0 where
    pub is_coming : IsPermutation dispatched coming
    pub in_order : AllPairs (λ (a b : Dispatched). IsBeforeAny a.dispatch.came_at b.dispatch.came_at) coming
    -- each asks what its task, the pieces and the successes before it say
    pub asks : (c : Dispatched) (n : ℕ) → Contains dispatched c → c.dispatch.job.task ≡ Some n
        → (task : Task) × (piece : ℕ) × (count : ℕ) × (slice_get s.tasks n ≡ Some task)
        × HasPieces s.config s.limits task.kind task.size piece count × (c.size ≡ task.size)
        × (c.limit ≡ limit_of task.size piece c.dispatch.job.number c.ask)
        × IsTaskAsk (gained_before dispatched c.dispatch.given_at) task
        (record { number = n; bytes = source_bytes s.held task.source; piece = piece; count = count })
        task.kind (is_small s task) c.dispatch.job.op c.dispatch.job.number c.ask c.body
    pub plans : Plans (planning_of dispatched)
    pub planned : (c : Dispatched) → Contains dispatched c → c.dispatch.job.task ≡ None → (c.limit ≡ most_body)
        × (c.body ≡ [])
    -- they are numbered from 0 and go to the first lane
    pub numbered : (k : ℕ) (c : Dispatched) → slice_get (planning_of dispatched) k ≡ Some c
        → (c.dispatch.job ≡ record { task = None; op = op_of c.ask; number = k }) × (c.dispatch.lane ≡ 0)
    -- one planning job after the other
    pub one_by_one : AllPairs (λ (a b : Dispatched). IsBefore a.dispatch.came_at b.dispatch.given_at)
        (planning_of dispatched)
    -- a dry run gives no job of a task
    pub dry : (c : Dispatched) → s.dryrun ≡ true → Contains dispatched c → c.dispatch.job.task ≡ None
    -- A job is given once. Only one of a task, no Abort, is given again, where it came without success, before a
    -- failure of its task and before a cancel.
    pub twice : AllPairs (λ (a b : Dispatched). a.dispatch.job ≡ b.dispatch.job
        → IsBefore a.dispatch.came_at b.dispatch.given_at × ¬ (IsSuccessLast (last_of a.dispatch.attempts))
        × IsBeforeAny (Some b.dispatch.given_at) s.cancelled_at
        × ((failed : Dispatched) → IsFailed s coming failed → failed.dispatch.job.task ≡ a.dispatch.job.task
        → IsBeforeAny a.dispatch.came_at failed.dispatch.came_at)
        × IsSome a.dispatch.job.task × (a.dispatch.job.op ≢ op.Abort)) dispatched
    pub no_third : (a b c : Dispatched) (i j k : ℕ) → i < j → j < k → slice_get dispatched i ≡ Some a
        → slice_get dispatched j ≡ Some b → slice_get dispatched k ≡ Some c
        → a.dispatch.job ≡ b.dispatch.job → b.dispatch.job ≡ c.dispatch.job → ⊥
    -- after a failed Came no job of its task is given but Abort
    pub stops : (failed c : Dispatched) → IsFailed s coming failed → IsSome failed.dispatch.job.task
        → failed.dispatch.job.op ≢ op.Abort → Contains dispatched c
        → c.dispatch.job.task ≡ failed.dispatch.job.task → IsBefore failed.dispatch.came_at c.dispatch.given_at
        → c.dispatch.job.op ≡ op.Abort
    -- an Abort comes after every other job of its task, exactly where Create came with success and Complete did not
    pub abort_last : (a c : Dispatched) → Contains dispatched a → Contains dispatched c → a.dispatch.job.op ≡ op.Abort
        → c.dispatch.job.task ≡ a.dispatch.job.task → c.dispatch.job.op ≢ op.Abort
        → IsBefore c.dispatch.came_at a.dispatch.given_at
    pub aborts : (n : ℕ) (id : List ℕ) (end : ℕ)
        → ((c : Dispatched) → Contains dispatched c → IsBefore c.dispatch.came_at end)
        → IsUpload (gained_before dispatched end) n id
        → gained_before dispatched end (job_of n op.Complete 0) reply.Completed
        ⊎ ((a : Dispatched) × Contains dispatched a × (a.dispatch.job ≡ job_of n op.Abort 0))
    pub completed_stays : (n : ℕ) (end : ℕ) (a : Dispatched) → Contains dispatched a
        → a.dispatch.job ≡ job_of n op.Abort 0
        → ¬ (gained_before dispatched end (job_of n op.Complete 0) reply.Completed)
    -- the source of a move goes only after the deciding request, or every Get, came with success
    pub moves_last : (c : Dispatched) (n : ℕ) (task : Task) → Contains dispatched c → c.dispatch.job.task ≡ Some n
        → slice_get s.tasks n ≡ Some task → task.moves ≡ true → c.dispatch.job.op ≡ op.Delete
        → IsDecided s task n (gained_before dispatched c.dispatch.given_at)
