-- That the premises of the laws can be met: for each law there is a run.
use Rattle.std.specs.Prelude.{◌≡◌, ◌≤◌, ◌++◌, ℕ, true, false, List, [], ◌∷◌, Some, None, Contains, length}
use Rattle.s3_model.specs.declared.requests.Ask.{Ask}
use Rattle.s3_model.specs.declared.requests.Ask.TheVariants as ask
use Rattle.s3_model.specs.declared.requests.Op.TheVariants as op
use Rattle.s3_model.specs.declared.answers.Reply.TheVariants as reply
use Rattle.s3_model.specs.declared.outcomes.JobId.{JobId}
use Rattle.s3_model.specs.declared.outcomes.Cause.TheVariants as cause
use Rattle.s3_model.specs.declared.outcomes.Outcome.{Outcome}
use Rattle.s3_model.specs.declared.outcomes.Outcome.TheVariants as outcome
use Rattle.s3_model.specs.declared.places.Place.TheVariants as place
use Rattle.s3_model.specs.declared.settings.Limits.{Limits}
use Rattle.s3_model.specs.declared.tasks.Kind.TheVariants as kind
use Rattle.s3_model.specs.declared.tasks.Task.{Task}
use Rattle.s3_service.specs.ServiceState.{State}
use Rattle.s3_service.specs.Serves.{Replied, LiesWithin, MayChange, bytes_within}
use Rattle.job_terms.specs.Dispatches.{Dispatched}
use Rattle.run_promise.specs.Traces.{SentRequest, Step, Begin, Serve, IsTrace, IsWilling, state_after, events_of}
use Rattle.run_promise.specs.Schedule.{Setting, is_small}
use Rattle.job_terms.specs.Jobs.{job_of}
use Rattle.run_promise.specs.Truthful.{Shown, AreCertain, HasDestBuckets, IsAlone, IsDest, IsExternal}
use Rattle.run_promise.specs.Runs.{HasJournal, Run, moments, HasEndedBy, IsFitting}
use Rattle.s3_model.specs.Parts.{HasPieces}
use Rattle.world_laws.specs.ExampleTasks.{moved_copy, removal, upload}
use Rattle.world_laws.specs.Premises.{HasBegun, HasTrace, IsPlace, IsNoPlace}
use Rattle.world_laws.specs.Premises.{AreGiven, HasSuccess, AllRefused}
use Rattle.world_laws.specs.Completeness.{AreCallsCounted, AreFreshByKind, AreSourcesThere}
use Rattle.world_laws.specs.Destinations.{AllThatChange, Requests}
use Rattle.world_laws.specs.Frame.{IsAskedOf}
use Rattle.world_laws.specs.SmallTransfers.{AsksPut, AsksCopy, AsksDelete, AreAll, HasSize}
use Rattle.world_laws.specs.Downloads.{AreGotInParts, IsGot}
use Rattle.world_laws.specs.Multipart.{AreParts, AreCopiedParts}
use Rattle.world_laws.specs.Moves.{IsGivenAfter}
use Rattle.world_laws.specs.Sources.{IsFound}
use Rattle.world_laws.specs.Uploads.{NamesUpload, IsFree}
use Rattle.world_laws.specs.Tasks.{HasDeleted, IsDecidedIn, IsObjectTask, IsRefusedIn, IsRunOf, IsTraceOf}
use Rattle.job_terms.specs.Ops.{deciding}
use Rattle.world_laws.specs.Promises.{IsOrderly, run_of}
use Rattle.world_laws.specs.Rounds.{AreNone, NeverFailed, Told, ToldStatus, no_text}

-- A run with an honest trace that fits, in which nobody else writes the kept places, and of which that is so.
pub record IsMet (limits : Limits) (IsKept : List ℕ → List ℕ → Type 0) (IsSuch : Run → Type 0) : Type 0 where
  pub run : Run
  pub fitting : IsFitting Told limits run IsKept
  pub such : IsSuch run

-- ---- destinations

-- it meets what a law on a destination asks, with a request for it that came with success
pub record IsDone (bucket key : List ℕ) (AreOurs : Requests) (run : Run) : Type 0 where
  pub given : AreGiven run.journal run.dispatched
  pub whole : HasEndedBy run run.trace
  pub ours : AreOurs run.journal run.dispatched
  pub success : HasSuccess Told run.journal run.dispatched bucket key

abbrev pub IsDestMet : Limits → List ℕ → List ℕ → Requests → Type 0
IsDestMet limits bucket key AreOurs = IsMet limits (IsPlace bucket key) (IsDone bucket key AreOurs)

abbrev pub UploadIsMet : Type 0
UploadIsMet = (limits : Limits) (bucket key body : List ℕ)
    → IsDestMet limits bucket key (AreAll bucket key (AsksPut bucket key body))

abbrev pub CopyIsMet : Type 0
CopyIsMet = (limits : Limits) (bucket key from_bucket from_key etag : List ℕ)
    → IsDestMet limits bucket key (AreAll bucket key (AsksCopy bucket key from_bucket from_key etag))

abbrev pub DeleteIsMet : Type 0
DeleteIsMet = (limits : Limits) (bucket key : List ℕ)
    → IsDestMet limits bucket key (AreAll bucket key (AsksDelete bucket key))

-- two parts, the first of them long enough
abbrev pub PartsAreMet : Type 0
PartsAreMet = (limits : Limits) (bucket key : List ℕ) (pieces : ℕ → List ℕ) → limits.min_part ≤ length (pieces 1)
    → IsDestMet limits bucket key (AreParts Told bucket key pieces 2)

-- two ranges of a source, the first of them long enough
abbrev pub AreTwoRanges : Limits → List ℕ → (ℕ → ℕ × ℕ) → Type 0
AreTwoRanges limits source ranges =
    LiesWithin (ranges 1) source × LiesWithin (ranges 2) source
    × (limits.min_part ≤ length (bytes_within (ranges 1) source))

abbrev pub CopiedPartsAreMet : Type 0
CopiedPartsAreMet = (limits : Limits) (bucket key from_bucket from_key etag : List ℕ) (ranges : ℕ → ℕ × ℕ)
    → AreTwoRanges limits etag ranges
    → IsDestMet limits bucket key (AreCopiedParts Told bucket key from_bucket from_key etag ranges 2)

-- it has an attempt
abbrev pub WasMade : Dispatched → Type 0
WasMade c = 1 ≤ length c.dispatch.attempts

-- a request for the object was made, and all of them are refused
abbrev pub RefusalIsMet : Type 0
RefusalIsMet = (limits : Limits) (bucket key : List ℕ) → IsMet limits (IsPlace bucket key)
    (λ (run : Run). AllThatChange bucket key (AllRefused Told) run.dispatched
    × ((c : Dispatched) × Contains run.dispatched c × MayChange c.ask bucket key × WasMade c))

-- a request, and an object that none may change and nobody else writes
pub record IsApart (bucket key : List ℕ) (run : Run) : Type 0 where
  pub request : Dispatched
  pub known : Contains run.dispatched request
  pub unasked : IsAskedOf run.dispatched bucket key → ⊥
  pub unwritten : IsExternal run.trace bucket key → ⊥

abbrev pub FrameIsMet : Type 0
FrameIsMet = (limits : Limits) (bucket key other : List ℕ) → (other ≡ key → ⊥)
    → IsMet limits (IsPlace bucket key) (IsApart bucket key)

-- a copy with a later job that begins, the Delete of its source
pub record IsMoved (bucket key from_bucket from_key : List ℕ) (AreOurs : Requests) (run : Run) : Type 0 where
  pub copy : IsDone bucket key AreOurs run
  pub job : JobId
  pub waits : IsGivenAfter copy.success.request job run.dispatched
  pub lane : ℕ
  pub sent : SentRequest
  pub begins : Contains (events_of run.trace) (Begin lane sent)
  pub of_job : sent.job ≡ job
  pub deletes : sent.ask ≡ ask.Delete from_bucket from_key

abbrev pub IsMoveMet : Limits → (bucket key from_bucket from_key : List ℕ) → Requests → Type 0
IsMoveMet limits bucket key from_bucket from_key AreOurs =
    IsMet limits (IsPlace bucket key) (IsMoved bucket key from_bucket from_key AreOurs)

abbrev pub MoveIsMet : Type 0
MoveIsMet = (limits : Limits) (bucket key from_bucket from_key etag : List ℕ)
    → (IsPlace bucket key from_bucket from_key → ⊥)
    → IsMoveMet limits bucket key from_bucket from_key
    (AreAll bucket key (AsksCopy bucket key from_bucket from_key etag))

abbrev pub CopiedMoveIsMet : Type 0
CopiedMoveIsMet = (limits : Limits) (bucket key from_bucket from_key etag : List ℕ) (ranges : ℕ → ℕ × ℕ)
    → (IsPlace bucket key from_bucket from_key → ⊥) → AreTwoRanges limits etag ranges
    → IsMoveMet limits bucket key from_bucket from_key
    (AreCopiedParts Told bucket key from_bucket from_key etag ranges 2)

-- ---- uploads

-- an Abort that is served with success
abbrev pub AbortIsMet : Type 0
AbortIsMet = (limits : Limits) (bucket key id : List ℕ) → (start : State) × (trace : List Step) × (sent : SentRequest)
    × IsTrace limits [] start trace × (sent.ask ≡ ask.Abort bucket key id)
    × Contains (events_of trace) (Serve sent (Replied reply.Gone []))

-- an upload that was begun, and that no request names while others are served
pub record IsOtherUploadMet (limits : Limits) (id : List ℕ) : Type 0 where
  pub run : Run
  pub front : List Step
  pub rest : List Step
  pub traced : HasTrace Told limits run
  pub is : run.trace ≡ front ++ rest
  pub unnamed : (c : Dispatched) → Contains run.dispatched c → NamesUpload c.ask id → ⊥
  pub begun : IsFree (state_after run.start front) id → ⊥
  pub goes_on : 1 ≤ length rest

abbrev pub OtherUploadIsMet : Type 0
OtherUploadIsMet = (limits : Limits) (id : List ℕ) → IsOtherUploadMet limits id

-- ---- what is read

-- a Get of the whole that came with success
abbrev pub GetIsMet : Type 0
GetIsMet = (limits : Limits) (bucket key etag : List ℕ) → IsMet limits IsNoPlace
    (λ (run : Run). (bytes : List ℕ) × IsGot Told run.journal run.dispatched bucket key etag None bytes)

-- Gets of the ranges of an object of that size, each of one piece, that came with success
abbrev pub AreRangesGot : (bucket key etag : List ℕ) → (size piece : ℕ) → Run → Type 0
AreRangesGot bucket key etag size piece run =
    HasSize (moments run) bucket key etag size
    × ((bodies : ℕ → List ℕ) × AreGotInParts Told run.journal run.dispatched bucket key etag size piece bodies)

abbrev pub RangesAreMet : Type 0
RangesAreMet = (limits : Limits) (bucket key etag : List ℕ) → 1 ≤ length etag
    → IsMet limits IsNoPlace (AreRangesGot bucket key etag (length etag) (length etag))

-- a request that came with success and told of the object
abbrev pub IsFoundMet : (bucket key etag : List ℕ) → (asked : Ask) → Type 0
IsFoundMet bucket key etag asked =
    (setting : Setting) × IsMet setting.limits (IsDest setting.tasks) (λ (run : Run). (size : ℕ)
    × ((found : IsFound Told run bucket key etag size) × (found.request.ask ≡ asked)))

-- a Head
abbrev pub HeadIsMet : Type 0
HeadIsMet = (bucket key etag : List ℕ) → IsFoundMet bucket key etag (ask.Head bucket key)

-- a List, of which there is one page
abbrev pub PageIsMet : Type 0
PageIsMet = (bucket key etag : List ℕ) → IsFoundMet bucket key etag (ask.List bucket key false None)

-- ---- tasks

-- A run of a plan with a task whose destination is that object, and of which that is so.
pub record IsTaskMet (bucket key : List ℕ) (IsSuch : Setting → Run → Task → Type 0) : Type 0 where
  pub setting : Setting
  pub run : Run
  pub of_plan : IsRunOf Told setting run
  pub whole : HasEndedBy run run.trace
  pub task : Task
  pub object : IsObjectTask setting (moments run) 0 task bucket key
  pub such : IsSuch setting run task

-- a copy that is moved, whose deciding request and whose Delete came with success
pub record IsMovedCopy (from_bucket from_key : List ℕ) (setting : Setting) (run : Run) (task : Task) : Type 0 where
  pub is_copy : task.kind ≡ kind.Copy
  pub moves : task.moves ≡ true
  pub is_source : task.source ≡ Some (place.Object from_bucket from_key)
  pub copied : IsDecidedIn Told setting run.dispatched 0 task
  pub deleted : HasDeleted Told run.dispatched 0
  pub begins : HasBegun run.trace (job_of 0 op.Delete 0)

abbrev pub TaskIsMet : Type 0
TaskIsMet = (bucket key from_bucket from_key etag : List ℕ) → (IsPlace bucket key from_bucket from_key → ⊥)
    → IsTaskMet bucket key (IsMovedCopy from_bucket from_key)

-- a task whose deciding request was made, and refused
pub record IsRefusedTask (setting : Setting) (run : Run) (task : Task) : Type 0 where
  pub request : Dispatched
  pub known : Contains run.dispatched request
  pub decides : request.dispatch.job ≡ job_of 0 (deciding task.kind (is_small setting task)) 0
  pub made : WasMade request
  pub refused : IsRefusedIn Told setting run.dispatched 0 task

abbrev pub RefusedTaskIsMet : Type 0
RefusedTaskIsMet = (bucket key : List ℕ) → IsTaskMet bucket key IsRefusedTask

-- an orderly run of one task with that outcome, with an honest trace that fits; as talks are read, the port is the size
-- of the source
pub record IsPromiseMet (task : Task) (how : Outcome) : Type 0 where
  pub shown : Shown
  pub dispatched : List Dispatched
  pub start : State
  pub trace : List Step
  pub planned : shown.setting.tasks ≡ task ∷ []
  pub ended : shown.outcomes ≡ how ∷ []
  pub orderly : IsOrderly Told ToldStatus AreNone NeverFailed no_text [] task.size shown dispatched dispatched
  pub traced : IsTraceOf Told shown.setting (run_of shown dispatched start trace)
  pub whole : HasJournal shown.journal trace trace

-- a moved copy that is done, a removal that failed, and an upload that is not to replace and was skipped
abbrev pub DoneIsMet : Type 0
DoneIsMet = (bucket key from_bucket from_key etag : List ℕ) → (IsPlace bucket key from_bucket from_key → ⊥)
    → IsPromiseMet (moved_copy bucket key from_bucket from_key etag 0) outcome.Done

abbrev pub FailedIsMet : Type 0
FailedIsMet = (bucket key : List ℕ) → IsPromiseMet (removal bucket key) (outcome.Failed (cause.Service op.Delete [] []))

abbrev pub SkippedIsMet : Type 0
SkippedIsMet = (bucket key path : List ℕ) → IsPromiseMet (upload bucket key path 0 true) outcome.Skipped

-- such a run over a service that does what it may, with all that is asked of it
pub record IsCompleteMet (task : Task) (how : Outcome) : Type 0 where
  pub met : IsPromiseMet task how
  pub counted : AreCallsCounted Told ToldStatus AreNone NeverFailed met.shown
  pub willing : IsWilling met.shown.setting.limits met.start met.trace
  pub certain : AreCertain Told met.dispatched
  pub alone : IsAlone met.trace
  pub buckets : HasDestBuckets met.shown.setting.tasks met.start
  pub sources : AreSourcesThere met.shown.setting.held met.shown.setting.tasks met.start
  pub fresh : AreFreshByKind met.shown.setting.tasks
  pub not_cancelled : met.shown.setting.cancelled_at ≡ None

-- a moved copy of an empty object
abbrev pub CompleteIsMet : Type 0
CompleteIsMet = (bucket key from_bucket from_key : List ℕ) → (IsPlace bucket key from_bucket from_key → ⊥)
    → IsCompleteMet (moved_copy bucket key from_bucket from_key [] 0) outcome.Done

-- an upload of two bytes, in two parts
pub record IsUploadMet (bucket key path : List ℕ) : Type 0 where
  pub done : IsCompleteMet (upload bucket key path 2 false) outcome.Done
  pub in_parts : HasPieces done.met.shown.setting.config done.met.shown.setting.limits kind.Upload 2 1 2

abbrev pub UploadIsComplete : Type 0
UploadIsComplete = (bucket key path : List ℕ) → IsUploadMet bucket key path
