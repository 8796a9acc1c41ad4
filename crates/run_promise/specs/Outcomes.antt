-- How a task ended, by what the talks of its jobs show: the outcome that is printed, and its cause.
use Rattle.std.specs.Prelude.{◌≡◌, ◌≢◌, ◌⊎◌, ℕ, true, false, List, [], Option, Some, None, slice_get, codes}
use Rattle.std.specs.Prelude.{Contains, IsSome}
use Rattle.s3_model.specs.declared.requests.Ask.{Ask}
use Rattle.s3_model.specs.declared.requests.Op.{Op}
use Rattle.s3_model.specs.declared.requests.Op.TheVariants as op
use Rattle.s3_model.specs.declared.answers.Reply.{Reply}
use Rattle.s3_model.specs.declared.answers.Class.{Class}
use Rattle.s3_model.specs.declared.answers.Class.TheVariants as class
use Rattle.s3_model.specs.declared.answers.Why.TheVariants as reason_of
use Rattle.s3_model.specs.declared.outcomes.JobId.{JobId}
use Rattle.s3_model.specs.declared.outcomes.Cause.{Cause}
use Rattle.s3_model.specs.declared.outcomes.Cause.TheVariants as cause
use Rattle.s3_model.specs.declared.outcomes.FileCall.{FileCall}
use Rattle.s3_model.specs.declared.outcomes.FileCall.TheVariants as call
use Rattle.s3_model.specs.declared.outcomes.Outcome.{Outcome}
use Rattle.s3_model.specs.declared.outcomes.Outcome.TheVariants as outcome
use Rattle.s3_model.specs.declared.places.Place.{Place}
use Rattle.s3_model.specs.declared.places.Place.TheVariants as place
use Rattle.s3_model.specs.declared.tasks.Kind.{Kind}
use Rattle.s3_model.specs.declared.tasks.Kind.TheVariants as kind
use Rattle.s3_model.specs.declared.tasks.Task.{Task}
use Rattle.s3_model.specs.declared.tries.Mark.{Mark}
use Rattle.s3_model.specs.declared.tries.Mark.TheVariants as mark
use Rattle.std.specs.FinMap.{get}
use Rattle.s3_model.specs.Files.{HeldFile, is_listed}
use Rattle.s3_model.specs.Maps.{MapOf}
use Rattle.s3_model.specs.Talks.{Talk}
use Rattle.s3_service.specs.Serves.{taken_codes}
use Rattle.run_promise.specs.Dispatches.{FitsAsk, ShowsIn}
use Rattle.job_terms.specs.Dispatches.{Attempt, Dispatched, last_of}
use Rattle.run_promise.specs.Schedule.{Setting, IsBefore, IsBeforePlace, IsDecided, IsFailed, HasReply, is_small}
use Rattle.job_terms.specs.Jobs.{job_of}
use Rattle.job_terms.specs.Ops.{deciding}

-- ---- requests

-- the kinds of task that such a request decides; a download is decided by its Gets, and a removal of a file by a call
-- on files
abbrev pub IsDecidedByRequest : Kind → Type 0
IsDecidedByRequest kind.Upload = Unit {0}
IsDecidedByRequest kind.Copy = Unit {0}
IsDecidedByRequest kind.RemoveObject = Unit {0}
IsDecidedByRequest other = ⊥

abbrev pub IsDecidingJob : Setting → ℕ → Task → JobId → Type 0
IsDecidingJob s n task job = IsDecidedByRequest task.kind × (job ≡ job_of n (deciding task.kind (is_small s task)) 0)

-- the requests that read a source under its ETag
abbrev pub ReadsSource : Op → Type 0
ReadsSource op.Get = Unit {0}
ReadsSource op.Copy = Unit {0}
ReadsSource op.PartCopy = Unit {0}
ReadsSource other = ⊥

-- a file, or what is neither file nor folder, stood at a place
abbrev pub StoodAt : MapOf HeldFile → List (List ℕ) → Place → Type 0
StoodAt held others (place.File path) = IsSome (get held path) ⊎ (is_listed others path ≡ true)
StoodAt held others (place.Object bucket key) = ⊥

-- the calls on files that carry out a task of a kind
abbrev pub IsCallOf : Kind → FileCall → Type 0
IsCallOf kind.Upload call.Read = Unit {0}
IsCallOf kind.Download call.Create = Unit {0}
IsCallOf kind.Download call.Write = Unit {0}
IsCallOf kind.Download call.Rename = Unit {0}
IsCallOf kind.RemoveFile call.Remove = Unit {0}
IsCallOf of_kind of_call = ⊥

-- the source of a move that a call on files removes
abbrev pub IsFilePlace : Option Place → Type 0
IsFilePlace (Some (place.File path)) = Unit {0}
IsFilePlace other = ⊥

-- some attempt has that mark
abbrev pub HasMark : Dispatched → Mark → Type 0
HasMark c of_mark =
    (k : ℕ) × (attempt : Attempt) × (slice_get c.dispatch.attempts k ≡ Some attempt) × (attempt.mark ≡ of_mark)

-- no later giving of the job made an attempt
abbrev pub IsLastTried : List Dispatched → Dispatched → Type 0
IsLastTried dispatched c =
    (d : Dispatched) → Contains dispatched d → d.dispatch.job ≡ c.dispatch.job
    → IsBefore (Some c.dispatch.given_at) d.dispatch.given_at → d.dispatch.attempts ≡ []

-- the source of a move that a request removes
abbrev pub IsObjectPlace : Option Place → Type 0
IsObjectPlace (Some (place.Object bucket key)) = Unit {0}
IsObjectPlace other = ⊥

-- `Shows ask limit talk class bytes`: the talk has that class for the ask, and its answer that body;
-- `HasStatus ask limit talk status`: its answer has that HTTP status
module _ (Shows : Ask → ℕ → Talk → Class → List ℕ → Type 0) (HasStatus : Ask → ℕ → Talk → ℕ → Type 0) where
  -- ---- what an attempt shows

  -- the answer refuses with a code that one of these says
  abbrev pub IsRefusedWith : Dispatched → Attempt → (List ℕ → Type 0) → Type 0
  IsRefusedWith c attempt IsSuch =
      (code : List ℕ) × (message : List ℕ) × (bytes : List ℕ)
      × ShowsIn Shows c attempt (class.Refusal code message) bytes × IsSuch code

  -- the source is no longer the one under that ETag
  abbrev pub SaysChanged : Dispatched → Attempt → Type 0
  SaysChanged c attempt = ReadsSource c.dispatch.job.op
      × IsRefusedWith c attempt (λ code. HasStatus c.ask c.limit attempt.talk 412 ⊎ (code ≡ codes "PreconditionFailed"))

  -- the destination was there, and the request was not to replace it
  abbrev pub SaysTaken : Dispatched → Attempt → Type 0
  SaysTaken c attempt = IsRefusedWith c attempt (λ code. is_listed taken_codes code ≡ true)

  abbrev pub IsTakenLast : Dispatched → Option Attempt → Type 0
  IsTakenLast c None = ⊥
  IsTakenLast c (Some attempt) = SaysTaken c attempt

  -- the cause that the last attempt of a job shows
  abbrev pub IsCauseOf : Dispatched → Option Attempt → Cause → Type 0
  IsCauseOf c None why = ⊥
  IsCauseOf c (Some attempt) (cause.Service of_op code message) =
      (of_op ≡ c.dispatch.job.op) × ((bytes : List ℕ) × ShowsIn Shows c attempt (class.Refusal code message) bytes)
      × ¬ (SaysChanged c attempt)
  IsCauseOf c (Some attempt) (cause.Lost of_op reason) =
      (of_op ≡ c.dispatch.job.op) × (reason ≢ reason_of.Memory) × (bytes : List ℕ)
      × ShowsIn Shows c attempt (class.Uncertain reason) bytes
  IsCauseOf c (Some attempt) cause.Changed = SaysChanged c attempt
  IsCauseOf c (Some attempt) (cause.BadReply of_op) =
      (of_op ≡ c.dispatch.job.op) × (answered : Reply) × (bytes : List ℕ)
      × ShowsIn Shows c attempt (class.Success answered) bytes × ¬ (FitsAsk c c.ask (class.Success answered))
  IsCauseOf c (Some attempt) other = ⊥

  abbrev pub IsLastCause : Dispatched → Cause → Type 0
  IsLastCause c why = IsCauseOf c (last_of c.dispatch.attempts) why

  -- `CallFailed n why`: the calls on files show that one of task n failed so
  module _ (CallFailed : ℕ → Cause → Type 0) (s : Setting) (dispatched coming : List Dispatched) where
    -- ---- failures

    abbrev pub IsFailureOf : ℕ → Dispatched → Type 0
    IsFailureOf n c = IsFailed Shows s coming c × (c.dispatch.job.task ≡ Some n)

    abbrev pub HasNoFailure : ℕ → Type 0
    HasNoFailure n = (c : Dispatched) → ¬ (IsFailureOf n c)

    -- no other job of the task failed before it
    abbrev pub IsFirstFailure : ℕ → Dispatched → Type 0
    IsFirstFailure n c = IsFailureOf n c
        × ((other : Dispatched) → IsFailureOf n other → (other.dispatch ≡ c.dispatch)
        ⊎ IsBeforePlace c.dispatch.came_at other.dispatch.came_at)

    -- ---- the deciding request

    abbrev pub HasDeciding : ℕ → Task → Mark → Type 0
    HasDeciding n task of_mark =
        (c : Dispatched) × Contains dispatched c × IsDecidingJob s n task c.dispatch.job × HasMark c of_mark

    -- Nobody can know: some attempt of the deciding request was uncertain, and none a success.
    abbrev pub IsLeftOpen : ℕ → Task → Type 0
    IsLeftOpen n task = HasDeciding n task mark.Uncertain × ¬ (HasDeciding n task mark.Success)

    -- its Put or its Complete was refused since the object was there, without an attempt that leaves it open
    abbrev pub IsSkippedByRequest : ℕ → Task → Type 0
    IsSkippedByRequest n task = (task.fresh ≡ true) × (task.kind ≡ kind.Upload) × ¬ (HasDeciding n task mark.Uncertain)
        × ((c : Dispatched) × Contains dispatched c × IsDecidingJob s n task c.dispatch.job × IsFirstFailure n c
        × IsTakenLast c (last_of c.dispatch.attempts))

    -- ---- causes

    abbrev pub FailsFirstBy : ℕ → Cause → Type 0
    FailsFirstBy n why = (c : Dispatched) × IsFirstFailure n c × IsLastCause c why

    -- Why a task failed: by its first failure, by a call on files, or because the run was cancelled and nothing failed.
    abbrev pub FailsFor : ℕ → Task → Cause → Type 0
    FailsFor n task cause.Memory = s.wanted_memory (Some n) ≡ true
    FailsFor n task (cause.Files of_call) = IsCallOf task.kind of_call × CallFailed n (cause.Files of_call)
    FailsFor n task (cause.Blocked length) = (task.kind ≡ kind.Download) × CallFailed n (cause.Blocked length)
    FailsFor n task (cause.Cancelled reason) = IsSome s.cancelled_at × HasNoFailure n
    FailsFor n task cause.Changed =
        ((task.kind ≡ kind.Upload) × CallFailed n cause.Changed) ⊎ FailsFirstBy n cause.Changed
    FailsFor n task (cause.Service of_op code message) =
        FailsFirstBy n (cause.Service of_op code message) × ¬ (IsSkippedByRequest n task)
    FailsFor n task why = FailsFirstBy n why

    -- Why the source of a move stayed: its file could not be removed, or as above.
    abbrev pub StaysFor : ℕ → Task → Cause → Type 0
    StaysFor n task (cause.Files call.Remove) = IsFilePlace task.source × CallFailed n (cause.Files call.Remove)
    StaysFor n task (cause.Files of_call) = ⊥
    StaysFor n task (cause.Blocked length) = ⊥
    StaysFor n task cause.Changed = ⊥
    StaysFor n task why = FailsFor n task why

    -- its cause is that of the deciding request's last attempt
    abbrev pub IsOpenFor : ℕ → Task → Cause → Type 0
    IsOpenFor n task cause.Memory = s.wanted_memory (Some n) ≡ true
    IsOpenFor n task why =
        (c : Dispatched) × Contains dispatched c × IsDecidingJob s n task c.dispatch.job × IsLastTried dispatched c
        × IsLastCause c why

    -- which successes came
    abbrev pub came_with : JobId → Reply → Type 0
    came_with job answered =
        (c : Dispatched) × Contains dispatched c × (c.dispatch.job ≡ job)
        × HasReply Shows c (last_of c.dispatch.attempts) answered

    -- the request that decides it came with success, or each Get of a download
    abbrev pub IsDecidedAt : ℕ → Task → Kind → Type 0
    IsDecidedAt n task kind.Download = IsDecided s task n came_with
    IsDecidedAt n task kind.RemoveFile = Unit {0}
    IsDecidedAt n task of_kind = HasDeciding n task mark.Success

    -- the Delete of a moved object came with success
    abbrev pub IsSourceDeleted : ℕ → Task → Type 0
    IsSourceDeleted n task = (answered : Reply) × came_with (job_of n op.Delete 0) answered

    -- no job of the task was given
    abbrev pub HasNoJob : ℕ → Type 0
    HasNoJob n = (c : Dispatched) → Contains dispatched c → c.dispatch.job.task ≢ Some n

    -- its file was there at the start, and no Get was sent
    abbrev pub IsSkippedByFile : ℕ → Task → Type 0
    IsSkippedByFile n task =
        (task.fresh ≡ true) × (task.kind ≡ kind.Download) × StoodAt s.held s.others task.dest × HasNoJob n

    -- at the place of a download that is not to replace nothing stood
    abbrev pub HasFreePlace : Task → Type 0
    HasFreePlace task = task.fresh ≡ true → task.kind ≡ kind.Download → ¬ (StoodAt s.held s.others task.dest)

    -- where something stood at the place of such a download, it is given no job
    abbrev pub IsFreeOrIdle : ℕ → Task → Type 0
    IsFreeOrIdle n task =
        task.fresh ≡ true → task.kind ≡ kind.Download → StoodAt s.held s.others task.dest → HasNoJob n

    -- no job of the task failed but the Delete of its source
    abbrev pub OnlyDeleteFailed : ℕ → Type 0
    OnlyDeleteFailed n = (c : Dispatched) → IsFailureOf n c → c.dispatch.job ≡ job_of n op.Delete 0

    -- ---- outcomes

    abbrev pub HasOutcome : ℕ → Task → Outcome → Type 0
    HasOutcome n task outcome.Done =
        HasNoFailure n × IsDecidedAt n task task.kind
        × (task.moves ≡ true → IsObjectPlace task.source → IsSourceDeleted n task)
        × HasFreePlace task
    HasOutcome n task (outcome.Copied why) =
        (task.moves ≡ true) × IsDecidedAt n task task.kind × ¬ (IsSourceDeleted n task) × StaysFor n task why
        × OnlyDeleteFailed n × HasFreePlace task
    HasOutcome n task (outcome.Unknown why) = IsLeftOpen n task × IsOpenFor n task why
    HasOutcome n task (outcome.Failed why) =
        ¬ (HasDeciding n task mark.Success) × ¬ (IsLeftOpen n task) × FailsFor n task why × IsFreeOrIdle n task
    HasOutcome n task outcome.Dry = s.dryrun ≡ true
    HasOutcome n task outcome.Skipped = (s.dryrun ≡ false) × (IsSkippedByRequest n task ⊎ IsSkippedByFile n task)
