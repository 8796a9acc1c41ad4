-- What a job asks, and what it needs for it.
use Rattle.std.specs.Prelude.{◌≡◌, ◌⊎◌, ◌+◌, ◌-◌, ◌^◌, ◌<◌, ◌≤◌, ◌==◌, ℕ, true, List, [], Option, Some, None, IsSome}
use Rattle.std.specs.Prelude.{if◌then◌else◌}
use Rattle.std.specs.Arc.{arc_value}
use Rattle.s3_model.specs.declared.bytes.Part.{Part}
use Rattle.s3_model.specs.declared.outcomes.JobId.{JobId}
use Rattle.s3_model.specs.declared.requests.Ask.{Ask}
use Rattle.s3_model.specs.declared.requests.Ask.TheVariants as ask
use Rattle.s3_model.specs.declared.requests.Op.{Op}
use Rattle.s3_model.specs.declared.requests.Op.TheVariants as op
use Rattle.s3_model.specs.declared.tasks.Kind.{Kind}
use Rattle.s3_model.specs.declared.tasks.Kind.TheVariants as kind
use Rattle.s3_model.specs.declared.tasks.Task.{Task}
use Rattle.s3_model.specs.Lists.{Reserved}
use Rattle.s3_signing.specs.Signing.{IsHashOf}
use Rattle.job_terms.specs.Jobs.{IsSourceDelete, Origin, Target}
use Rattle.job_terms.specs.Ops.{op_of, IsPlanning}
use Rattle.jobs.specs.Holders.{Holder}
use Rattle.jobs.specs.declared.what.What.{What}
use Rattle.jobs.specs.declared.what.What.TheVariants as what

-- what contracts see of a job
pub record SeenJob : Type 0 where
  pub id : JobId
  pub what : What
  pub part : Option Part
  pub cell : Option Holder
  pub had : ℕ

-- ---- which requests there are

-- the requests of a task's kind, below the threshold and from it on
abbrev pub IsOfKind : Kind → Op → Type 0
IsOfKind kind.Upload op.Put = Unit {0}
IsOfKind kind.Upload op.Create = Unit {0}
IsOfKind kind.Upload op.Part = Unit {0}
IsOfKind kind.Upload op.Complete = Unit {0}
IsOfKind kind.Download op.Get = Unit {0}
IsOfKind kind.Copy op.Copy = Unit {0}
IsOfKind kind.Copy op.Create = Unit {0}
IsOfKind kind.Copy op.PartCopy = Unit {0}
IsOfKind kind.Copy op.Complete = Unit {0}
IsOfKind kind.RemoveObject op.Delete = Unit {0}
IsOfKind of_kind of_op = ⊥

-- a request of the task: one of its kind, the removal of a moved source, or the end of an upload that is given up
abbrev pub IsOfTask : Task → Op → Type 0
IsOfTask task op.Abort = Unit {0}
IsOfTask task op.Delete = IsOfKind task.kind op.Delete ⊎ (task.moves ≡ true)
IsOfTask task of_op = IsOfKind task.kind of_op

-- ---- the request of a step

-- a place and a length as a request names them, with both ends inside
abbrev pub ends_of : ℕ × ℕ → ℕ × ℕ
ends_of range = (range.0, range.0 + range.1 - 1)

-- a Get without a number is of the whole object
abbrev pub asked_range : (number : ℕ) → ℕ × ℕ → Option (ℕ × ℕ)
asked_range number range = if number == 0 then None else Some (ends_of range)

-- a copy in parts states no content type
abbrev pub stated_content : Kind → Option (List ℕ) → Option (List ℕ)
stated_content kind.Copy content = None
stated_content of_kind content = content

-- a removed object is the destination of its task, that of a move the source
abbrev pub IsDelete : Task → Kind → Ask → Type 0
IsDelete task kind.RemoveObject asked = (to : Target task) × (asked ≡ ask.Delete to.bucket to.key)
IsDelete task of_kind asked = IsSourceDelete task asked

-- the request of a step with this piece, upload and entity tags, by its op
abbrev pub IsStepAsk : Task → (range : ℕ × ℕ) → Option (List ℕ) → Option (Reserved (List ℕ)) → Op → (number : ℕ)
    → Ask → Type 0
IsStepAsk task range upload etags op.Put number asked =
    (to : Target task) × (asked ≡ ask.Put to.bucket to.key task.content task.fresh)
IsStepAsk task range upload etags op.Get number asked =
    (from : Origin task) × (asked ≡ ask.Get from.bucket from.key task.etag (asked_range number range))
IsStepAsk task range upload etags op.Copy number asked =
    (to : Target task) × (from : Origin task) × (asked ≡ ask.Copy to.bucket to.key from.bucket from.key task.etag)
IsStepAsk task range upload etags op.Delete number asked = IsDelete task task.kind asked
IsStepAsk task range upload etags op.Create number asked =
    (to : Target task) × (asked ≡ ask.Create to.bucket to.key (stated_content task.kind task.content))
IsStepAsk task range upload etags op.Part number asked =
    (to : Target task) × (id : List ℕ) × (upload ≡ Some id) × (asked ≡ ask.Part to.bucket to.key id number)
IsStepAsk task range upload etags op.PartCopy number asked =
    (to : Target task) × (from : Origin task) × (id : List ℕ) × (upload ≡ Some id)
    × (asked ≡ ask.PartCopy to.bucket to.key id number from.bucket from.key task.etag (ends_of range))
IsStepAsk task range upload etags op.Complete number asked =
    (to : Target task) × (id : List ℕ) × (given : Reserved (List ℕ)) × (spare : ℕ) × (upload ≡ Some id)
    × (etags ≡ Some given)
    × (asked ≡ ask.Complete to.bucket to.key id (record { items = given.items; spare = spare }) task.fresh)
IsStepAsk task range upload etags op.Abort number asked =
    (to : Target task) × (id : List ℕ) × (upload ≡ Some id) × (asked ≡ ask.Abort to.bucket to.key id)
IsStepAsk task range upload etags of_op number asked = ⊥

-- the request of a job
abbrev pub IsAskOf : JobId → What → Ask → Type 0
IsAskOf id (what.Plan planned) asked = IsPlanning planned × (id.op ≡ op_of planned) × (asked ≡ planned)
IsAskOf id (what.Step task range upload etags) asked =
    IsOfTask (arc_value task) id.op × IsStepAsk (arc_value task) range upload etags id.op id.number asked

-- ---- what it needs

-- at least one byte, the last of them below 2^64
abbrev pub HasBytes : ℕ × ℕ → Type 0
HasBytes range = (1 ≤ range.1) × (range.0 + range.1 ≤ 2 ^ 64)

abbrev pub HasRange : Op → (number : ℕ) → ℕ × ℕ → Type 0
HasRange op.PartCopy number range = HasBytes range
HasRange op.Get number range = 0 < number → HasBytes range
HasRange of_op number range = Unit {0}

-- the bytes that are sent, or room for so many that come
abbrev pub HasPart : Op → (room : ℕ) → Option Part → Type 0
HasPart op.Put room part = IsSome part
HasPart op.Part room part = IsSome part
HasPart op.Get room part = (place : Part) × (part ≡ Some place) × (room ≤ place.bytes.room)
HasPart of_op room part = part ≡ None

-- the place and the length of the job's piece
abbrev pub range_of : What → ℕ × ℕ
range_of (what.Plan planned) = (0, 0)
range_of (what.Step task range upload etags) = range

-- the bytes of a part, none where there is no part
abbrev pub bytes_of : Option Part → List ℕ
bytes_of None = []
bytes_of (Some part) = part.bytes.bytes

-- what is true of every job
pub record IsJob (id : JobId) (for : What) (part : Option Part) (hash : Option (List ℕ)) (had : ℕ) : Type 0 where
  pub asks : (asked : Ask) × IsAskOf id for asked
  pub has_range : HasRange id.op id.number (range_of for)
  pub has_part : HasPart id.op (range_of for).1 part
  pub hashed : IsHashOf hash (bytes_of part)
  pub had_few : had ≤ 9
