-- What a lane does for one job: its attempts, the pauses before them, and the ending.
use Rattle.std.specs.Prelude.{◌≡◌, ◌⊎◌, ◌+◌, ◌<◌, ◌≤◌, ◌++◌, ℕ, true, false, List, [], ◌∷◌, Option, Some, None, IfSome}
use Rattle.std.specs.Prelude.{IsSome, length, map, max, slice_get, unwrap_or}
use Rattle.s3_model.specs.declared.answers.Class.{Class}
use Rattle.s3_model.specs.declared.answers.Class.TheVariants as class
use Rattle.s3_model.specs.declared.bytes.Part.{Part}
use Rattle.s3_model.specs.declared.outcomes.Reason.{Reason}
use Rattle.s3_model.specs.declared.places.Endpoint.{Endpoint}
use Rattle.s3_model.specs.declared.requests.Ask.{Ask}
use Rattle.s3_model.specs.declared.requests.Ask.TheVariants as ask
use Rattle.s3_model.specs.declared.requests.Op.{Op}
use Rattle.s3_model.specs.declared.requests.Op.TheVariants as op
use Rattle.s3_model.specs.declared.settings.Keys.{Keys}
use Rattle.s3_model.specs.declared.tries.Mark.{Mark}
use Rattle.s3_model.specs.Classes.{is_tried_again}
use Rattle.s3_model.specs.Talks.{Talk, Note, Pause, WireLog}
use Rattle.job_terms.specs.Attempts.{mark_of, pauses_before}
use Rattle.job_terms.specs.Dispatches.{last_of}
use Rattle.attempts.specs.Attempts.{IsOfSomeTalk, IsOneTalk, IsSilent, SignedRequest, TellsStatus, signed_request}
use Rattle.job_terms.specs.Gains.{Gains}
use Rattle.attempts.specs.Payloads.{body_of}
use Rattle.attempts.specs.declared.send.Attempted.{Attempted}
use Rattle.attempts.specs.declared.send.Attempted.TheVariants as attempted
use Rattle.attempts.specs.declared.send.Judged.{Judged}
use Rattle.jobs.specs.Cells.{Hears, IsSameCell}
use Rattle.jobs.specs.Endings.{SeenCarried}
use Rattle.jobs.specs.Holders.{Holder}
use Rattle.jobs.specs.Jobs.{IsAskOf, SeenJob, bytes_of, range_of}
use Rattle.jobs.specs.declared.ending.Ending.{Ending}
use Rattle.jobs.specs.declared.ending.Ending.TheVariants as ending

-- what contracts see of a carrier: where its requests go, the keys that sign them, the most attempts of a job
pub record SeenCarrier : Type 0 where
  pub endpoint : Endpoint
  pub keys : Keys
  pub attempts : ℕ

-- a lane is a carrier with its wire
pub record SeenLane (W : Type 0) : Type 0 where
  pub wire : W
  pub carrier : SeenCarrier

-- ---- attempts

-- the pauses before the attempt of that number, as they are noted
abbrev pub noted_before : (number : ℕ) → List Note
noted_before number = map Pause (pauses_before number)

-- no talk, and these pauses alone
abbrev pub IsNotedBefore : (number : ℕ) → List Talk → List Note → Type 0
IsNotedBefore number talks notes = (talks ≡ []) × (notes ≡ noted_before number)

-- one attempt of that number: its pause, and then one talk that shows this class
pub record IsMade (r : SignedRequest) (number : ℕ) (shown : Class) (place : List ℕ) (talks : List Talk)
    (notes : List Note)
    : Type 0 where
  pub own : List Note
  pub paused : notes ≡ noted_before number ++ own
  pub made : IsOneTalk r shown place talks own

-- attempts one after the other, numbered from there
abbrev pub AreMade : SignedRequest → (number : ℕ) → (place : List ℕ) → List Class → List Talk → List Note → Type 0
AreMade r number place [] talks notes = (talks ≡ []) × (notes ≡ [])
AreMade r number place (shown ∷ rest) talks notes =
    (first : List Talk) × (more : List Talk) × (noted : List Note) × (others : List Note)
    × (talks ≡ first ++ more) × (notes ≡ noted ++ others)
    × IsMade r number shown place first noted × AreMade r (number + 1) place rest more others

-- an attempt before whose talk memory ran out: maybe its pause and a moment
abbrev pub IsWithoutTalk : (number : ℕ) → List Talk → List Note → Type 0
IsWithoutTalk number talks notes = (own : List Note) × (notes ≡ noted_before number ++ own) × IsSilent talks own

-- what the wire gains by the attempt of that number
abbrev pub Attempts : SignedRequest → (number : ℕ) → Attempted → (place : List ℕ) → List Talk → List Note → Type 0
Attempts r number attempted.Memory place talks notes = IsWithoutTalk number talks notes
Attempts r number (attempted.Made judged) place talks notes =
    IsMade r number judged.class place talks notes × TellsStatus r judged.status talks

-- ---- the ending

-- the ending by a class, and by the status of the answer where that is a refusal
abbrev pub class_ending : (status : ℕ) → Class → Ending
class_ending status (class.Success said) = ending.Gained said
class_ending status (class.Refusal code message) = ending.Refused status code message
class_ending status (class.Uncertain reason) = ending.Uncertain reason

abbrev pub ending_of : Judged → Ending
ending_of judged = class_ending (unwrap_or judged.status 0) judged.class

-- the attempt is the last, with this ending: it is not tried again, or memory ran out before its talk
abbrev pub EndsIt : Attempted → Ending → Type 0
EndsIt attempted.Memory ended = ended ≡ ending.Memory
EndsIt (attempted.Made judged) ended = (ended ≡ ending_of judged) × (is_tried_again judged.class ≡ false)

-- where the cell gave a reason: the ending by the last attempt, if there is one
abbrev pub ending_by : Reason → Option Judged → Ending
ending_by reason None = ending.Cancelled reason
ending_by reason (Some judged) = ending_of judged

-- The ending is that of the last class: it is not tried again, or no attempt is left, or the cell gave a reason.
pub record EndsByClass (made most : ℕ) (gave : Option Reason) (classes : List Class) (ended : Ending) : Type 0 where
  pub shown : Class
  pub status : ℕ
  pub last : last_of classes ≡ Some shown
  pub ending_is : ended ≡ class_ending status shown
  pub is_through : (is_tried_again shown ≡ false) ⊎ (made ≡ most) ⊎ IsSome gave

-- No attempt was made, since the cell gave this reason.
pub record EndsByCell (gave : Option Reason) (classes : List Class) (ended : Ending) : Type 0 where
  pub reason : Reason
  pub none_made : classes ≡ []
  pub gave_is : gave ≡ Some reason
  pub ending_is : ended ≡ ending.Cancelled reason

-- Memory ran out where another attempt was to be made.
pub record EndsByMemory (made most : ℕ) (classes : List Class) (ended : Ending) : Type 0 where
  pub ending_is : ended ≡ ending.Memory
  pub goes_on : IfSome (last_of classes) (λ shown. is_tried_again shown ≡ true)
  pub left : made < most

-- `made` attempts were made of at most `most`, these classes by this giving; `gave` is the reason that the cell gave.
abbrev pub Ends : (made most : ℕ) → (gave : Option Reason) → List Class → Ending → Type 0
Ends made most gave classes ended =
    EndsByClass made most gave classes ended ⊎ EndsByCell gave classes ended ⊎ EndsByMemory made most classes ended

-- ---- one job

-- what is noted behind the attempts: nothing, unless memory ran out
abbrev pub AreBehind : Ending → (number : ℕ) → List Note → Type 0
AreBehind ending.Memory number notes = (notes ≡ []) ⊎ IsWithoutTalk number [] notes
AreBehind ended number notes = notes ≡ []

-- a refusal has the status of the last talk's answer
abbrev pub HasLastStatus : SignedRequest → Ending → List Talk → Type 0
HasLastStatus r (ending.Refused status code message) talks = TellsStatus r (Some status) talks
HasLastStatus r ended talks = Unit {0}

-- what the wire gains by a job of which `had` attempts were made before
abbrev pub IsShare : SignedRequest → (had : ℕ) → (place : List ℕ) → List Class → Ending → List Talk → List Note → Type 0
IsShare r had place classes ended talks notes =
    (own : List Note) × (behind : List Note) × (notes ≡ own ++ behind) × AreMade r (had + 1) place classes talks own
    × AreBehind ended (had + length classes + 1) behind × HasLastStatus r ended talks

-- a success is that of a talk whose body stands in place, also where the wire shows none
abbrev pub IsGained : SignedRequest → (place : List ℕ) → Ending → Type 0
IsGained r place (ending.Gained said) = IsOfSomeTalk r.asked r.limit (class.Success said) place
IsGained r place ended = Unit {0}

-- The attempts of one giving of a job, with the classes of their talks, each once, and the ending that they come to.
pub record Carries (r : SignedRequest) (had most : ℕ) (gave : Option Reason) (place : List ℕ)
    (before after : Option WireLog)
    (tries : List Mark) (ended : Ending) : Type 0 where
  pub classes : List Class
  pub marks : tries ≡ map mark_of classes
  pub at_most : had + length classes ≤ most
  -- each but the last is tried again
  pub again : (k : ℕ) (shown : Class) → slice_get classes k ≡ Some shown → k + 1 < length classes
      → is_tried_again shown ≡ true
  pub ends : Ends (had + length classes) most gave classes ended
  pub gained : IsGained r place ended
  pub shared : Gains before after (IsShare r had place classes ended)

-- ---- the job

-- the body of a Get goes to the part, up to the length of its range
abbrev pub limit_of : Ask → (length : ℕ) → Option ℕ
limit_of (ask.Get bucket key etag range) length = Some length
limit_of asked length = None

abbrev pub reason_of : Option Holder → Option Reason
reason_of None = None
reason_of (Some cell) = cell.known

-- the most attempts of a job, one of which is left in any case
abbrev pub most_attempts : (attempts had : ℕ) → ℕ
most_attempts attempts had = max attempts (had + 1)

-- a request to the carrier's service, with this body
abbrev pub request_to : SeenCarrier → Ask → (body : List ℕ) → (limit : Option ℕ) → SignedRequest
request_to carrier asked body limit = signed_request carrier.endpoint carrier.keys asked body limit

-- a request with the bytes of this part, for a piece of that length
abbrev pub request_for : SeenCarrier → Ask → Option Part → (length : ℕ) → SignedRequest
request_for carrier asked part length =
    request_to carrier asked (body_of asked (bytes_of part)) (limit_of asked length)

-- what the carrier keeps from job to job
pub record IsSameCarrier (before after : SeenCarrier) : Type 0 where
  pub endpoint : after.endpoint ≡ before.endpoint
  pub keys : after.keys ≡ before.keys
  pub attempts : after.attempts ≡ before.attempts

-- the place of a body that came is the part of a Get
abbrev pub IsPlace : Ask → Option Part → (place : List ℕ) → Type 0
IsPlace (ask.Get bucket key etag range) part place = bytes_of part ≡ place
IsPlace asked part place = Unit {0}

-- The carrier carried the job: a request of it, with its attempts, and its ending.
pub record IsCarriedBy (carrier : SeenCarrier) (job : SeenJob) (before after : Option WireLog)
    (carried : SeenCarried) : Type 0 where
  pub asked : Ask
  pub place : List ℕ
  pub asks : IsAskOf job.id job.what asked
  pub placed : IsPlace asked carried.job.part place
  pub carries : Carries (request_for carrier asked job.part (range_of job.what).1) job.had
      (most_attempts carrier.attempts job.had) (reason_of carried.job.cell) place before after carried.tries
      carried.ending

-- ---- what is handed back

-- the same cell, of which more may be known
abbrev pub KeepsCell : Option Holder → Option Holder → Type 0
KeepsCell None None = Unit {0}
KeepsCell (Some before) (Some after) = IsSameCell before after
KeepsCell before after = ⊥

-- the part of a Get has other bytes and its room, every other is as before
abbrev pub KeepsPart : Op → Option Part → Option Part → Type 0
KeepsPart op.Get None None = Unit {0}
KeepsPart op.Get (Some before) (Some after) = after.bytes.room ≡ before.bytes.room
KeepsPart op.Get before after = ⊥
KeepsPart of_op before after = after ≡ before

-- the job with its part and its cell
pub record IsSameJob (before after : SeenJob) : Type 0 where
  pub id : after.id ≡ before.id
  pub what : after.what ≡ before.what
  pub part : KeepsPart before.id.op before.part after.part
  pub cell : KeepsCell before.cell after.cell
  pub had : after.had ≡ before.had

-- what is heard of a cell, if there is one
abbrev pub Looks : Option Holder → Option Holder → Option Reason → Type 0
Looks None None None = Unit {0}
Looks (Some before) (Some after) heard = Hears before after heard
Looks before after heard = ⊥
