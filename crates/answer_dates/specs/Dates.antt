-- The times of what a service lists (Amazon S3 API Reference, ListObjectsV2 and ListBuckets).
use Rattle.std.specs.Prelude.{◌≡◌, ◌<◌, ◌≤◌, List, All}
use Rattle.s3_model.specs.declared.answers.Class.{Class}
use Rattle.s3_model.specs.declared.answers.Class.TheVariants as class
use Rattle.s3_model.specs.declared.answers.Reply.TheVariants as reply
use Rattle.s3_model.specs.declared.answers.Talked.{Talked}
use Rattle.s3_model.specs.declared.answers.Why.TheVariants as why
use Rattle.s3_model.specs.declared.places.Entry.{Entry}
use Rattle.s3_model.specs.declared.requests.Ask.{Ask}
use Rattle.answer_classes.specs.Classifying.{IfAnswered, IfBroken, IsClassed}

-- its time, in microseconds since 1970, lies before the year 10000
abbrev pub IsDated : Entry → Type 0
IsDated entry = entry.micros < 253402300800000000

abbrev pub AreDated : List Entry → Type 0
AreDated entries = All IsDated entries

-- what the answer lists is dated, if it lists something
abbrev pub HasDates : Class → Type 0
HasDates (class.Success (reply.Listed page)) = AreDated page.entries.items
HasDates (class.Success (reply.BucketList buckets)) = AreDated buckets.items
HasDates shown = Unit {0}

-- the class of what came back, by its document; a break and an interim answer leave it open
pub record IsClassOf (asked : Ask) (talked : Talked) (shown : Class) : Type 0 where
  pub broken : IfBroken talked (λ reason. shown ≡ class.Uncertain reason)
  pub answered : IfAnswered talked (λ answered. 200 ≤ answered.status → IsClassed asked answered shown)
  pub interim : IfAnswered talked (λ answered. answered.status < 200
      → shown ≡ class.Uncertain (why.Status answered.status))

-- What came back for a request has dates.
abbrev pub AnswersAreDated : Type 0
AnswersAreDated = (asked : Ask) (talked : Talked) (shown : Class) → IsClassOf asked talked shown → HasDates shown
