-- How a job ends: what its tries show, and what was gained.
use Rattle.std.specs.Prelude.{◌≡◌, ◌≢◌, ◌++◌, List, [], ◌∷◌, Option, IfSome, IsSome, All, length}
use Rattle.s3_model.specs.declared.answers.Reply.{Reply}
use Rattle.s3_model.specs.declared.answers.Reply.TheVariants as reply
use Rattle.s3_model.specs.declared.bytes.Part.{Part}
use Rattle.s3_model.specs.declared.requests.Op.{Op}
use Rattle.s3_model.specs.declared.requests.Op.TheVariants as op
use Rattle.s3_model.specs.declared.tries.Mark.{Mark}
use Rattle.s3_model.specs.declared.tries.Mark.TheVariants as mark
use Rattle.jobs.specs.Holders.{Holder}
use Rattle.jobs.specs.Jobs.{SeenJob}
use Rattle.jobs.specs.declared.ending.Ending.{Ending}
use Rattle.jobs.specs.declared.ending.Ending.TheVariants as ending

-- what contracts see of a job that was carried
pub record SeenCarried : Type 0 where
  pub job : SeenJob
  pub tries : List Mark
  pub ending : Ending

-- the reply to a request of that op
abbrev pub IsReplyTo : Op → Reply → Type 0
IsReplyTo op.Head (reply.Found size etag micros) = Unit {0}
IsReplyTo op.Get (reply.Got status range count) = Unit {0}
IsReplyTo op.Put reply.Stored = Unit {0}
IsReplyTo op.Copy reply.Copied = Unit {0}
IsReplyTo op.Delete reply.Gone = Unit {0}
IsReplyTo op.Create (reply.Created upload) = Unit {0}
IsReplyTo op.Part (reply.PartStored etag) = Unit {0}
IsReplyTo op.PartCopy (reply.PartStored etag) = Unit {0}
IsReplyTo op.Complete reply.Completed = Unit {0}
IsReplyTo op.Abort reply.Gone = Unit {0}
IsReplyTo op.List (reply.Listed page) = Unit {0}
IsReplyTo op.Buckets (reply.BucketList buckets) = Unit {0}
IsReplyTo of_op said = ⊥

-- as many bytes stand in the part as the reply to a Get says
abbrev pub HasBody : Reply → Option Part → Type 0
HasBody (reply.Got status range count) part = IfSome part (λ place. length place.bytes.bytes ≡ count)
HasBody said part = Unit {0}

abbrev pub HaveNoSuccess : List Mark → Type 0
HaveNoSuccess tries = All (λ each. each ≢ mark.Success) tries

-- the last try has this mark, and none before it is a success
abbrev pub EndIn : Mark → List Mark → Type 0
EndIn last tries = (front : List Mark) × (tries ≡ front ++ last ∷ []) × HaveNoSuccess front

-- what is true of every job that was carried
abbrev pub IsEnded : Ending → Op → Option Part → Option Holder → List Mark → Type 0
IsEnded (ending.Gained said) of_op part cell tries = EndIn mark.Success tries × IsReplyTo of_op said × HasBody said part
IsEnded (ending.Refused status code message) of_op part cell tries = EndIn mark.Refusal tries
IsEnded (ending.Uncertain reason) of_op part cell tries = EndIn mark.Uncertain tries
IsEnded (ending.Cancelled reason) of_op part cell tries = (tries ≡ []) × IsSome cell
IsEnded ending.Memory of_op part cell tries = HaveNoSuccess tries
