-- Replies compared by the items of their lists: how many more would fit a list without memory is no part of an answer.
use Rattle.std.specs.Prelude.{◌≡◌}
use Rattle.s3_model.specs.declared.answers.Listed.{Listed}
use Rattle.s3_model.specs.declared.answers.Reply.{Reply}
use Rattle.s3_model.specs.declared.answers.Reply.TheVariants as reply
use Rattle.s3_model.specs.declared.answers.Class.{Class}
use Rattle.s3_model.specs.declared.answers.Class.TheVariants as class

abbrev pub IsSamePage : Listed → Listed → Type 0
IsSamePage a b = (a.entries.items ≡ b.entries.items) × (a.prefixes.items ≡ b.prefixes.items) × (a.more ≡ b.more)
    × (a.token ≡ b.token)

abbrev pub IsSameReply : Reply → Reply → Type 0
IsSameReply (reply.Listed a) (reply.Listed b) = IsSamePage a b
IsSameReply (reply.BucketList a) (reply.BucketList b) = a.items ≡ b.items
IsSameReply a b = a ≡ b

abbrev pub IsSameClass : Class → Class → Type 0
IsSameClass (class.Success a) (class.Success b) = IsSameReply a b
IsSameClass a b = a ≡ b
