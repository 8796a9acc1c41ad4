-- Replies and classes that are the same.
use Rattle.std.proofs.Common.{◌≡◌, ap, refl}
use Rattle.s3_model.specs.Classes.{is_tried_again}
use Rattle.s3_model.specs.Replies.{IsSameClass, IsSameReply}
use Rattle.s3_model.specs.declared.answers.Class.{Class}
use Rattle.s3_model.specs.declared.answers.Class.TheVariants as class
use Rattle.s3_model.specs.declared.answers.Reply.{Reply}
use Rattle.s3_model.specs.declared.answers.Reply.TheVariants as reply

pub reply_itself : (a : Reply) → IsSameReply a a
reply_itself (reply.Listed a) = (refl, refl, refl, refl)
reply_itself (reply.BucketList a) = refl
reply_itself a = refl

pub class_itself : (a : Class) → IsSameClass a a
class_itself (class.Success a) = reply_itself a
class_itself a = refl

pub same_again : (one same : Class) → IsSameClass one same → is_tried_again one ≡ is_tried_again same
same_again (class.Success a) (class.Success b) is = refl
same_again one same is = ap is_tried_again is
