-- Variants that differ, and variants that are one only with one content.
use Rattle.std.proofs.Common.{◌≡◌, ℕ, List, Some}
use Rattle.s3_model.specs.Talks.{Began, Moment}
use Rattle.s3_model.specs.declared.answers.Class.TheVariants as class
use Rattle.s3_model.specs.declared.answers.Reply.{Reply}
use Rattle.s3_model.specs.declared.answers.Talked.TheVariants as talked
use Rattle.s3_model.specs.declared.answers.Why.{Why}
use Rattle.s3_model.specs.declared.answers.Why.TheVariants as why
use Rattle.s3_model.specs.declared.outcomes.Event.TheVariants as entry
use Rattle.s3_model.specs.declared.outcomes.JobId.{JobId}
use Rattle.s3_model.specs.declared.outcomes.Reason.TheVariants as reason_of
use Rattle.s3_model.specs.declared.places.Place.TheVariants as place
use Rattle.s3_model.specs.declared.requests.Op.TheVariants as op
use Rattle.s3_model.specs.declared.tasks.Kind.TheVariants as kind
use Rattle.s3_model.specs.declared.tries.Mark.{Mark}
use Rattle.s3_model.specs.declared.tries.Mark.TheVariants as mark

-- ---- marks

pub refusal_is_no_success : mark.Refusal ≡ mark.Success → ⊥
refusal_is_no_success e = cc

pub uncertain_is_no_success : mark.Uncertain ≡ mark.Success → ⊥
uncertain_is_no_success e = cc

pub refusal_is_no_uncertain : mark.Refusal ≡ mark.Uncertain → ⊥
refusal_is_no_uncertain e = cc

pub success_is_no_uncertain : mark.Success ≡ mark.Uncertain → ⊥
success_is_no_uncertain e = cc

-- ---- classes of answers, and ends of talks

pub success_is_certain : (said : Reply) (reason : Why) → class.Success said ≡ class.Uncertain reason → ⊥
success_is_certain said reason e = cc

pub refusal_is_certain : (code message : List ℕ) (reason : Why) → class.Refusal code message ≡ class.Uncertain reason → ⊥
refusal_is_certain code message reason e = cc

pub lost_is_no_refusal : (code message : List ℕ) → class.Uncertain why.WireFailed ≡ class.Refusal code message → ⊥
lost_is_no_refusal code message e = cc

pub lost_is_no_memory : class.Uncertain why.WireFailed ≡ class.Uncertain why.Memory → ⊥
lost_is_no_memory e = cc

pub same_uncertain : (a b : Why) → class.Uncertain a ≡ class.Uncertain b → a ≡ b
same_uncertain a b e = cc

pub same_broken : (a b : Why) → talked.Broken a ≡ talked.Broken b → a ≡ b
same_broken a b e = cc

pub moment_is_no_beginning : (at : ℕ) → Moment at ≡ Began → ⊥
moment_is_no_beginning at e = cc

-- ---- operations, kinds, places and reasons

pub put_is_no_abort : op.Put ≡ op.Abort → ⊥
put_is_no_abort e = cc

pub put_is_no_create : op.Put ≡ op.Create → ⊥
put_is_no_create e = cc

pub get_is_no_abort : op.Get ≡ op.Abort → ⊥
get_is_no_abort e = cc

pub delete_is_no_abort : op.Delete ≡ op.Abort → ⊥
delete_is_no_abort e = cc

pub part_is_no_abort : op.Part ≡ op.Abort → ⊥
part_is_no_abort e = cc

pub part_copy_is_no_abort : op.PartCopy ≡ op.Abort → ⊥
part_copy_is_no_abort e = cc

pub complete_is_no_abort : op.Complete ≡ op.Abort → ⊥
complete_is_no_abort e = cc

pub upload_is_no_copy : kind.Upload ≡ kind.Copy → ⊥
upload_is_no_copy e = cc

pub upload_is_no_removal : kind.Upload ≡ kind.RemoveObject → ⊥
upload_is_no_removal e = cc

pub removal_is_no_download : kind.RemoveFile ≡ kind.Download → ⊥
removal_is_no_download e = cc

pub object_is_no_file : (bucket key path : List ℕ) → place.Object bucket key ≡ place.File path → ⊥
object_is_no_file bucket key path e = cc

pub output_is_no_task : reason_of.OutputFailed ≡ reason_of.TaskFailed → ⊥
output_is_no_task e = cc

-- ---- entries of a journal

pub given_is_no_came : (j k : JobId) (l m : ℕ) (tries : List Mark) → entry.Given j l ≡ entry.Came k m tries → ⊥
given_is_no_came j k l m tries e = cc

pub given_job : (j k : JobId) (l m : ℕ) → Some (entry.Given j l) ≡ Some (entry.Given k m) → j ≡ k
given_job j k l m e = cc

pub came_job : (j k : JobId) (l m : ℕ) (t u : List Mark) → Some (entry.Came j l t) ≡ Some (entry.Came k m u) → j ≡ k
came_job j k l m t u e = cc

pub came_tries : (j k : JobId) (l m : ℕ) (t u : List Mark) → Some (entry.Came j l t) ≡ Some (entry.Came k m u) → t ≡ u
came_tries j k l m t u e = cc
