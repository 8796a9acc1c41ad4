use Rattle.std.proofs.Common.{List, ℕ, sym, subst}
use Rattle.s3_model.specs.declared.requests.Ask.{Ask}
use Rattle.s3_model.specs.declared.answers.Class.TheVariants as class
use Rattle.s3_model.specs.declared.answers.Reply.TheVariants as reply
use Rattle.answer_classes.specs.Showing.{HasClass}
use Rattle.answer_classes.proofs.Rows.{abort_removes, delete_removes, get_reads, put_stores}
use Rattle.answer_classes.proofs.classes.class_of_headers.Goals as goal

pub returns-in-Get : goal.returns-in-Get
returns-in-Get c =
    subst (λ (a : Ask). (document : List ℕ) → HasClass a c.args.answered document (class.Success (reply.Got c.args.answered.status c.args.answered.range c.args.answered.taken))) (sym c.in-Get.is)
    (get_reads c.in-Get.bucket c.in-Get.key c.in-Get.etag c.in-Get.range c.args.answered c.requires.success)

pub returns-in-Put : goal.returns-in-Put
returns-in-Put c =
    subst (λ (a : Ask). (document : List ℕ) → HasClass a c.args.answered document (class.Success reply.Stored)) (sym c.in-Put.is)
    (put_stores c.in-Put.bucket c.in-Put.key c.in-Put.content c.in-Put.fresh c.args.answered c.requires.success)

pub returns-in-Delete : goal.returns-in-Delete
returns-in-Delete c =
    subst (λ (a : Ask). (document : List ℕ) → HasClass a c.args.answered document (class.Success reply.Gone)) (sym c.in-Delete.is)
    (delete_removes c.in-Delete.bucket c.in-Delete.key c.args.answered c.requires.success)

pub returns-in-Abort : goal.returns-in-Abort
returns-in-Abort c =
    subst (λ (a : Ask). (document : List ℕ) → HasClass a c.args.answered document (class.Success reply.Gone)) (sym c.in-Abort.is)
    (abort_removes c.in-Abort.bucket c.in-Abort.key c.in-Abort.upload c.args.answered c.requires.success)
