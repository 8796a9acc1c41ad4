use Rattle.std.proofs.Common.{rules, sym, subst}
use Rattle.s3_model.specs.declared.requests.Ask.{Ask}
use Rattle.s3_model.specs.declared.answers.Reply.{Reply}
use Rattle.reply_xml.specs.Faults.{Tells}
use Rattle.answer_classes.specs.Documents.{ReadsReply}
use Rattle.answer_classes.proofs.DocumentReplies.{buckets_refused, complete_refused, copy_refused, create_refused, list_refused, part_copy_refused}
use Rattle.answer_classes.proofs.replies.reply_of.Goals as goal

pub returns-in-Err-read_copied-clause-refused : goal.returns-in-Err-read_copied-clause-refused
returns-in-Err-read_copied-clause-refused c =
    subst (λ (a : Ask). Tells c.in-Err-read_copied.fault ((said : Reply) → ¬ (ReadsReply a c.args.doc.now said))) (sym c.in-PartCopy.is)
    (part_copy_refused c.in-PartCopy.bucket c.in-PartCopy.key c.in-PartCopy.upload c.in-PartCopy.number c.in-PartCopy.from_bucket c.in-PartCopy.from_key c.in-PartCopy.etag c.in-PartCopy.range c.args.doc.now c.in-Err-read_copied.fault c.in-Err-read_copied.ensures.refused)

pub returns-in-Err-created-clause-refused : goal.returns-in-Err-created-clause-refused
returns-in-Err-created-clause-refused c =
    subst (λ (a : Ask). Tells c.in-Err-created.fault ((said : Reply) → ¬ (ReadsReply a c.args.doc.now said))) (sym c.in-Create.is)
    (create_refused c.in-Create.bucket c.in-Create.key c.in-Create.content c.args.doc.now c.in-Err-created.fault c.in-Err-created.ensures.refused)

pub returns-in-Err-read_completed-clause-refused : goal.returns-in-Err-read_completed-clause-refused
returns-in-Err-read_completed-clause-refused c =
    subst (λ (a : Ask). Tells c.in-Err-read_completed.fault ((said : Reply) → ¬ (ReadsReply a c.args.doc.now said))) (sym c.in-Complete.is)
    (complete_refused c.in-Complete.bucket c.in-Complete.key c.in-Complete.upload c.in-Complete.etags c.in-Complete.fresh c.args.doc.now c.in-Err-read_completed.fault c.in-Err-read_completed.ensures.refused)

pub returns-in-Err-read_list-clause-refused : goal.returns-in-Err-read_list-clause-refused
returns-in-Err-read_list-clause-refused c =
    subst (λ (a : Ask). Tells c.in-Err-read_list.fault ((said : Reply) → ¬ (ReadsReply a c.args.doc.now said))) (sym c.in-List.is)
    (list_refused c.in-List.bucket c.in-List.prefix c.in-List.delimited c.in-List.token c.args.doc.now c.in-Err-read_list.fault c.in-Err-read_list.ensures.refused)

pub returns-in-Err-read_buckets-clause-refused : goal.returns-in-Err-read_buckets-clause-refused
returns-in-Err-read_buckets-clause-refused c =
    subst (λ (a : Ask). Tells c.in-Err-read_buckets.fault ((said : Reply) → ¬ (ReadsReply a c.args.doc.now said))) (sym c.in-Buckets.is)
    (buckets_refused c.args.doc.now c.in-Err-read_buckets.fault c.in-Err-read_buckets.ensures.refused)

pub returns-in-Err-clause-refused : goal.returns-in-Err-clause-refused
returns-in-Err-clause-refused c =
    subst (λ (a : Ask). Tells c.in-Err.fault ((said : Reply) → ¬ (ReadsReply a c.args.doc.now said))) (sym c.in-Copy.is)
    (copy_refused c.in-Copy.bucket c.in-Copy.key c.in-Copy.from_bucket c.in-Copy.from_key c.in-Copy.etag c.args.doc.now c.in-Err.fault c.in-Err.ensures.refused)

pub returns-in-Ok-read_copied-clause-value : goal.returns-in-Ok-read_copied-clause-value
returns-in-Ok-read_copied-clause-value c = search rules
