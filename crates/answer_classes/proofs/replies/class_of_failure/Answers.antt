use Rattle.answer_classes.proofs.Rows.{found_error, found_none}
use Rattle.answer_classes.proofs.DocumentReplies.{late, no_error}
use Rattle.answer_classes.proofs.replies.class_of_failure.Goals as goal

pub returns-in-Some : goal.returns-in-Some
returns-in-Some c =
    late c.args.ask.now c.args.answered.now _ _ _ c.requires.success (c.may_fail_late.ensures.0 c.if-not-may_fail_late.false)
    (found_error _ _ _ c.in-Some.code c.in-Some.message c.as_slice.ensures c.in-Ok.ensures c.in-Some.is) c.class_of_code.ensures

pub returns-in-None : goal.returns-in-None
returns-in-None c =
    no_error c.args.ask.now c.args.answered.now c.requires.success c.requires.needs c.requires.lacks
    (found_none _ _ _ c.as_slice.ensures c.in-Ok.ensures c.in-None.is)
