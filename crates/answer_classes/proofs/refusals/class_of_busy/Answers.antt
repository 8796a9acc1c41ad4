use Rattle.answer_classes.proofs.Rows.{busy_by_document, found_error, found_none, not_busy}
use Rattle.answer_classes.proofs.refusals.class_of_busy.Goals as goal

pub returns-in-Some : goal.returns-in-Some
returns-in-Some c asked =
    busy_by_document asked c.args.answered.now _ _ _ c.requires
    (found_error _ _ _ c.in-Some.code c.in-Some.message c.as_slice.ensures c.in-Ok.ensures c.in-Some.is) c.class_of_code.ensures

pub returns-in-None : goal.returns-in-None
returns-in-None c asked = not_busy asked c.args.answered.now c.requires (found_none _ _ _ c.as_slice.ensures c.in-Ok.ensures c.in-None.is)
