use Rattle.std.proofs.Common.{arith}
use Rattle.answer_classes.proofs.Rows.{found_none, refused_by_document, refused_by_status, refused_head}
use Rattle.answer_classes.proofs.refusals.class_of_refusal.Goals as goal

pub returns-in-None : goal.returns-in-None
returns-in-None c =
    refused_by_status c.args.ask.now c.args.answered.now _ c.requires (found_none _ _ _ c.as_slice.ensures c.in-Ok.ensures c.in-None.is) c.class_of_status-in-None.ensures

pub returns-in-Some : goal.returns-in-Some
returns-in-Some c = grind (arith, refused_by_document, refused_head)
