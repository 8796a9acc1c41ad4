use Rattle.answer_classes.proofs.Rows.{not_memory}
use Rattle.answer_classes.proofs.refusals.error_in.Goals as goal

pub returns-in_default : goal.returns-in_default
returns-in_default c = not_memory c.in-Err.fault c.in_default.not-Memory c.in-Err.ensures.refused
