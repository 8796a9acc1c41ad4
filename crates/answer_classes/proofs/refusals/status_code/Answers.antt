use Rattle.std.proofs.Common.{rules}
use Rattle.answer_classes.proofs.refusals.status_code.Goals as goal

pub returns : goal.returns
returns c = search rules
