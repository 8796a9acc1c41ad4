use Rattle.answer_classes.proofs.OneShown.{one_shown}
use Rattle.answer_classes.proofs.law.one_shown.Goals as goal

pub returns : goal.returns
returns c = one_shown
