use Rattle.answer_classes.proofs.OneReading.{one_reading}
use Rattle.answer_classes.proofs.law.one_reading.Goals as goal

pub returns : goal.returns
returns c = one_reading
