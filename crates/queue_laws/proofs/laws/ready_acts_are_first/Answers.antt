use Rattle.queue_laws.proofs.ActLaws.{calls_are_first, givings_are_first}
use Rattle.queue_laws.proofs.laws.ready_acts_are_first.Goals as goal

pub returns : goal.returns
returns c = record { calls = calls_are_first; givings = givings_are_first }
