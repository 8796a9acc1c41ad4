use Rattle.run_causes.proofs.NotByFailing.{none_is_cancelled_by_failing}
use Rattle.run_causes.proofs.laws.none_is_cancelled_by_failing.Goals as goal

pub returns : goal.returns
returns c = record { none = none_is_cancelled_by_failing }
