use Rattle.task_outcomes.proofs.Outcomes.{outcomes_have_causes}
use Rattle.task_outcomes.proofs.Witness.{told_is_met}
use Rattle.task_outcomes.proofs.laws.outcomes_have_causes.Goals as goal

pub returns : goal.returns
returns g c = record { causes = outcomes_have_causes g.C.Reading.shows g.C.Command.has_status g.C.Command.call_failed; met = told_is_met }
