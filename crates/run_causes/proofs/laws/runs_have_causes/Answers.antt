use Rattle.run_causes.proofs.Told.{runs_are_of_lanes, runs_have_causes}
use Rattle.run_causes.proofs.Witness.{cut_run_is_met, none_is_given_late}
use Rattle.run_causes.proofs.laws.runs_have_causes.Goals as goal

pub returns : goal.returns
returns c = record { causes = runs_have_causes; lanes = runs_are_of_lanes; met = cut_run_is_met; late = none_is_given_late }
