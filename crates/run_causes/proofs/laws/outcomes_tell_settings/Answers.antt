use Rattle.run_causes.proofs.ByOutcomes.{claims_tell, outcomes_tell}
use Rattle.run_causes.proofs.laws.outcomes_tell_settings.Goals as goal

pub returns : goal.returns
returns c = record { outcomes = outcomes_tell; claims = claims_tell }
