use Rattle.service_plans.proofs.NeedLemmas.{plans_ask_for_needs}
use Rattle.service_plans.proofs.laws.plans_ask_for_needs.Goals as goal

pub returns : goal.returns
returns c = plans_ask_for_needs
