use Rattle.service_listings.proofs.NeedLemmas.{paths_are_planned}
use Rattle.service_listings.proofs.laws.paths_are_planned.Goals as goal

pub returns : goal.returns
returns c = paths_are_planned
