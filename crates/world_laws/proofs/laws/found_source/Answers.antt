use Rattle.world_laws.proofs.GetWitness.{head_is_met, page_is_met}
use Rattle.world_laws.proofs.Sources.{found_has_size, found_is_source}
use Rattle.world_laws.proofs.laws.found_source.Goals as goal

pub returns-clause-size : goal.returns-clause-size
returns-clause-size g c = found_has_size g.R.Reading.shows

pub returns-clause-source : goal.returns-clause-source
returns-clause-source g c = found_is_source g.R.Reading.shows

pub returns-clause-met_head : goal.returns-clause-met_head
returns-clause-met_head g c = head_is_met

pub returns-clause-met_page : goal.returns-clause-met_page
returns-clause-met_page g c = page_is_met
