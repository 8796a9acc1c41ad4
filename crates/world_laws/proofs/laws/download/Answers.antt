use Rattle.world_laws.proofs.Downloads as downloads
use Rattle.world_laws.proofs.GetWitness.{get_is_met, ranges_are_met}
use Rattle.world_laws.proofs.laws.download.Goals as goal

pub returns-clause-whole : goal.returns-clause-whole
returns-clause-whole g c = downloads.whole_tells g.R.Reading.shows

pub returns-clause-ranges : goal.returns-clause-ranges
returns-clause-ranges g c = downloads.ranges_tell g.R.Reading.shows

pub returns-clause-met : goal.returns-clause-met
returns-clause-met g c = get_is_met

pub returns-clause-met_in_ranges : goal.returns-clause-met_in_ranges
returns-clause-met_in_ranges g c = ranges_are_met
