use Rattle.world_laws.proofs.SmallTransfers as transfers
use Rattle.world_laws.proofs.Witnesses.{copies_is_met}
use Rattle.world_laws.proofs.laws.small_copy.Goals as goal

pub returns-clause-stores : goal.returns-clause-stores
returns-clause-stores g c = transfers.copy_stores_content g.R.Reading.shows

pub returns-clause-whole : goal.returns-clause-whole
returns-clause-whole g c = transfers.copy_is_whole g.R.Reading.shows

pub returns-clause-met : goal.returns-clause-met
returns-clause-met g c = copies_is_met
