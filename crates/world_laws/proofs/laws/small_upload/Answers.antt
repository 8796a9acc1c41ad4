use Rattle.world_laws.proofs.SmallTransfers as transfers
use Rattle.world_laws.proofs.Witnesses.{upload_is_met}
use Rattle.world_laws.proofs.laws.small_upload.Goals as goal

pub returns-clause-stores : goal.returns-clause-stores
returns-clause-stores g c = transfers.upload_stores g.R.Reading.shows

pub returns-clause-whole : goal.returns-clause-whole
returns-clause-whole g c = transfers.upload_is_whole g.R.Reading.shows

pub returns-clause-met : goal.returns-clause-met
returns-clause-met g c = upload_is_met
