use Rattle.world_laws.proofs.SmallTransfers as transfers
use Rattle.world_laws.proofs.Witnesses.{delete_is_met}
use Rattle.world_laws.proofs.laws.removal.Goals as goal

pub returns-clause-removes : goal.returns-clause-removes
returns-clause-removes g c = transfers.delete_removes_object g.R.Reading.shows

pub returns-clause-whole : goal.returns-clause-whole
returns-clause-whole g c = transfers.delete_is_whole g.R.Reading.shows

pub returns-clause-met : goal.returns-clause-met
returns-clause-met g c = delete_is_met
