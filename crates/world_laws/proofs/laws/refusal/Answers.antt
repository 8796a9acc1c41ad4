use Rattle.world_laws.proofs.SmallTransfers as transfers
use Rattle.world_laws.proofs.Witnesses.{refusal_is_met}
use Rattle.world_laws.proofs.laws.refusal.Goals as goal

pub returns-clause-old : goal.returns-clause-old
returns-clause-old g c = transfers.old_after_refusals g.R.Reading.shows

pub returns-clause-met : goal.returns-clause-met
returns-clause-met g c = refusal_is_met
