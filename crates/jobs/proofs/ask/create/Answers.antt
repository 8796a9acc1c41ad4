use Rattle.jobs.proofs.AskLemmas as asks
use Rattle.jobs.proofs.ask.create.Goals as goal

pub returns : goal.returns
returns c = asks.create _ _ _ c.in_ok-to.ensures _ c.in_ok-content.ensures
