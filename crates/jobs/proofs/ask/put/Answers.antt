use Rattle.jobs.proofs.AskLemmas as asks
use Rattle.jobs.proofs.ask.put.Goals as goal

pub returns : goal.returns
returns c = asks.put _ _ _ c.in_ok-to.ensures _ c.in_ok-content.ensures
