use Rattle.jobs.proofs.AskLemmas as asks
use Rattle.jobs.proofs.ask.get.Goals as goal

pub returns : goal.returns
returns c = asks.get _ _ _ c.in_ok-from.ensures _ c.args.number c.args.range _ c.in_ok-etag.ensures c.range_of_get.ensures
