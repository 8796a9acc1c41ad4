use Rattle.jobs.proofs.AskLemmas as asks
use Rattle.jobs.proofs.ask.copy.Goals as goal

pub returns : goal.returns
returns c = asks.copy c.args.task.now _ _ c.in_ok-route.ensures.to _ _ c.in_ok-route.ensures.from _ c.in_ok-etag.ensures
