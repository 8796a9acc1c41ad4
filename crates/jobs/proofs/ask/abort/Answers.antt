use Rattle.jobs.proofs.AskLemmas as asks
use Rattle.jobs.proofs.ask.abort.Goals as goal

pub returns : goal.returns
returns c = asks.abort c.args.task.now _ _ c.in_ok-made.ensures.to _ _ c.in_ok-made.ensures.id
