use Rattle.jobs.proofs.AskLemmas as asks
use Rattle.jobs.proofs.ask.part.Goals as goal

pub returns : goal.returns
returns c = asks.part c.args.task.now _ _ c.in_ok-made.ensures.to _ _ c.in_ok-made.ensures.id c.args.number
