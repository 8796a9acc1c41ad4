use Rattle.jobs.proofs.AskLemmas as asks
use Rattle.jobs.proofs.ask.complete.Goals as goal

pub returns : goal.returns
returns c =
    asks.complete c.args.task.now _ _ c.in_ok-made.ensures.to _ _ c.in_ok-made.ensures.id _ _ _ c.in-Some.is c.in_ok-etags.ensures
