use Rattle.jobs.proofs.AskLemmas as asks
use Rattle.jobs.proofs.ask.part_copy.Goals as goal

pub returns : goal.returns
returns c =
    asks.part_copy c.args.task.now _ _ c.in_ok-route.ensures.to _ _ c.in_ok-route.ensures.from _ c.in_ok-etag.ensures _ _ c.in_ok-upload.ensures c.args.number c.args.range _ c.ends.ensures
