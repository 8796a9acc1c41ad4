use Rattle.std.proofs.Common.{◌∙◌}
use Rattle.run_transfers.proofs.StepLemmas.{both, stays, stays_on}
use Rattle.run_transfers.proofs.conductor.wait.Goals as goal

pub returns-in-Some-task-clause-free : goal.returns-in-Some-task-clause-free
returns-in-Some-task-clause-free g c =
    let was = c.in-Some.ensures.free in
    record {
      run = was.run;
      kept = stays c.cancel_failing.new.manager was.kept (c.cancel_failing.ensures.running _ _ _ was.kept.running);
      free = c.cancel_failing.ensures.due ∙ was.free;
    }

pub returns-in-Some-task-clause-goes_on : goal.returns-in-Some-task-clause-goes_on
returns-in-Some-task-clause-goes_on g c run k =
    let on = c.in-Some.ensures.goes_on run k in
    both on (stays_on c.cancel_failing.new.manager on.kept (c.cancel_failing.ensures.running _ _ _ on.kept.running))
