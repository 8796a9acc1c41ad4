use Rattle.promise_examples.proofs.TwoPages.{two_pages_are_met}
use Rattle.promise_examples.proofs.runs.two_pages.Goals as goal

pub returns : goal.returns
returns c = two_pages_are_met
