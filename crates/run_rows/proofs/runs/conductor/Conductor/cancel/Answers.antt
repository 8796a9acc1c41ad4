use Rattle.std.proofs.Common.{refl}
use Rattle.manager_moves.specs.Runs.{Stopped}
use Rattle.run_rows.proofs.RunLemmas.{can_go_on, goes_on}
use Rattle.run_rows.proofs.runs.conductor.Conductor.cancel.Goals as goal

pub cancel_all-requires-clause-goes_on : goal.cancel_all-requires-clause-goes_on
cancel_all-requires-clause-goes_on c = can_go_on c.requires.free

pub returns : goal.returns
returns c =
    let k = c.requires.free.kept in
    goes_on k (Stopped c.args.reason) refl (c.cancel_all.ensures.running k.start k.s k.events k.running)
    c.cancel_all.ensures.free
