use Rattle.std.proofs.Common.{refl}
use Rattle.manager_moves.specs.Runs.{Made}
use Rattle.run_rows.proofs.RunLemmas.{goes_on, is_due}
use Rattle.run_rows.proofs.runs.conductor.Conductor.make_task.Goals as goal

pub made-requires : goal.made-requires
made-requires c = is_due c.requires

pub returns : goal.returns
returns c =
    let k = c.requires.kept in
    let after = c.made.ensures.running k.start k.s k.events k.running in
    goes_on k (Made after.0) refl after.1 c.made.ensures.free
