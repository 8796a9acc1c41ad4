use Rattle.std.proofs.Common.{refl}
use Rattle.manager_moves.specs.Runs.{Lined}
use Rattle.run_rows.proofs.RunLemmas.{goes_on, is_due}
use Rattle.run_rows.proofs.runs.conductor.Conductor.line.Goals as goal

pub lined-requires : goal.lined-requires
lined-requires c = (c.args.task, is_due c.requires)

pub returns : goal.returns
returns c =
    let k = c.requires.kept in
    goes_on k Lined refl (c.lined.ensures.running k.start k.s k.events k.running) c.lined.ensures.free
