use Rattle.manager_core.proofs.ShownRuns.{in_steps}
use Rattle.run_transfers.proofs.cells.cancel_failing.Goals as goal

pub cancel_cell-requires : goal.cancel_cell-requires
cancel_cell-requires c =
    let r = c.requires in in_steps r.start r.s r.events c.args.manager.now r.running c.args.task r.work r.there
