use Rattle.sync_plan.proofs.DraftLemmas.{removals_end, removals_step}
use Rattle.sync_plan.proofs.draft.removals.Goals as goal

pub loop-entry-preserved : goal.loop-entry-preserved
loop-entry-preserved c =
    removals_step c.args.errand.now c.args.entries.now c.loop-entry.entry-index c.entry-item.result c.loop-entry.tasks.items c.add_removed.new.tasks.items _
    c.loop-entry-test.true c.entry-item.is c.in_ok-add_removed.ensures c.loop-entry.invariant

pub returns : goal.returns
returns c = removals_end c.args.errand.now c.args.entries.now c.loop-entry.entry-index c.loop-entry.tasks.items _ c.loop-entry-test.false c.loop-entry.invariant
