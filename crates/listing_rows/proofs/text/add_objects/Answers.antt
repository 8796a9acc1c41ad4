use Rattle.listing_rows.specs.Listings.{IsObjectRow}
use Rattle.listing_rows.proofs.RowLemmas.{adds_more}
use Rattle.listing_rows.proofs.text.add_objects.Goals as goal

pub loop-entry-preserved : goal.loop-entry-preserved
loop-entry-preserved c =
    adds_more (IsObjectRow c.args.recursive) c.args.entries.now c.loop-entry.entry-index c.entry-item.result _ _ _ _ _ c.loop-entry-test.true c.entry-item.is c.loop-entry.invariant c.in_ok-row.ensures
    c.in_ok-add.ensures
