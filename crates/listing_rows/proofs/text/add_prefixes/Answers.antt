use Rattle.listing_rows.specs.Listings.{IsPrefixRow}
use Rattle.listing_rows.proofs.RowLemmas.{adds_more}
use Rattle.listing_rows.proofs.text.add_prefixes.Goals as goal

pub loop-prefix-preserved : goal.loop-prefix-preserved
loop-prefix-preserved c =
    adds_more (IsPrefixRow c.args.recursive) c.args.prefixes.now c.loop-prefix.prefix-index c.prefix-item.result _ _ _ _ _ c.loop-prefix-test.true c.prefix-item.is c.loop-prefix.invariant c.in_ok-row.ensures
    c.in_ok-add.ensures
