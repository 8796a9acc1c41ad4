use Rattle.result_lines.specs.Rows.{IsBucketRow}
use Rattle.listing_rows.proofs.RowLemmas.{adds_more}
use Rattle.listing_rows.proofs.text.add_buckets.Goals as goal

pub loop-bucket-preserved : goal.loop-bucket-preserved
loop-bucket-preserved c =
    adds_more IsBucketRow c.args.buckets.now c.loop-bucket.bucket-index c.bucket-item.result _ _ _ _ _ c.loop-bucket-test.true c.bucket-item.is c.loop-bucket.invariant c.in_ok-row.ensures
    c.in_ok-add.ensures
