use Rattle.std.proofs.Common.{string_bytes, take}
use Rattle.result_lines.specs.Rows.{IsBucketRow}
use Rattle.listing_rows.specs.Listings.{AddsRows}
use Rattle.listing_rows.proofs.text.add_buckets.Given as goal

-- the rows of those before this place were added
abbrev pub invariant-loop-bucket : goal.invariant-loop-bucket
invariant-loop-bucket l = AddsRows IsBucketRow (take l.bucket-index l.buckets) (string_bytes l.initial.rows) (string_bytes l.rows)
