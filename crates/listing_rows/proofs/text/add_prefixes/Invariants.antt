use Rattle.std.proofs.Common.{string_bytes, take}
use Rattle.listing_rows.specs.Listings.{AddsRows, IsPrefixRow}
use Rattle.listing_rows.proofs.text.add_prefixes.Given as goal

-- the rows of those before this place were added
abbrev pub invariant-loop-prefix : goal.invariant-loop-prefix
invariant-loop-prefix l = AddsRows (IsPrefixRow l.recursive) (take l.prefix-index l.prefixes) (string_bytes l.initial.rows) (string_bytes l.rows)
