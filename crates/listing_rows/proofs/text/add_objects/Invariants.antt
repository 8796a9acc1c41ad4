use Rattle.std.proofs.Common.{string_bytes, take}
use Rattle.listing_rows.specs.Listings.{AddsRows, IsObjectRow}
use Rattle.listing_rows.proofs.text.add_objects.Given as goal

-- the rows of those before this place were added
abbrev pub invariant-loop-entry : goal.invariant-loop-entry
invariant-loop-entry l = AddsRows (IsObjectRow l.recursive) (take l.entry-index l.entries) (string_bytes l.initial.rows) (string_bytes l.rows)
