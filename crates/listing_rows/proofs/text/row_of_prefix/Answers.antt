use Rattle.std.proofs.Common.{rules}
use Rattle.listing_rows.proofs.text.row_of_prefix.Goals as goal

pub returns : goal.returns
returns c = search rules
