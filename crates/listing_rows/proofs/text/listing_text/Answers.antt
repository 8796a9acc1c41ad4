use Rattle.std.proofs.Common.{rules}
use Rattle.listing_rows.proofs.text.listing_text.Goals as goal

pub returns : goal.returns
returns c = search rules
