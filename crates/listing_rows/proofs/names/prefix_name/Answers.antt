use Rattle.std.proofs.Common.{rules}
use Rattle.listing_rows.proofs.names.prefix_name.Goals as goal

pub returns : goal.returns
returns c = search rules
