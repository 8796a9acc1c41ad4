use Rattle.std.proofs.Common.{rules}
use Rattle.listing_rows.proofs.names.key_name.Goals as goal

pub returns-then-recursive : goal.returns-then-recursive
returns-then-recursive c = search rules

pub returns-else-recursive : goal.returns-else-recursive
returns-else-recursive c = search rules
