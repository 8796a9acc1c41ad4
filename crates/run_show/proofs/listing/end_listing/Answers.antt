use Rattle.std.proofs.Common.{rules}
use Rattle.run_show.proofs.listing.end_listing.Goals as goal

pub returns-in-Ok-clause-made : goal.returns-in-Ok-clause-made
returns-in-Ok-clause-made c = search rules
