use Rattle.std.proofs.Common.{rules}
use Rattle.s3_replies.proofs.listing.UrlNameLeaf.value_of.Goals as goal

pub returns-clause-value : goal.returns-clause-value
returns-clause-value c = search rules

pub returns-then-ne-clause-value : goal.returns-then-ne-clause-value
returns-then-ne-clause-value c = tt
