use Rattle.std.proofs.Common.{◌∙◌, ap}
use Rattle.s3_signing.specs.Pairs.{sort_pairs}
use Rattle.s3_signing.proofs.query.escaped_in_order.Goals as goal

pub returns : goal.returns
returns c = c.in_ok-sort.ensures ∙ ap sort_pairs c.in_ok-pairs.ensures
