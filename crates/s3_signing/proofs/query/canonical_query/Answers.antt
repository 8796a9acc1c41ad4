use Rattle.std.proofs.Common.{◌∙◌, ap}
use Rattle.s3_signing.specs.Signing.{canonical_query, parameters}
use Rattle.s3_signing.proofs.query.canonical_query.Goals as goal

pub returns : goal.returns
unfolding canonical_query
returns c =
    c.in_ok-push_parameters.ensures ∙ rw (c.new-out.ensures.bytes, c.deref.ensures.value) (ap parameters c.in_ok-pairs.ensures)
