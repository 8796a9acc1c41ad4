use Rattle.std.proofs.Common.{string_bytes}
use Rattle.s3_signing.proofs.HeaderLemmas.{canonical_headers_step}
use Rattle.s3_signing.proofs.headers.push_canonical_headers.Goals as goal

pub loop-header-preserved : goal.loop-header-preserved
loop-header-preserved c =
    canonical_headers_step c.args.headers.now c.loop-header.header-index _ _ _ (string_bytes c.args.out.now) c.loop-header-test.true c.loop-header.invariant c.in_ok-push_canonical_header.ensures
