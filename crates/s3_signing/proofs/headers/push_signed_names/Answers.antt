use Rattle.std.proofs.Common.{string_bytes, rules}
use Rattle.s3_signing.specs.Signing.{signed_names}
use Rattle.s3_signing.proofs.HeaderLemmas.{signed_names_step}
use Rattle.s3_signing.proofs.headers.push_signed_names.Goals as goal

pub loop-i-init : goal.loop-i-init
unfolding signed_names
loop-i-init c = search rules

pub loop-i-preserved : goal.loop-i-preserved
loop-i-preserved c =
    signed_names_step c.args.headers.now c.loop-i.i _ _ _ (string_bytes c.args.out.now) c.loop-i-test.true c.loop-i.invariant c.in_ok-push_piece.ensures
