use Rattle.std.proofs.Common.{string_bytes, rules}
use Rattle.s3_signing.specs.Signing.{parameters}
use Rattle.s3_signing.proofs.HeaderLemmas.{parameters_step}
use Rattle.s3_signing.proofs.query.push_parameters.Goals as goal

pub loop-i-init : goal.loop-i-init
unfolding parameters
loop-i-init c = search rules

pub loop-i-preserved : goal.loop-i-preserved
loop-i-preserved c =
    parameters_step c.args.pairs.now c.loop-i.i _ _ _ (string_bytes c.args.out.now) c.loop-i-test.true c.loop-i.invariant c.in_ok-push_parameter.ensures c.index-pairs-i.is
