use Rattle.std.proofs.Common.{string_bytes, rules}
use Rattle.s3_model.specs.Documents.{part_elements}
use Rattle.s3_requests.proofs.BodyLemmas.{part_elements_step}
use Rattle.s3_requests.proofs.body.push_parts.Goals as goal

pub loop-i-init : goal.loop-i-init
unfolding part_elements
loop-i-init c = search rules

pub loop-i-preserved : goal.loop-i-preserved
loop-i-preserved c =
    part_elements_step c.args.etags.now c.loop-i.i _ _ _ (string_bytes c.args.out.now) c.loop-i-test.true c.loop-i.invariant c.in_ok-push_part.ensures c.index-etags-i.is
