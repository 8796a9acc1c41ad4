use Rattle.std.proofs.Common.{◌≡◌, ◌<◌, ◌==◌, ◌-◌, ◌∙◌, true, length, get_or, arith, drop, take, eq-eqb}
use Rattle.std.proofs.lemmas.Grind.{common_steps}
use Rattle.s3_model.proofs.ContentTypes.{after_last_is}
use Rattle.s3_model.proofs.content_types.tail.Goals as goal
use Rattle.s3_model.proofs.content_types.tail.Goals.{then-loop-start-test+else-bytes-start, else-loop-start-test}

pub returns : goal.returns
returns c =
    let here : 0 < c.loop-start.start → (get_or c.args.bytes.now (c.loop-start.start - 1) 0 == c.args.stop) ≡ true =
    elim c.loop-start-test.branch [ then-loop-start-test+else-bytes-start w ↦ (λ _. eq-eqb _ _ w.if-bytes-start.false) | else-loop-start-test w ↦ (λ some. absurd (omega arith)) ] in
    let whole : take (length c.args.bytes.now - c.loop-start.start) (drop c.loop-start.start c.args.bytes.now) ≡ drop c.loop-start.start c.args.bytes.now =
    grind (arith, common_steps) in
    whole ∙ after_last_is c.args.bytes.now c.args.stop c.loop-start.start c.loop-start.invariant.inside c.loop-start.invariant.others here
