use Rattle.std.proofs.Common.{◌∙◌, ◌++◌, ◌<◌, List, [], ◌∷◌, Option, None, get_or, length}
use Rattle.std.proofs.Common.{length-set, take, ap, sym, arith}
use Rattle.std.proofs.lemmas.List.{get_or-set_other, get_or_default, take_more}
use Rattle.s3_model.specs.declared.outcomes.Outcome.{Outcome}
use Rattle.manager_core.proofs.ending.collect.Goals as goal

pub loop-index-preserved : goal.loop-index-preserved
loop-index-preserved c =
    let ended = c.args.ended.now in
    let index = c.loop-index.index in
    let inv = c.loop-index.invariant in
    let here : index < length ended = omega (arith, inv.end, c.loop-index-test.true) in
    record {
      given = c.give.ensures.items
          ∙ ap (λ (xs : List (Option Outcome)). xs ++ get_or c.loop-index.ended index c.index-ended-index.result ∷ [])
          inv.given
          ∙ ap (λ (x : Option Outcome). take index ended ++ x ∷ [])
          (get_or_default c.loop-index.ended index c.index-ended-index.result None (omega (arith, here, inv.long))
          ∙ inv.rest index (omega arith))
          ∙ sym (take_more ended index None here);
      rest = λ j from. get_or-set_other c.loop-index.ended index j c.give.new.ended None (λ is. omega arith)
          ∙ inv.rest j (omega arith);
      long = length-set c.loop-index.ended index c.give.new.ended ∙ inv.long;
      end = inv.end;
      spare = omega (arith, inv.spare, c.give.ensures.spare);
    }
