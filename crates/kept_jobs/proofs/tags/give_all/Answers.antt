use Rattle.std.proofs.Common.{◌≡◌, ◌∙◌, ◌++◌, ◌+◌, ◌<◌, ℕ, suc, List, [], ◌∷◌, Option, None, get_or, length, length-set, take, ap, sym, arith, append_assoc}
use Rattle.std.proofs.lemmas.List.{get_or-set_other, get_or_default}
use Rattle.kept_jobs.specs.Tags.{present}
use Rattle.kept_jobs.proofs.TagLemmas.{present_one}
use Rattle.kept_jobs.proofs.tags.give_all.Goals as goal

pub loop-index-preserved : goal.loop-index-preserved
loop-index-preserved c =
    let tags = c.args.tags.now in
    let index = c.loop-index.index in
    let inv = c.loop-index.invariant in
    record {
      given =
          let here : index < length tags = omega (arith, inv.end, c.loop-index-test.true) in
          let next : suc index ≡ index + 1 = omega arith in
          c.give.ensures.items
          ∙ ap (λ (xs : List (List ℕ)). xs ++ present (get_or c.loop-index.tags index c.index-tags-index.result ∷ [])) inv.given
          ∙ append_assoc c.args.texts.now.items (present (take index tags)) (present (get_or c.loop-index.tags index c.index-tags-index.result ∷ []))
          ∙ ap (λ (x : Option (List ℕ)). c.args.texts.now.items ++ (present (take index tags) ++ present (x ∷ []))) (get_or_default c.loop-index.tags index c.index-tags-index.result None (omega (arith, here, inv.long)) ∙ inv.rest index (omega arith))
          ∙ ap (λ (xs : List (List ℕ)). c.args.texts.now.items ++ xs) (sym (present_one tags index here))
          ∙ ap (λ (i : ℕ). c.args.texts.now.items ++ present (take i tags)) next;
      rest = λ j from. get_or-set_other c.loop-index.tags index j c.give.new.tag None (λ is. omega arith) ∙ inv.rest j (omega arith);
      long = length-set c.loop-index.tags index c.give.new.tag ∙ inv.long;
      end = inv.end;
      spare = omega (arith, inv.spare, c.give.ensures.spare);
    }
