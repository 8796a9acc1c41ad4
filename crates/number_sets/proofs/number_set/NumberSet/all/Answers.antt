use Rattle.std.proofs.Common.{◌∙◌, Bool, List, true, false, get_or, length, length-set, arith, ap, inl, inr}
use Rattle.std.proofs.lemmas.Bool.{cases_eq}
use Rattle.std.proofs.lemmas.List.{get_or-set_same, get_or-set_other}
use Rattle.number_sets.proofs.Changes.{all_members}
use Rattle.number_sets.proofs.number_set.NumberSet.all.Goals as goal

pub loop-number-preserved : goal.loop-number-preserved
loop-number-preserved c =
    let is = c.loop-number.invariant in
    let number = c.loop-number.number in
    record {
      long = ap (λ (bs : List Bool). length bs) c.put.ensures ∙ length-set c.loop-number.set number true ∙ is.long;
      members = λ k below. ap (λ (bs : List Bool). get_or bs k false) c.put.ensures ∙ elim (cases_eq k number) [
        | inl e ↦ rw e (get_or-set_same c.loop-number.set number true false (omega (arith, is.long, c.loop-number-test.true)))
        | inr other ↦ get_or-set_other c.loop-number.set number k true false other ∙ is.members k (omega arith)
      ];
    }

pub returns : goal.returns
returns c =
    let is = c.loop-number.invariant in
    all_members c.loop-number.set c.args.count is.long (λ k below. is.members k (omega (arith, below, c.loop-number-test.false)))
