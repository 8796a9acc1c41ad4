use Rattle.std.proofs.Common.{◌+◌, ◌∙◌, ℕ, ap, arith}
use Rattle.std.proofs.lemmas.List.{take_all}
use Rattle.list_walk.proofs.ItemLemmas.{one_copied}
use Rattle.list_walk.proofs.items.copy_all.Goals as goal

pub loop-item-preserved : goal.loop-item-preserved
loop-item-preserved g c = (
  one_copied c.args.items.now c.loop-item.copies.items _ c.loop-item.item-index c.item-item.result _ (omega arith)
      c.item-item.is c.in_ok-duplicate.ensures c.loop-item.invariant.0 c.push_reserved.ensures.items,
  c.push_reserved.ensures.len ∙ ap (λ (n : ℕ). n + 1) c.loop-item.invariant.1,
  c.push_reserved.ensures.capacity ∙ c.loop-item.invariant.2,
)

pub returns : goal.returns
returns g c =
    c.loop-item.invariant.0 ∙ take_all c.loop-item.item-index c.args.items.now (omega (arith, c.loop-item-test.false))

pub push_reserved-requires : goal.push_reserved-requires
push_reserved-requires g c = omega (arith, c.loop-item.invariant.1, c.loop-item.invariant.2)
