use Rattle.std.proofs.Common.{◌≡◌, [], arith}
use Rattle.std.specs.Vec.Iter.{into_iter_items}
use Rattle.std.proofs.lemmas.List.{nil_from_length}
use Rattle.list_walk.proofs.ItemLemmas.{all_moved, one_moved}
use Rattle.list_walk.proofs.items.append.Goals as goal

pub loop-item-preserved : goal.loop-item-preserved
loop-item-preserved g c =
    let steps = c.in-Some.ensures.steps in (
      one_moved _ _ _ _ _ c.in-Some.item steps.0 c.push.ensures.items c.loop-item.invariant.0,
      omega (arith, steps.1, c.push.ensures.spare, c.loop-item.invariant.1),
    )

pub returns : goal.returns
returns g c =
    let none_left : into_iter_items c.loop-item.item-iterator ≡ [] =
    nil_from_length (into_iter_items c.loop-item.item-iterator)
    (omega (arith, c.in-None.ensures.steps.0, c.loop-item.item-iterator.rest.ok.0)) in
    all_moved _ _ _ none_left c.loop-item.invariant.0
