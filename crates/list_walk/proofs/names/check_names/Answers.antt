use Rattle.std.proofs.Common.{arith}
use Rattle.list_walk.proofs.ItemLemmas.{all_passed, fault_past, name_passed, name_refused}
use Rattle.list_walk.proofs.names.check_names.Goals as goal

pub loop-item-preserved : goal.loop-item-preserved
loop-item-preserved g c =
    name_passed g.T.Item.name_of _ _ c.args.items.now c.loop-item.item-index c.item-item.result _ _ _ (omega arith)
    c.item-item.is c.name.ensures c.name-in-loop-item.ensures c.in_ok-check_name.ensures.ok c.loop-item.invariant

pub returns-in_err-check_name-clause-err : goal.returns-in_err-check_name-clause-err
returns-in_err-check_name-clause-err g c =
    fault_past _ c.from_residual.result c.in_err-check_name.field-0.0 c.from_residual.ensures.1
    (λ other. name_refused g.T.Item.name_of _ _ c.args.items.now c.loop-item.item-index c.item-item.result _ _ _
    (omega arith) c.item-item.is c.name.ensures (c.in_err-check_name.ensures.err other) c.loop-item.invariant)

pub returns-clause-ok : goal.returns-clause-ok
returns-clause-ok g c =
    all_passed g.T.Item.name_of _ _ c.args.items.now c.loop-item.item-index _ (omega (arith, c.loop-item-test.false))
    c.loop-item.invariant
