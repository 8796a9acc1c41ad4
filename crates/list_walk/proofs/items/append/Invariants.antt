use Rattle.std.proofs.Common.{◌≡◌, ◌++◌, ◌≤◌}
use Rattle.std.specs.Vec.Iter.{into_iter_items, into_iter_len}
use Rattle.list_walk.proofs.items.append.Given as goal

-- the items that are left come behind those in the list, which has room for them
abbrev pub invariant-loop-item : goal.invariant-loop-item
invariant-loop-item g l =
    (l.list.items ++ into_iter_items l.item-iterator ≡ l.initial.list.items ++ l.fn.items.items)
    × (into_iter_len l.item-iterator ≤ l.list.spare)
