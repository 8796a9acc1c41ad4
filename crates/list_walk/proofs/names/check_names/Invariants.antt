use Rattle.std.proofs.Common.{◌≡◌, drop, map, option_copied}
use Rattle.list_walk.specs.Pages.{names_fault}
use Rattle.list_walk.proofs.names.check_names.Given as goal

-- the items that are left have the fault of all
abbrev pub invariant-loop-item : goal.invariant-loop-item
invariant-loop-item g l =
    names_fault l.prefix (option_copied l.last) (map g.T.Item.name_of (drop l.item-index l.items)) ≡ names_fault l.prefix (option_copied l.before) (map g.T.Item.name_of l.items)
