use Rattle.std.proofs.Common.{◌≡◌, ◌++◌, map, take}
use Rattle.service_plans.specs.Looked.{not_a_file}
use Rattle.service_plans.proofs.looked.add_others.Given as goal

-- those of the paths before this place were added
abbrev pub invariant-loop-path : goal.invariant-loop-path
invariant-loop-path l = l.warnings.items ≡ l.initial.warnings.items ++ map (not_a_file l.root) (take l.path-index l.others)
