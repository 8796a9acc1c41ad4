use Rattle.std.proofs.Common.{◌≡◌, map, take}
use Rattle.tree_walk.specs.Finding.{entry_in}
use Rattle.tree_walk.proofs.answers.entries_of.Given as goal

-- the entries of the keys so far
abbrev pub invariant-loop-key : goal.invariant-loop-key
invariant-loop-key l = l.entries.items ≡ map (entry_in l.files) (take l.key-index l.key-items)
