use Rattle.std.proofs.Common.{◌≡◌, ◌-◌, ◌^◌, min, take}
use Rattle.std.specs.FinMap.{get}
use Rattle.std.specs.List.{sum_by}
use Rattle.std.specs.Option.{unwrap_or}
use Rattle.tree_walk.proofs.answers.sum_of.Given as goal

-- the sum of the counts so far
abbrev pub invariant-loop-key : goal.invariant-loop-key
invariant-loop-key l = l.sum ≡ min (sum_by (λ key. unwrap_or (get l.counts key) 0) (take l.key-index l.key-items)) (2 ^ 64 - 1)
