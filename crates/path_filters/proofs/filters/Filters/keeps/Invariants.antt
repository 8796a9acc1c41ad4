use Rattle.std.proofs.Common.{◌≡◌, ◌++◌, List, length}
use Rattle.std.specs.Str.{chars}
use Rattle.path_filters.specs.declared.filters.Filter.{Filter}
use Rattle.path_filters.specs.Filters.{NoneMatches}
use Rattle.path_filters.proofs.filters.Filters.keeps.Given as goal

-- the filters behind those that are left do not match
abbrev pub invariant-loop-filter : goal.invariant-loop-filter
invariant-loop-filter l = (after : List Filter) × (l.self ≡ l.left ++ after) × NoneMatches after (chars l.rel)

abbrev pub decreases-loop-filter : goal.decreases-loop-filter
decreases-loop-filter l = length l.left
