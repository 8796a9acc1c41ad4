use Rattle.std.proofs.Common.{◌<◌, ℕ}
use Rattle.local_files.specs.Changes.{IsFileAbove}
use Rattle.file_table.proofs.table.file_above.Given as goal

-- no file stands at an earlier place
abbrev pub invariant-loop-end : goal.invariant-loop-end
invariant-loop-end l = (n : ℕ) → n < l.end → IsFileAbove l.held l.path n → ⊥
