use Rattle.std.proofs.Common.{◌≡◌, ◌++◌, take}
use Rattle.service_dry_runs.proofs.warnings.add_copies.Given as goal

-- those before this place were added
abbrev pub invariant-loop-warning : goal.invariant-loop-warning
invariant-loop-warning l = l.warnings.items ≡ l.initial.warnings.items ++ take l.warning-index l.more
