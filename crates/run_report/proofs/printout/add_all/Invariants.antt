use Rattle.std.proofs.Common.{◌≡◌, ◌++◌, flat_map, string_bytes, take}
use Rattle.result_lines.specs.Warnings.{warning_line}
use Rattle.run_report.proofs.printout.add_all.Given as goal

-- the lines of those before this place were added
abbrev pub invariant-loop-warning : goal.invariant-loop-warning
invariant-loop-warning l = string_bytes l.text ≡ string_bytes l.initial.text ++ flat_map warning_line (take l.warning-index l.warnings)
