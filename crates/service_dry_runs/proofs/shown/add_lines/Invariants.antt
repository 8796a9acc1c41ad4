use Rattle.std.proofs.Common.{◌≡◌, ◌++◌, flat_map, string_bytes, take}
use Rattle.dry_runs.specs.Shown.{dry_line}
use Rattle.service_dry_runs.proofs.shown.add_lines.Given as goal

-- the lines of the tasks before this place were added
abbrev pub invariant-loop-task : goal.invariant-loop-task
invariant-loop-task l = string_bytes l.text ≡ string_bytes l.initial.text ++ flat_map (dry_line l.mode) (take l.task-index l.tasks)
