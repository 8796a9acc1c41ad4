use Rattle.std.proofs.Common.{◌≡◌, ◌+◌, ◌≤◌, take, length}
use Rattle.jobs.proofs.ask.copy_all.Given as goal

abbrev pub invariant-loop-text : goal.invariant-loop-text
invariant-loop-text l = (l.copies.items ≡ take l.text-index l.texts.items) × (length l.texts.items ≤ l.text-index + l.copies.spare)
