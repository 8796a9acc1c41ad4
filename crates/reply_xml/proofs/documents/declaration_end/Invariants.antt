use Rattle.std.proofs.Common.{ℕ, ◌<◌, ◌+◌}
use Rattle.reply_xml.specs.Documents.{EndsAt}
use Rattle.reply_xml.proofs.documents.declaration_end.Given as goal

abbrev pub invariant-loop-i : goal.invariant-loop-i
invariant-loop-i l = (k : ℕ) → k + 1 < l.i → ¬ (EndsAt l.bytes k)
