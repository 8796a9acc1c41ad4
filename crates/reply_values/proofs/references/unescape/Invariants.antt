use Rattle.std.proofs.Common.{◌≡◌, ◌++◌, ℕ, List, length}
use denote.Text.{Utf8}
use denote.Shadow.{shadow}
use Rattle.std.specs.String.{string_bytes}
use Rattle.reply_values.specs.References.{IsUnescaped}
use Rattle.reply_values.proofs.references.unescape.Given as goal

abbrev pub invariant-loop-plain : goal.invariant-loop-plain
invariant-loop-plain l = shadow (Utf8 l.rest)
    × ((front : List ℕ) × (l.raw ≡ front ++ l.rest) × IsUnescaped front (string_bytes l.text))

abbrev pub decreases-loop-plain : goal.decreases-loop-plain
decreases-loop-plain l = length l.rest
