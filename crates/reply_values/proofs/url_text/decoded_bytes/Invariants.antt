use Rattle.std.proofs.Common.{◌≡◌, ◌++◌, ℕ, List, length}
use Rattle.reply_values.specs.Spelling.{Spells}
use Rattle.reply_values.specs.UrlText.{StandsForByte}
use Rattle.reply_values.proofs.url_text.decoded_bytes.Given as goal

abbrev pub invariant-pieces : goal.invariant-pieces
invariant-pieces l = (front : List ℕ) × (l.text ≡ front ++ l.rest) × Spells StandsForByte front l.bytes.items

abbrev pub decreases-pieces : goal.decreases-pieces
decreases-pieces l = length l.rest
