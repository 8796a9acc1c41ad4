use Rattle.std.proofs.Common.{◌≡◌, ℕ, ◌<◌, get_or}
use Rattle.reply_xml.proofs.places.common_front.Given as goal

-- the bytes passed are the same
abbrev pub invariant-loop-i : goal.invariant-loop-i
invariant-loop-i l = (k : ℕ) → k < l.i → get_or l.other k 0 ≡ get_or l.name k 0
