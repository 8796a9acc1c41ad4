use Rattle.std.proofs.Common.{◌≡◌, ◌<◌, ℕ, bit_xor, get_or, length}
use Rattle.s3_signing.proofs.hmac.padded_by.Given as goal

abbrev pub invariant-loop-i : goal.invariant-loop-i
invariant-loop-i l = record {
  long : length l.padded ≡ 64;
  below : (k : ℕ) → k < l.i → get_or l.padded k 0 ≡ bit_xor (get_or l.block k 0) l.pad;
}
