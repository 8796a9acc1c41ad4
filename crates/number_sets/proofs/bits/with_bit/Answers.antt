use Rattle.std.proofs.Common.{◌==◌, ℕ, ap, w64}
use Rattle.std.proofs.lemmas.Nat.Bits.{bit_at_clear_other, bit_at_clear_same, bit_at_set_other, bit_at_set_same}
use Rattle.number_sets.proofs.bits.with_bit.Goals as goal

pub returns-then-is_set-clause-same : goal.returns-then-is_set-clause-same
returns-then-is_set-clause-same c = rw c.if-is_set.true (ap (λ (b : ℕ). b == 1) (bit_at_set_same w64 c.args.word c.args.bit c.requires))

pub returns-then-is_set-clause-others : goal.returns-then-is_set-clause-others
returns-then-is_set-clause-others c i below other = bit_at_set_other w64 c.args.word c.args.bit c.requires i other

pub returns-else-is_set-clause-same : goal.returns-else-is_set-clause-same
returns-else-is_set-clause-same c = rw c.if-is_set.false (ap (λ (b : ℕ). b == 1) (bit_at_clear_same w64 c.args.word c.args.bit c.requires))

pub returns-else-is_set-clause-others : goal.returns-else-is_set-clause-others
returns-else-is_set-clause-others c i below other = bit_at_clear_other w64 c.args.word c.args.bit c.requires i below other
