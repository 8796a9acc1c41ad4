use Rattle.std.proofs.Common.{◌<◌, ◌≢◌, bit_xor, length, arith, get_or-set_other, get_or-set_same, below_more}
use Rattle.std.proofs.lemmas.List.{same_lists, get_or-map, length-map, length-set}
use Rattle.std.proofs.lemmas.Grind.{get_or_default_zero}
use Rattle.s3_signing.proofs.hmac.padded_by.Goals as goal

pub loop-i-preserved : goal.loop-i-preserved
loop-i-preserved c = record {
  long = simp length-set c.loop-i.invariant.long;
  below = below_more _ _
      (λ k h. let ne : k ≢ c.loop-i.i = omega arith in rw get_or-set_other (c.loop-i.invariant.below k h))
      (let lt : c.loop-i.i < length c.loop-i.padded = omega arith in rw get_or-set_same);
}

pub returns : goal.returns
returns c = same_lists _ _ (simp length-map (omega arith)) (λ k d inside.
    let below : k < c.loop-i.i = omega arith in
    let within : k < length c.args.block.now = omega arith in
    rw (get_or_default_zero c.loop-i.padded k d inside, get_or-map (λ b. bit_xor b c.args.pad) c.args.block.now k 0 d within) (c.loop-i.invariant.below k below))
