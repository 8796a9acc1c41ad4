use Rattle.std.proofs.Common.{◌≡◌, ◌<◌, ◌∙◌, ◌*◌, ◌^◌, ◌+◌, ℕ, ap, subst, sym, arith, add-one, below_more}
use Rattle.std.proofs.Math.Nat.{pow-suc}
use Rattle.s3_model.specs.Parts.{piece_count}
use Rattle.chunk_plan.proofs.Counts.{div_ceil_is}
use Rattle.chunk_plan.proofs.chunks.first_fitting.Goals as goal

pub loop-found-preserved : goal.loop-found-preserved
loop-found-preserved c =
    let k = c.loop-found.invariant.0 in
    let found_is = c.loop-found.invariant.1 in
    let more : c.args.most < piece_count c.args.size c.loop-found.found = let is = div_ceil_is c.args.size c.loop-found.found c.loop-found.invariant.2 in omega arith in
    let doubled : c.args.chunk * 2 ^ (k + 1) ≡ (c.args.chunk * 2 ^ k) * 2 = let power : 2 ^ (k + 1) ≡ 2 ^ k * 2 = rw add-one (pow-suc 2 k) in ap (λ m. c.args.chunk * m) power ∙ omega arith in
    (k + 1, ap (λ m. m * 2) found_is ∙ sym doubled, omega arith, below_more _ _ c.loop-found.invariant.3 (subst (λ (m : ℕ). c.args.most < piece_count c.args.size m) found_is more))
