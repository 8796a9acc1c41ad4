use Rattle.std.proofs.Common.{◌≡◌, ℕ, Bool, true, false, cond, Some, None, take, ap, ◌∙◌, refl, ltb, length}
use Rattle.std.specs.Bool.{then_some}
use Rattle.std.proofs.lemmas.List.{take_min}
use Rattle.s3_paths.proofs.uris.bad_place.Goals as goal

then_some-cond : (b : Bool) (n : ℕ) → then_some b n ≡ cond b (Some n) None
then_some-cond true n = refl
then_some-cond false n = refl

pub returns : goal.returns
returns c =
    let bucket = c.args.bucket.now in
    let front = ap (λ n. take n bucket) c.min.ensures ∙ take_min 255 bucket in
    let long = then_some-cond (ltb 255 (length bucket)) 255 in
    cc
