use Rattle.std.proofs.Common.{◌≤◌, ◌++◌, rules, refl, ap, ◌∙◌, take, drop, length, arith}
use Rattle.s3_model.specs.Lists.{with_bytes}
use Rattle.s3_model.proofs.Lending.{take_of_refilled}
use Rattle.s3_model.proofs.bytes.Bytes.as_mut_slice.Goals as goal

-- src/bytes.rt:84:5
pub returns : goal.returns
returns c =
    let b = c.self.inside in
    let xs = b.inner.items in (
      (
        refl,
        λ w.
            let within : b.count ≤ length xs = omega (arith, b.inner.ok.0, c.self.invariant.0) in
            let ws = w ++ drop (length w) xs in
            let bytes = ap (λ n. take b.count (take n (ws ++ drop (length ws) xs))) b.inner.ok.0
            ∙ take_of_refilled xs w (drop (length ws) xs) b.count within in
            (λ i. record { bytes = bytes i; room = b.room }) ∙ ap (λ f. with_bytes f w) c.self.view_is,
      ),
      record { writes_back = tt; value = search rules },
    )
