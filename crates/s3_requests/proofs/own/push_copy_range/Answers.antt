use Rattle.std.proofs.Common.{◌≡◌, ◌∷◌, ◌++◌, ◌∙◌, ℕ, List, [], ap, codes, subst, sym}
use Rattle.s3_requests.specs.Headers.{copy_range_headers, range_text}
use Rattle.s3_requests.specs.declared.description.OwnHeaders.{OwnHeaders}
use Rattle.s3_signing.specs.Headers.{pairs_of}
use Rattle.s3_requests.proofs.own.push_copy_range.Goals as goal

pub returns-in-RangeCopy-clause-items : goal.returns-in-RangeCopy-clause-items
returns-in-RangeCopy-clause-items c =
    let old = pairs_of c.args.headers.now.items in
    subst (λ (h : OwnHeaders). c.args.range.now ≡ range_text h
    → pairs_of c.push.new.headers.items ≡ old ++ copy_range_headers h) (sym c.in-RangeCopy.is)
    (λ e. c.push.ensures.items ∙ ap (λ (v : List ℕ). old ++ (codes "x-amz-copy-source-range", v) ∷ []) e)
    c.requires.range
