use Rattle.std.proofs.Common.{◌∷◌, ◌++◌, ◌∙◌, ℕ, List, [], ap, codes}
use Rattle.s3_requests.specs.Requests.{source_of}
use Rattle.s3_signing.proofs.JoinLemmas.{grown}
use Rattle.s3_signing.specs.Headers.{pairs_of}
use Rattle.s3_requests.proofs.own.push_source.Goals as goal

pub returns-clause-items : goal.returns-clause-items
returns-clause-items c =
    let old = pairs_of c.args.headers.now.items in
    let source = c.args.source.now in
    let first = c.push.ensures.items ∙ ap (λ (v : List ℕ). old ++ (codes "x-amz-copy-source", v) ∷ []) c.requires.text in
    grown old ((codes "x-amz-copy-source", source_of source.bucket.now source.key.now) ∷ []) _
    ((codes "x-amz-copy-source-if-match", source.etag.now) ∷ []) _ first c.push-2.ensures.items
