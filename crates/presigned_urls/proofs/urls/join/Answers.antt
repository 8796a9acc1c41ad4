use Rattle.std.proofs.Common.{◌≡◌, ◌∙◌, codes}
use Rattle.std.proofs.lemmas.Result.{IfOk-weaker}
use Rattle.presigned_urls.specs.Parts.{url_with}
use Rattle.presigned_urls.proofs.QueryLemmas.{seven_joined}
use Rattle.presigned_urls.proofs.urls.join.Goals as goal

pub returns : goal.returns
returns c =
    IfOk-weaker c.joined.result _ (λ text. text ≡ url_with c.args.host.now c.args.path.now c.args.query.now c.args.signature.now)
    (λ text is. is ∙ seven_joined (codes "http://") c.args.host.now c.args.path.now (codes "?") c.args.query.now (codes "&X-Amz-Signature=") c.args.signature.now)
    c.joined.ensures
