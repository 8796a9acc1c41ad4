use Rattle.std.proofs.Common.{◌++◌, ◌∙◌, ap, append_assoc, codes, string_bytes, sym}
use Rattle.std.specs.Prelude.{decimal}
use Rattle.std.proofs.lemmas.Result.{on_ok_weaker}
use Rattle.s3_signing.specs.Signing.{encode_query}
use Rattle.s3_requests.proofs.RequestLemmas.{part_query}
use Rattle.s3_requests.proofs.target.push_part_query.Goals as goal

pub returns : goal.returns
returns c =
    let old = string_bytes c.args.out.now in
    let number = codes "partNumber=" ++ encode_query (decimal c.args.number) in
    let upload = codes "&uploadId=" ++ encode_query c.args.upload.now in
    on_ok_weaker c.push_parameter.result
    (λ last. last ∙ ap (λ text. text ++ upload) c.in_ok-push_part_number.ensures ∙ append_assoc old number upload
    ∙ ap (λ query. old ++ query) (sym (part_query c.args.number c.args.upload.now))) c.push_parameter.ensures
