use Rattle.std.proofs.Common.{◌++◌, ◌∙◌, ℕ, List, Option, ap, codes, string_bytes, sym}
use Rattle.std.proofs.lemmas.Result.{on_ok_weaker}
use Rattle.s3_signing.specs.Signing.{encode_query}
use Rattle.presigned_urls.specs.Parts.{token_parameter}
use Rattle.presigned_urls.proofs.parameters.push_token.Goals as goal

pub returns-in-Some : goal.returns-in-Some
returns-in-Some c =
    let old = string_bytes c.args.out.now in
    on_ok_weaker c.push_parameter.result
    (λ last. last
    ∙ ap (λ (v : List ℕ). old ++ (codes "&X-Amz-Security-Token=" ++ encode_query v)) c.as_str.ensures
    ∙ ap (λ (t : Option (List ℕ)). old ++ token_parameter t) (sym c.in-Some.is))
    c.push_parameter.ensures
