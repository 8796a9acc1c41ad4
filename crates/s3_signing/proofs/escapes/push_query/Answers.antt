use Rattle.std.proofs.Common.{◌≡◌, ◌++◌, ◌∙◌, ℕ, List, OnOk, string_bytes, subst}
use Rattle.s3_signing.proofs.EscapeLemmas.{encode_query_is}
use Rattle.s3_signing.proofs.escapes.push_query.Goals as goal

pub returns : goal.returns
returns c =
    subst (λ (escaped : List ℕ). OnOk c.append_to.result (string_bytes c.append_to.new.out ≡ string_bytes c.args.out.now ++ escaped))
    (c.utf8_percent_encode.ensures.text ∙ encode_query_is c.args.text.now) c.append_to.ensures.ok
