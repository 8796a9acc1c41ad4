use Rattle.std.proofs.Common.{◌≡◌, ◌++◌, ℕ, List, OnOk, codes, string_bytes, subst}
use Rattle.s3_signing.specs.Signing.{encode_query}
use Rattle.s3_requests.proofs.target.push_part_number.Goals as goal

pub returns : goal.returns
returns c =
    subst (λ (digits : List ℕ). OnOk c.push_parameter.result (string_bytes c.push_parameter.new.out
    ≡ string_bytes c.args.out.now ++ (codes "partNumber=" ++ encode_query digits))) c.format.ensures.text c.push_parameter.ensures
