use Rattle.std.proofs.Common.{◌++◌, ◌∙◌, ap, codes, string_bytes}
use Rattle.std.proofs.lemmas.Result.{on_ok_weaker}
use Rattle.std.specs.Option.{option_copied}
use Rattle.s3_requests.specs.Headers.{delimiter_text}
use Rattle.s3_signing.specs.Signing.{encode_query}
use Rattle.s3_requests.proofs.RequestLemmas.{listing_written}
use Rattle.s3_requests.proofs.target.push_list_query.Goals as goal

pub returns : goal.returns
returns c =
    on_ok_weaker c.push_parameter.result
    (λ last. last
    ∙ ap (λ text. text ++ (codes "&prefix=" ++ encode_query c.args.prefix.now)) (c.in_ok-push_str.ensures.bytes
    ∙ ap (λ text. text ++ codes "encoding-type=url&list-type=2") (c.in_ok-push_delimiter.ensures
    ∙ ap (λ text. text ++ delimiter_text c.args.delimited) c.in_ok-push_token.ensures))
    ∙ listing_written (string_bytes c.args.out.now) c.args.prefix.now c.args.delimited (option_copied c.args.token))
    c.push_parameter.ensures
