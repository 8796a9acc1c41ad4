use Rattle.std.proofs.Common.{◌∙◌}
use Rattle.presigned_urls.proofs.QueryLemmas.{query_written}
use Rattle.presigned_urls.proofs.parameters.presigned_query.Goals as goal

pub returns : goal.returns
returns c =
    query_written c.args.keys.now c.args.moment c.args.expires _ _ _ _ _ _ _ c.in_ok-out.ensures.bytes
    (c.as_str.ensures.value ∙ c.in_ok-credential.ensures) (c.as_str-2.ensures.value ∙ c.in_ok-date.ensures) c.format.ensures.text
    c.in_ok-push_first.ensures c.in_ok-push_token.ensures c.in_ok-push_str.ensures.bytes
