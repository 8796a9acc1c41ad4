use Rattle.std.proofs.Common.{◌++◌, codes, string_bytes}
use Rattle.std.proofs.lemmas.Result.{on_ok_weaker}
use Rattle.s3_signing.specs.Signing.{encode_query}
use Rattle.s3_signing.proofs.JoinLemmas.{grown}
use Rattle.presigned_urls.specs.Parts.{first_parameters}
use Rattle.presigned_urls.proofs.parameters.push_first.Goals as goal

pub returns : goal.returns
unfolding first_parameters
returns c =
    let old = string_bytes c.args.out.now in
    let algorithm = codes "X-Amz-Algorithm=AWS4-HMAC-SHA256" in
    let credential = codes "&X-Amz-Credential=" ++ encode_query c.args.credential.now in
    let date = codes "&X-Amz-Date=" ++ encode_query c.args.date.now in
    let expires = codes "&X-Amz-Expires=" ++ encode_query c.args.expires.now in
    let two = grown old algorithm _ credential _ c.in_ok-push_str.ensures.bytes c.in_ok-push_parameter.ensures in
    let three = grown old (algorithm ++ credential) _ date _ two c.in_ok-push_parameter-2.ensures in
    on_ok_weaker c.push_parameter-3.result (λ last. grown old (algorithm ++ credential ++ date) _ expires _ three last) c.push_parameter-3.ensures
