use Rattle.std.proofs.Common.{◌++◌, ◌∙◌, ap, codes, string_bytes}
use Rattle.s3_requests.specs.Requests.{method_and_path, request_line, target_query}
use Rattle.s3_requests.specs.Descriptions.{query_in, request_in}
use Rattle.s3_signing.proofs.JoinLemmas.{on_ok_pushed, three_pieces}
use Rattle.s3_requests.proofs.head.push_request_line.Goals as goal

pub returns : goal.returns
unfolding request_line
returns c =
    let request = c.args.request.now in
    let front = method_and_path (request_in request) in
    let query = target_query (query_in request.query) in
    on_ok_pushed c.push_str.result _ _ _ _ c.push_str.ensures.bytes (
    ap (λ text. text ++ codes " HTTP/1.1\r\n") (c.in_ok-push_target_query.ensures ∙ ap (λ text. text ++ query) c.in_ok-push_method_and_path.ensures)
    ∙ three_pieces (string_bytes c.args.out.now) front query (codes " HTTP/1.1\r\n"))
