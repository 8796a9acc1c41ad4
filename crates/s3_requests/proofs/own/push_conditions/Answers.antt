use Rattle.std.proofs.Common.{◌≡◌, ◌∷◌, ◌++◌, ◌∙◌, List, [], ap, codes, rules, sym}
use Rattle.s3_requests.specs.Headers.{condition_headers}
use Rattle.s3_signing.specs.Headers.{pairs_of}
use Rattle.s3_signing.specs.Pairs.{Pair}
use Rattle.s3_requests.proofs.own.push_conditions.Goals as goal

pub returns-clause-items : goal.returns-clause-items
returns-clause-items c = search rules

pub returns-in-Upload-default-true-clause-items : goal.returns-in-Upload-default-true-clause-items
returns-in-Upload-default-true-clause-items c =
    let is : condition_headers c.args.own.now ≡ (codes "if-none-match", codes "*") ∷ [] = search rules in
    c.push.ensures.items ∙ ap (λ (more : List Pair). pairs_of c.args.headers.now.items ++ more) (sym is)
