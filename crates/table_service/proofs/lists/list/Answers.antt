use Rattle.std.proofs.Common.{rules, ◌≡◌, ℕ, List, Option, Some, subst}
use Rattle.s3_service.specs.Listing.{GoesOnAfter}
use Rattle.table_service.proofs.lists.list.Goals as goal

pub returns-in-Some-clause-behind : goal.returns-in-Some-clause-behind
returns-in-Some-clause-behind c = search rules

pub returns-in-Some-clause-willing : goal.returns-in-Some-clause-willing
returns-in-Some-clause-willing c = λ last goes there.
    let is : c.args.token.now ≡ Some c.as_str.result.now = search rules in
    c.list.ensures.willing last (subst (λ (t : Option (List ℕ)). GoesOnAfter c.args.table.now t last) is goes) there
