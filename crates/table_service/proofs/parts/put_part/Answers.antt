use Rattle.std.proofs.Common.{List, IfOk, rules, subst, ℕ}
use Rattle.s3_service.specs.Serves.{StoresPart}
use Rattle.table_service.proofs.parts.put_part.Goals as goal

pub returns-clause-stored : goal.returns-clause-stored
returns-clause-stored c =
    subst (λ (bytes : List ℕ). IfOk c.put_part.result (λ etag. StoresPart c.args.table.now c.args.bucket.now c.args.key.now c.args.id.now c.args.number bytes etag c.put_part.new.self))
    (search rules) c.put_part.ensures.stored

pub returns-in_default-clause-willing : goal.returns-in_default-clause-willing
returns-in_default-clause-willing c = search rules
