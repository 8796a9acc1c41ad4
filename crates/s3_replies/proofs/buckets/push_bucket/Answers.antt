use Rattle.std.proofs.Common.{◌≡◌, ◌++◌, ◌∷◌, ◌∙◌, ℕ, List, [], ap, subst}
use Rattle.s3_model.specs.declared.places.Entry.{Entry}
use Rattle.s3_replies.proofs.buckets.push_bucket.Goals as goal

pub returns-clause-items : goal.returns-clause-items
returns-clause-items c =
    let row : Entry = record { key = c.args.key; size = 0; etag = c.from.result; micros = c.args.micros } in
    subst (λ (etag : List ℕ). c.push.new.self.items
    ≡ c.args.rows.now.items ++ record { key = c.args.key; size = 0; etag = etag; micros = c.args.micros } ∷ [])
    (c.from.ensures ∙ c.new.ensures.bytes)
    (c.push.ensures.items ∙ ap (λ (rows : List Entry). rows ++ row ∷ []) c.reserve.ensures.items)
