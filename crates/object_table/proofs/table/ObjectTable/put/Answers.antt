use Rattle.std.proofs.Common.{sym, ◌∙◌}
use Rattle.object_table.proofs.Swaps.{no_object}
use Rattle.object_table.proofs.table.ObjectTable.put.Goals as goal

pub returns-then-not-has_bucket-clause-kept : goal.returns-then-not-has_bucket-clause-kept
returns-then-not-has_bucket-clause-kept c = λ why refused fresh some.
    absurd (no_object c.args.self.now c.args.bucket.now c.args.key.now (sym c.has_bucket.ensures ∙ c.if-not-has_bucket.true) some)
