use Rattle.std.proofs.Common.{arith, rules}
use Rattle.std.proofs.lemmas.Grind.{common_steps}
use Rattle.object_table.proofs.Assembled.{completes}
use Rattle.object_table.proofs.table.ObjectTable.joined.Goals as goal

pub returns-clause-bytes : goal.returns-clause-bytes
returns-clause-bytes c =
    completes (λ bytes. bytes.items) c.assembled.result c.args.limits.now c.args.self.now c.args.id.now c.args.bucket.now c.args.key.now c.in_ok-upload.upload.now c.args.etags.now c.in_ok-upload.ensures.open
    (first_of (omega arith, first_of (search rules, grind (arith, common_steps)))) c.assembled.ensures.joined

pub returns-then-is_some-clause-kept : goal.returns-then-is_some-clause-kept
returns-then-is_some-clause-kept c = search rules
