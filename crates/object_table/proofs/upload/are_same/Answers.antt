use Rattle.std.proofs.Common.{arith, rules}
use Rattle.std.proofs.lemmas.Grind.{common_steps}
use Rattle.object_table.proofs.Assembled.{same_more}
use Rattle.object_table.proofs.upload.are_same.Goals as goal

pub loop-place-preserved : goal.loop-place-preserved
loop-place-preserved c =
    same_more c.args.left.now c.args.right.now c.loop-place.place c.index-left-place.result c.index-right-place.result (omega arith) (omega arith) c.loop-place.invariant c.index-left-place.is c.index-right-place.is
    (first_of (search rules, grind (arith, common_steps)))
