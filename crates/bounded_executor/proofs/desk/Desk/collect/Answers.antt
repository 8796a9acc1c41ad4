use Rattle.std.proofs.Common.{◌∙◌, arith}
use Rattle.bounded_executor.proofs.desk.Desk.collect.Goals as goal

pub take_ready-requires-after_bounds : goal.take_ready-requires-after_bounds
take_ready-requires-after_bounds g c κs within = omega arith

pub returns-in-Some-take_ready-clause-taken : goal.returns-in-Some-take_ready-clause-taken
returns-in-Some-take_ready-clause-taken g c = rw c.loop-look.invariant at c.in-Some-take_ready.ensures.taken

pub loop-look-preserved : goal.loop-look-preserved
loop-look-preserved g c = c.in_default-take_ready.ensures.none ∙ c.loop-look.invariant

pub returns-clause-none : goal.returns-clause-none
returns-clause-none g c = c.loop-look.invariant
