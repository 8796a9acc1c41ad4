use Rattle.std.proofs.Common.{◌∙◌, ap, arith, length}
use Rattle.bounded_executor.proofs.desk.Desk.carry.Goals as goal

pub take_of-requires-after_bounds : goal.take_of-requires-after_bounds
take_of-requires-after_bounds g c κs within = omega (arith, ap (λ d. length d.lanes) c.loop-lane.invariant)

pub returns-in-Some-clause-taken : goal.returns-in-Some-clause-taken
returns-in-Some-clause-taken g c = rw c.loop-lane.invariant at c.in-Some.ensures.taken

pub loop-lane-preserved : goal.loop-lane-preserved
loop-lane-preserved g c = c.in_default.ensures.none ∙ c.loop-lane.invariant

pub returns-clause-none : goal.returns-clause-none
returns-clause-none g c = c.loop-lane.invariant
