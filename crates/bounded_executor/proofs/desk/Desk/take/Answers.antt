use Rattle.std.proofs.Common.{◌∙◌}
use Rattle.bounded_executor.proofs.desk.Desk.take.Goals as goal

pub returns-in-Some-collect-clause-lane : goal.returns-in-Some-collect-clause-lane
returns-in-Some-collect-clause-lane g c = (rw c.loop.invariant at c.in-Some-collect.ensures.taken).in_range

pub returns-in-Some-collect-clause-was_out : goal.returns-in-Some-collect-clause-was_out
returns-in-Some-collect-clause-was_out g c = (rw c.loop.invariant at c.in-Some-collect.ensures.taken).was_out

pub returns-in-Some-collect-clause-taken : goal.returns-in-Some-collect-clause-taken
returns-in-Some-collect-clause-taken g c = (rw c.loop.invariant at c.in-Some-collect.ensures.taken).taken

pub returns-in-Some-collect-clause-one_less : goal.returns-in-Some-collect-clause-one_less
returns-in-Some-collect-clause-one_less g c = (rw c.loop.invariant at c.in-Some-collect.ensures.taken).one_less

pub returns-in-Some-carry-clause-lane : goal.returns-in-Some-carry-clause-lane
returns-in-Some-carry-clause-lane g c = (rw (c.in_default.ensures.none, c.loop.invariant) at c.in-Some-carry.ensures.taken).in_range

pub returns-in-Some-carry-clause-was_out : goal.returns-in-Some-carry-clause-was_out
returns-in-Some-carry-clause-was_out g c = (rw (c.in_default.ensures.none, c.loop.invariant) at c.in-Some-carry.ensures.taken).was_out

pub returns-in-Some-carry-clause-taken : goal.returns-in-Some-carry-clause-taken
returns-in-Some-carry-clause-taken g c = (rw (c.in_default.ensures.none, c.loop.invariant) at c.in-Some-carry.ensures.taken).taken

pub returns-in-Some-carry-clause-one_less : goal.returns-in-Some-carry-clause-one_less
returns-in-Some-carry-clause-one_less g c = (rw (c.in_default.ensures.none, c.loop.invariant) at c.in-Some-carry.ensures.taken).one_less

pub loop-preserved : goal.loop-preserved
loop-preserved g c = c.in_default-carry.ensures.none ∙ c.in_default.ensures.none ∙ c.loop.invariant
