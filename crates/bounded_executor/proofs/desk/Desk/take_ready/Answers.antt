use Rattle.bounded_executor.proofs.desk.Desk.take_ready.Goals as goal

pub returns-in-Some-clause-taken : goal.returns-in-Some-clause-taken
returns-in-Some-clause-taken g c = c.in-Some.ensures.taken

pub returns-clause-taken : goal.returns-clause-taken
returns-clause-taken g c = rw c.in_default.ensures.none at c.take_of-2.ensures.taken

pub returns-clause-none : goal.returns-clause-none
returns-clause-none g c = rw c.in_default.ensures.none at c.take_of-2.ensures.none
