use Rattle.promise_examples.proofs.Lies as lies
use Rattle.promise_examples.proofs.Misfits as misfits
use Rattle.promise_examples.proofs.Orders as orders
use Rattle.promise_examples.proofs.Plannings as plannings
use Rattle.promise_examples.proofs.Refuted as refuted
use Rattle.promise_examples.proofs.changes.refused.Goals as goal

pub returns-clause-wires : goal.returns-clause-wires
returns-clause-wires c = refuted.wires

pub returns-clause-jobs : goal.returns-clause-jobs
returns-clause-jobs c = refuted.jobs

pub returns-clause-orders : goal.returns-clause-orders
returns-clause-orders c = orders.orders

pub returns-clause-plannings : goal.returns-clause-plannings
returns-clause-plannings c = plannings.each_planning

pub returns-clause-traces : goal.returns-clause-traces
returns-clause-traces c = misfits.traces

pub returns-clause-lies : goal.returns-clause-lies
returns-clause-lies c = lies.lies
