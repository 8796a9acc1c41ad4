use Rattle.promise_examples.proofs.Alone.{each_wire_breaks_alone}
use Rattle.promise_examples.proofs.JobBreaks.{each_job_breaks_alone, each_planning_breaks_alone}
use Rattle.promise_examples.proofs.OrderBreaks.{each_order_breaks_alone}
use Rattle.promise_examples.proofs.TraceBreaks.{each_trace_breaks_alone}
use Rattle.promise_examples.proofs.changes.single_breaks.Goals as goal

pub returns-clause-wires : goal.returns-clause-wires
returns-clause-wires c = each_wire_breaks_alone

pub returns-clause-jobs : goal.returns-clause-jobs
returns-clause-jobs c = each_job_breaks_alone

pub returns-clause-plannings : goal.returns-clause-plannings
returns-clause-plannings c = each_planning_breaks_alone

pub returns-clause-orders : goal.returns-clause-orders
returns-clause-orders c = each_order_breaks_alone

pub returns-clause-traces : goal.returns-clause-traces
returns-clause-traces c = each_trace_breaks_alone
