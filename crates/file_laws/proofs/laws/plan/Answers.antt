use Rattle.file_laws.proofs.PlanEnds as ends
use Rattle.file_laws.proofs.PlanWitness.{plan_is_met, uncounted_is_refused}
use Rattle.file_laws.proofs.laws.plan.Goals as goal

pub returns-clause-ends : goal.returns-clause-ends
returns-clause-ends g c = ends.plan_ends g.C.Reading.shows g.C.Command.has_status g.C.Command.plans g.C.Command.call_failed

pub returns-clause-met : goal.returns-clause-met
returns-clause-met g c = plan_is_met

pub returns-clause-refused : goal.returns-clause-refused
returns-clause-refused g c = uncounted_is_refused
