use Rattle.planning_laws.proofs.Causes.{are_carried, have_causes}
use Rattle.planning_laws.proofs.First.{planned_first}
use Rattle.planning_laws.proofs.Scheduled.{are_scheduled}
use Rattle.planning_laws.proofs.laws.questions_are_carried.Goals as goal

pub returns : goal.returns
returns g c = record {
  causes = have_causes g.W.Wire.seen;
  carried = are_carried g.W.Wire.seen;
  scheduled = are_scheduled g.W.Wire.seen;
  first = planned_first g.W.Wire.seen;
}
