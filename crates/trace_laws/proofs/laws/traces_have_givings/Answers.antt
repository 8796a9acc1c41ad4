use Rattle.trace_laws.proofs.Closed.{planned_traces}
use Rattle.trace_laws.proofs.Journal.{givings_of}
use Rattle.trace_laws.proofs.Witness.{two_lanes_are_met}
use Rattle.trace_laws.proofs.laws.traces_have_givings.Goals as goal

pub returns : goal.returns
returns g c = record {
  givings = λ carrier s trace befores afters logs notes joined gained lanes. givings_of g.W.Wire.seen carrier trace befores afters logs notes joined gained s lanes;
  planned = planned_traces;
  met = two_lanes_are_met;
}
