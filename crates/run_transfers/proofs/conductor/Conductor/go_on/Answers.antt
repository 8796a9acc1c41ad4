use Rattle.std.proofs.Common.{rules}
use Rattle.run_transfers.proofs.StepLemmas.{conducts_both, stops_after}
use Rattle.run_transfers.proofs.conductor.Conductor.go_on.Goals as goal

pub returns-in-Some-advance-clause-stops : goal.returns-in-Some-advance-clause-stops
returns-in-Some-advance-clause-stops g c =
    stops_after c.loop.invariant.goes_on _ _ c.in-Some-advance.stop c.in-Some-advance.ensures.stops

pub loop-preserved : goal.loop-preserved
loop-preserved g c = record {
  free = c.in_default.ensures.free;
  goes_on = conducts_both c.loop.invariant.goes_on _ _ c.in_default.ensures.goes_on;
  same_desk = search rules;
}
