use Rattle.bounded_executor.specs.Station.{HasServed}
use Rattle.bounded_executor.proofs.station.Station.serve.Given as goal

abbrev pub invariant-loop : goal.invariant-loop
invariant-loop g l = HasServed g.W.Worker.carries l.initial.station l.station
