use Rattle.std.proofs.Common.{rules}
use Rattle.bounded_executor.proofs.RunsLemmas.{Runs-push}
use Rattle.bounded_executor.proofs.station.Station.serve.Goals as goal

-- the worker has carried one job more
pub loop-preserved : goal.loop-preserved
loop-preserved g c =
    let ran = Runs-push g.W.Worker.carries _ _ _ _ _ _ _ c.loop.invariant.ran c.carry-outcome.ensures in
    record {
      jobs = search rules;
      outcomes = search rules;
      ran = rw (c.in-Some-next_job.ensures.some, c.push_outcome.ensures.sent) ran;
    }
