use Rattle.std.proofs.Common.{rules}
use Rattle.run_transfers.proofs.StepLemmas.{still_strange}
use Rattle.run_transfers.proofs.lanes.take_rest.Goals as goal

pub jobs-preserved : goal.jobs-preserved
jobs-preserved g c = record {
  stranger = λ run met. still_strange c.take-carried.result.0 c.take-carried.result.1 c.take-carried.ensures.lane
      c.take-carried.ensures.taken run (c.jobs.invariant.stranger run met);
  same_desk = search rules;
}
