use Rattle.std.proofs.Common.{subst, sym}
use Rattle.jobs.specs.Jobs.{SeenJob, bytes_of}
use Rattle.lane_jobs.specs.Lanes.{IsPlace}
use Rattle.lane_jobs.proofs.EndingLemmas.{placed_there}
use Rattle.lane_jobs.proofs.LoopLemmas.{nothing_tried, one_left}
use Rattle.lane_jobs.proofs.carrier.Carrier.carry.Goals as goal

pub returns-in-Err-clause-carried : goal.returns-in-Err-clause-carried
returns-in-Err-clause-carried g c =
    let back = c.hand_back.ensures in
    let asked = back.asks.0 in
    record {
      asked = asked;
      place = bytes_of c.args.job.part;
      asks = back.asks.1;
      placed = subst (λ (j : SeenJob). IsPlace asked j.part (bytes_of c.args.job.part)) (sym back.job) (placed_there asked c.args.job.part);
      carries = nothing_tried _ _ _ _ _ _ _ _ (one_left c.args.self.now.attempts c.args.job.had) back.tries back.ending;
    }
