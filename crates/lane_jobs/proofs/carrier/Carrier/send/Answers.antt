use Rattle.std.proofs.Common.{[], rules}
use Rattle.lane_jobs.proofs.LoopLemmas.{nothing_tried, one_left}
use Rattle.lane_jobs.proofs.carrier.Carrier.send.Goals as goal

pub returns-in-Ok-clause-carried : goal.returns-in-Ok-clause-carried
returns-in-Ok-clause-carried g c = (c.make_attempts.new.into.bytes, search rules)

pub returns-in-Err-clause-carried : goal.returns-in-Err-clause-carried
returns-in-Err-clause-carried g c =
    ([], nothing_tried _ _ _ _ _ _ _ _ (one_left c.args.self.now.attempts c.args.had) c.out_of_memory.ensures.tries c.out_of_memory.ensures.ending)
