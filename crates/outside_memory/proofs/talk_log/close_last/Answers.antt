use Rattle.std.proofs.Common.{slice_index_or, ap, arith}
use Rattle.s3_model.specs.Talks.{Ending}
use Rattle.s3_outside.specs.Wire.{closes}
use Rattle.outside_memory.specs.TalkLog.{talk_of}
use Rattle.outside_memory.proofs.LastTalk.{last_changed}
use Rattle.outside_memory.proofs.talk_log.close_last.Goals as goal

pub returns-in-Some : goal.returns-in-Some
returns-in-Some c = last_changed closes c.args.talks.now c.in-Some.last c.index-talks-last.result _ (grind arith) (ap (λ (ending : Ending). record (talk_of (slice_index_or c.args.talks.now c.in-Some.last c.index-talks-last.result)) { ending = ending }) c.closed-talk.ensures)
