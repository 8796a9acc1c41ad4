use Rattle.std.proofs.Common.{arith, refl}
use Rattle.s3_outside.specs.Wire.{fails}
use Rattle.outside_memory.proofs.LastTalk.{last_changed}
use Rattle.outside_memory.proofs.talk_log.fail_last.Goals as goal

pub returns-in-Some : goal.returns-in-Some
returns-in-Some c = last_changed fails c.args.talks.now c.in-Some.last c.index-talks-last.result _ (grind arith) refl
