use Rattle.std.proofs.Common.{List, ℕ, slice_index_or, ap, arith}
use Rattle.std.proofs.Math.Seq.{map-set_same}
use Rattle.s3_outside.specs.Wire.{gets}
use Rattle.outside_memory.specs.TalkLog.{talk_of}
use Rattle.outside_memory.proofs.LastTalk.{last_changed}
use Rattle.outside_memory.proofs.talk_log.add_got.Goals as goal

pub returns-in-Ok : goal.returns-in-Ok
returns-in-Ok c =
    let old = slice_index_or c.args.talks.now c.in-Some.last c.index-talks-last.result in
    record {
      added = last_changed (gets c.args.bytes.now) c.args.talks.now c.in-Some.last c.index-talks-last.result _ (grind arith) (ap (λ (bytes : List ℕ). record (talk_of old) { got = bytes }) c.in-Ok.ensures.items);
      same = tt;
    }

pub returns-in-Err : goal.returns-in-Err
returns-in-Err c =
    let old = slice_index_or c.args.talks.now c.in-Some.last c.index-talks-last.result in
    record {
      added = tt;
      same = map-set_same talk_of c.args.talks.now c.in-Some.last _ c.index-talks-last.result (ap (λ (bytes : List ℕ). record (talk_of old) { got = bytes }) c.in-Err.ensures.items);
    }
