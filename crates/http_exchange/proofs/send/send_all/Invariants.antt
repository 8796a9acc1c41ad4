use Rattle.std.proofs.Common.{◌≡◌, ◌-◌, ◌≤◌, length, take}
use Rattle.std.specs.Option.{option_map}
use Rattle.s3_outside.specs.Wire.{last_talk, sends}
use Rattle.http_exchange.proofs.send.send_all.Given as goal

abbrev pub invariant-loop-sent : goal.invariant-loop-sent
invariant-loop-sent g l = record {
  in_range : l.sent ≤ length l.bytes;
  seen : g.W.Wire.seen l.wire ≡ option_map (last_talk (sends (take l.sent l.bytes))) (g.W.Wire.seen l.initial.wire);
  later : g.W.Wire.faults l.initial.wire ≤ g.W.Wire.faults l.wire;
}

abbrev pub decreases-loop-sent : goal.decreases-loop-sent
decreases-loop-sent g l = length l.bytes - l.sent
