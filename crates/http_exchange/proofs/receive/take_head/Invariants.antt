use Rattle.std.proofs.Common.{◌≡◌, ◌-◌, ◌≤◌, [], length}
use Rattle.std.specs.Option.{option_map}
use Rattle.s3_model.specs.Talks.{Finished}
use Rattle.s3_outside.specs.Wire.{last_talk}
use Rattle.http_exchange.specs.Exchange.{BeginsByLine, InPieces}
use Rattle.http_exchange.specs.Seen.{hears}
use Rattle.http_exchange.proofs.receive.take_head.Given as goal

abbrev pub invariant-loop-head : goal.invariant-loop-head
invariant-loop-head g l = record {
  heard : g.W.Wire.seen l.wire ≡ option_map (last_talk (hears l.room.incoming Finished)) (g.W.Wire.seen l.initial.wire);
  pieces : InPieces BeginsByLine [] l.room.incoming Finished;
  later : g.W.Wire.faults l.initial.wire ≤ g.W.Wire.faults l.wire;
}

abbrev pub decreases-loop-head : goal.decreases-loop-head
decreases-loop-head g l = 81_920 - length l.room.incoming
