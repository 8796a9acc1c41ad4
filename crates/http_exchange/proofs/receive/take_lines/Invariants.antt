use Rattle.std.proofs.Common.{◌≡◌, ℕ, ◌-◌, ◌<◌, ◌≤◌, List, ◌++◌, length}
use Rattle.std.specs.Option.{option_map}
use Rattle.s3_model.specs.Talks.{Finished}
use Rattle.s3_outside.specs.Wire.{last_talk}
use Rattle.http_exchange.specs.Exchange.{InPieces, LacksLineEnd}
use Rattle.http_exchange.specs.Seen.{hears}
use Rattle.http_exchange.specs.Steps.{IsBegun}
use Rattle.http_exchange.proofs.receive.take_lines.Given as goal

abbrev pub invariant-loop-incoming : goal.invariant-loop-incoming
invariant-loop-incoming g l = record {
  heard : (got : List ℕ) × (g.W.Wire.seen l.wire ≡ option_map (last_talk (hears got Finished)) (g.W.Wire.seen l.initial.wire))
      × (l.incoming ≡ l.initial.incoming ++ got) × LacksLineEnd got
      × InPieces (IsBegun l.initial.incoming) l.initial.incoming got Finished;
  short : length l.incoming < 65_536;
  later : g.W.Wire.faults l.initial.wire ≤ g.W.Wire.faults l.wire;
}

abbrev pub decreases-loop-incoming : goal.decreases-loop-incoming
decreases-loop-incoming g l = 65_536 - length l.incoming
