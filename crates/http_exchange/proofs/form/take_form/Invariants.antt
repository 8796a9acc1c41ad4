use Rattle.std.proofs.Common.{◌≡◌, ℕ, ◌-◌, ◌≤◌, List, ◌++◌, length}
use Rattle.std.specs.Option.{option_map}
use Rattle.s3_model.specs.Talks.{Finished}
use Rattle.s3_outside.specs.Wire.{last_talk}
use Rattle.http_exchange.specs.Exchange.{InPieces}
use Rattle.http_exchange.specs.Seen.{hears}
use Rattle.http_exchange.proofs.form.take_form.Given as goal

abbrev pub invariant-loop-len : goal.invariant-loop-len
invariant-loop-len g l = record {
  heard : (got : List ℕ) × (g.W.Wire.seen l.wire ≡ option_map (last_talk (hears got Finished)) (g.W.Wire.seen l.initial.wire))
      × (l.room.incoming ≡ l.initial.room.incoming ++ got) × InPieces g.F.Form.begins l.initial.room.incoming got Finished;
  later : g.W.Wire.faults l.initial.wire ≤ g.W.Wire.faults l.wire;
}

abbrev pub decreases-loop-len : goal.decreases-loop-len
decreases-loop-len g l = 81_920 - length l.room.incoming
