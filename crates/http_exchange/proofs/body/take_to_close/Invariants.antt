use Rattle.std.proofs.Common.{◌≡◌, ℕ, ◌+◌, ◌*◌, ◌-◌, ◌<◌, ◌≤◌, List, ◌++◌, length}
use Rattle.std.specs.Option.{option_map}
use Rattle.s3_model.specs.Talks.{Finished}
use Rattle.s3_outside.specs.Wire.{last_talk}
use Rattle.answer_grammar.specs.declared.framing.Framing.TheVariants as framing
use Rattle.http_exchange.specs.Exchange.{InPieces}
use Rattle.http_exchange.specs.Seen.{hears}
use Rattle.http_exchange.specs.Steps.{IsOpenBody}
use Rattle.http_exchange.proofs.body.take_to_close.Given as goal

abbrev pub invariant-loop-body : goal.invariant-loop-body
invariant-loop-body g l = record {
  heard : (got : List ℕ) × (g.W.Wire.seen l.wire ≡ option_map (last_talk (hears got Finished)) (g.W.Wire.seen l.fn.wire))
      × (l.fn.incoming ++ got ≡ l.body.bytes ++ l.incoming) × InPieces (IsOpenBody framing.ToClose l.limit) l.fn.incoming got Finished;
  within : length l.body.bytes ≤ l.limit;
  full : 0 < length l.incoming → length l.body.bytes ≡ l.limit;
  room : l.body.room ≡ l.fn.body.room;
  later : g.W.Wire.faults l.fn.wire ≤ g.W.Wire.faults l.wire;
}

abbrev pub decreases-loop-body : goal.decreases-loop-body
decreases-loop-body g l = 2 * (l.limit - length l.body.bytes) + (1 - length l.incoming)
