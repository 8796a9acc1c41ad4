use Rattle.std.proofs.Common.{◌≡◌, ℕ, ◌+◌, ◌<◌, ◌≤◌, List, [], ◌++◌, length}
use Rattle.std.specs.Option.{option_map}
use Rattle.s3_model.specs.Talks.{Finished}
use Rattle.s3_outside.specs.Wire.{last_talk}
use Rattle.http_exchange.specs.Exchange.{InPieces}
use Rattle.http_exchange.specs.Seen.{hears}
use Rattle.http_exchange.proofs.body.take_content.Given as goal

abbrev pub invariant-loop-left : goal.invariant-loop-left
invariant-loop-left g l = record {
  heard : (got : List ℕ) × (content : List ℕ) × (g.W.Wire.seen l.wire ≡ option_map (last_talk (hears got Finished)) (g.W.Wire.seen l.fn.wire))
      × (l.fn.incoming ++ got ≡ content ++ l.incoming) × (l.body.bytes ≡ l.fn.body.bytes ++ content) × (length content + l.left ≡ l.size)
      × InPieces (λ bytes. length bytes < l.size) l.fn.incoming got Finished;
  empty : 0 < l.left → l.incoming ≡ [];
  room : l.body.room ≡ l.fn.body.room;
  later : g.W.Wire.faults l.fn.wire ≤ g.W.Wire.faults l.wire;
}

abbrev pub decreases-loop-left : goal.decreases-loop-left
decreases-loop-left g l = l.left
