use Rattle.std.proofs.Common.{◌≡◌, ℕ, ◌+◌, ◌≤◌, List, ◌++◌, length}
use Rattle.std.specs.Option.{option_map}
use Rattle.s3_model.specs.Talks.{Finished}
use Rattle.s3_outside.specs.Wire.{last_talk}
use Rattle.answer_grammar.specs.declared.framing.Framing.TheVariants as framing
use Rattle.answer_grammar.specs.Chunks.{Chunk, HasChunks, contents}
use Rattle.http_exchange.specs.Exchange.{InPieces}
use Rattle.http_exchange.specs.Seen.{hears}
use Rattle.http_exchange.specs.Steps.{IsOpenBody}
use Rattle.http_exchange.proofs.chunked.take_chunks.Given as goal

abbrev pub invariant-loop-size : goal.invariant-loop-size
invariant-loop-size g l = record {
  heard : (got : List ℕ) × (chunks : List Chunk) × (g.W.Wire.seen l.wire ≡ option_map (last_talk (hears got Finished)) (g.W.Wire.seen l.fn.wire))
      × HasChunks (l.fn.room.incoming ++ got) chunks l.room.incoming × (l.body.bytes ≡ contents chunks)
      × InPieces (IsOpenBody framing.Chunked l.limit) l.fn.room.incoming got Finished;
  sum : length l.body.bytes + l.left ≡ l.limit;
  room : l.body.room ≡ l.fn.body.room;
  later : g.W.Wire.faults l.fn.wire ≤ g.W.Wire.faults l.wire;
}

abbrev pub decreases-loop-size : goal.decreases-loop-size
decreases-loop-size g l = l.left
