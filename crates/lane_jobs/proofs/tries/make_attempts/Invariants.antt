use Rattle.std.proofs.Common.{◌≡◌, ◌⊎◌, ◌≤◌, [], None}
use Rattle.lane_jobs.specs.Lanes.{reason_of}
use Rattle.lane_jobs.proofs.LoopLemmas.{Underway}
use Rattle.lane_jobs.proofs.tries.make_attempts.Given as goal

abbrev pub invariant-loop-number : goal.invariant-loop-number
invariant-loop-number g l = record {
  underway : Underway (record { endpoint = l.initial.client.endpoint; keys = l.initial.client.signer; asked = l.ask; body = l.payload; limit = l.limit })
      l.had l.number l.into.bytes (g.W.Wire.seen l.initial.wire) (g.W.Wire.seen l.wire) l.tries l.last;
  cell : l.cell ≡ l.initial.cell;
  quiet : (l.tries ≡ []) ⊎ (reason_of l.cell ≡ None);
  later : g.W.Wire.faults l.initial.wire ≤ g.W.Wire.faults l.wire;
  endpoint : l.client.endpoint ≡ l.initial.client.endpoint;
  keys : l.client.signer ≡ l.initial.client.signer;
  untouched : l.limit ≡ None → l.into ≡ l.initial.into;
  room : l.into.room ≡ l.initial.into.room;
}
