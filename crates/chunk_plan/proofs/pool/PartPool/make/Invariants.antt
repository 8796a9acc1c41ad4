use Rattle.std.proofs.Common.{◌≡◌, ◌≤◌, vec_len}
use Rattle.std.specs.Vec.{vec_capacity}
use Rattle.chunk_plan.specs.Pool.{HaveAtMost, HaveRoom}
use Rattle.chunk_plan.proofs.pool.PartPool.make.Given as goal

abbrev pub invariant-loop : goal.invariant-loop
invariant-loop l = record {
  made : vec_len l.parts ≡ l.counter;
  room_left : l.count ≤ vec_capacity l.parts;
  rooms : HaveRoom l.bytes l.parts.items;
  most : HaveAtMost l.bytes l.parts.items;
}
