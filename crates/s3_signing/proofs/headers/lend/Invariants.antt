use Rattle.std.proofs.Common.{◌≡◌, ◌≤◌, length, take, vec_capacity, vec_len}
use Rattle.s3_signing.specs.Headers.{pairs_of}
use Rattle.s3_signing.proofs.headers.lend.Given as goal

abbrev pub invariant-loop-pair : goal.invariant-loop-pair
invariant-loop-pair l =
    (pairs_of l.headers.items ≡ take l.pair-index l.pair-items) × (vec_len l.headers ≡ l.pair-index)
    × (length l.pair-items ≤ vec_capacity l.headers)
