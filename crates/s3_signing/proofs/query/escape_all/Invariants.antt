use Rattle.std.proofs.Common.{◌≡◌, ◌≤◌, length, take, map, vec_capacity, vec_len}
use Rattle.s3_signing.specs.Headers.{text_pairs}
use Rattle.s3_signing.specs.Signing.{encode_pair}
use Rattle.s3_signing.proofs.query.escape_all.Given as goal

abbrev pub invariant-loop-pair : goal.invariant-loop-pair
invariant-loop-pair l =
    (text_pairs l.out.items ≡ map encode_pair (take l.pair-index l.pair-items)) × (vec_len l.out ≡ l.pair-index)
    × (length l.pair-items ≤ vec_capacity l.out)
