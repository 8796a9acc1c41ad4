-- Numbers within bounds, and pieces that cover a size.
use Rattle.std.proofs.Common.{◌≤◌, ◌*◌, ℕ, arith}
use Rattle.s3_model.specs.Parts.{piece_count}
use Rattle.s3_model.specs.Validity.{IsWithin}

pub is_within : (low value high : ℕ) → low ≤ value → value ≤ high → IsWithin low value high
is_within low value high least most = record { least = least; most = most }

pub covered : (size piece : ℕ) → 1 ≤ piece → size ≤ piece_count size piece * piece
covered size piece some = omega arith
