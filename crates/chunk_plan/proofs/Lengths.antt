-- The length of the parts of an object.
use Rattle.std.proofs.Common.{◌≡◌, ◌<◌, ◌≤◌, ◌*◌, ◌^◌, ℕ, min, max, arith, nat_lt}
use Rattle.std.proofs.Math.Nat.{le-max_right}
use Rattle.std.proofs.lemmas.Nat.{pow_pos, mul-le}
use Rattle.std.proofs.lemmas.Bool.{cond_both}
use Rattle.std.proofs.lemmas.Bool.Decides.{nat_tests}
use Rattle.s3_model.specs.declared.settings.Limits.{Limits}
use Rattle.s3_model.specs.Parts.{IsFirstFitting, piece_count, within_limits}
use Rattle.s3_model.specs.Validity.{IsValidLimits}
use Rattle.chunk_plan.proofs.Counts.{count_le, longer_fits}

pub clamp_is : (limits : Limits) (found : ℕ) → limits.min_part ≤ limits.max_part → max limits.min_part (min found limits.max_part) ≡ within_limits limits found
clamp_is limits found order = grind (arith, nat_tests)

pub length_most : (limits : Limits) (found : ℕ) → limits.min_part ≤ limits.max_part → within_limits limits found ≤ limits.max_part
length_most limits found order = grind (arith, nat_tests)

pub length_least : (limits : Limits) (found : ℕ) → limits.min_part ≤ limits.max_part → limits.min_part ≤ within_limits limits found
length_least limits found order = grind (arith, nat_tests)

found_some : (chunk size most found : ℕ) → 1 ≤ chunk → IsFirstFitting chunk size most found → 0 < found
found_some chunk size most found some first =
    let product : 1 * 1 ≤ chunk * 2 ^ first.doublings = mul-le 1 1 chunk (2 ^ first.doublings) some (pow_pos first.doublings) in
    let is = first.is_multiple in omega arith

-- the limits leave room for each object, so few enough parts of the adjusted length make it up
pub length_fits : (limits : Limits) (chunk size found : ℕ) → IsValidLimits limits → 1 ≤ chunk → size ≤ limits.max_object → IsFirstFitting chunk size limits.max_parts found
    → piece_count size (within_limits limits found) ≤ limits.max_parts
length_fits limits chunk size found valid some within first =
    let positive = found_some chunk size limits.max_parts found some first in
    let reached = valid.reached in
    let least = valid.min_part in
    let order = valid.parts in
    cond_both (nat_lt limits.max_part found) limits.max_part (max limits.min_part found) (λ piece. piece_count size piece ≤ limits.max_parts)
    (λ _. count_le size limits.max_part limits.max_parts (omega arith) (omega arith))
    (λ _. longer_fits size found (max limits.min_part found) limits.max_parts positive (le-max_right limits.min_part found) first.fits)
