-- How many pieces of a length make a size.
use Rattle.std.proofs.Common.{◌≡◌, ◌<◌, ◌≤◌, ◌+◌, ◌-◌, ◌*◌, ◌/◌, ◌%◌, ◌∙◌, ℕ, ap, arith, inl, inr}
use Rattle.std.specs.Int.{div_ceil}
use Rattle.std.proofs.Math.Nat.{div-lt_iff_lt-mul}
use Rattle.std.proofs.lemmas.Nat.{div-add-mod', div-mul-add, mod_below, mul-le}
use Rattle.std.proofs.lemmas.Bool.{cases_lt}
use Rattle.std.proofs.lemmas.Grind.{div_ceil_times}
use Rattle.s3_model.specs.Parts.{piece_count}

-- the number is the quotient, rounded up
pub div_ceil_is : (n p : ℕ) → 0 < p → div_ceil n p ≡ piece_count n p
div_ceil_is n p some =
    let split : n / p * p + n % p ≡ n = div-add-mod' n p in
    let small : n % p < p = mod_below n p some in
    elim (cases_lt 0 (n % p)) [
      | inl rest ↦
          let top : n + p - 1 ≡ (n / p + 1) * p + (n % p - 1) = omega arith in
          let whole : (n + p - 1) / p ≡ n / p + 1 = ap (λ m. m / p) top ∙ div-mul-add (n / p + 1) p (n % p - 1) (omega arith) in
          omega arith
      | inr none ↦
          let top : n + p - 1 ≡ n / p * p + (p - 1) = omega arith in
          let whole : (n + p - 1) / p ≡ n / p = ap (λ m. m / p) top ∙ div-mul-add (n / p) p (p - 1) (omega arith) in
          omega arith
    ]

-- that many pieces hold the size
pub count_covers : (n p : ℕ) → 0 < p → n ≤ piece_count n p * p
count_covers n p some = rw (← (div_ceil_is n p some)) (div_ceil_times n p some).0

-- and the last of them begins inside it
pub count_within : (n p : ℕ) → 0 < p → piece_count n p * p < n + p
count_within n p some = rw (← (div_ceil_is n p some)) (div_ceil_times n p some).1

pub count_le : (n p m : ℕ) → 0 < p → n ≤ m * p → piece_count n p ≤ m
count_le n p m some holds =
    let below : n + p - 1 < (m + 1) * p = omega arith in
    let less : (n + p - 1) / p < m + 1 = (div-lt_iff_lt-mul some).1 below in
    omega arith

-- each piece begins inside the size
pub begins_inside : (n p k : ℕ) → 0 < p → k < piece_count n p → k * p < n
begins_inside n p k some last =
    let within : piece_count n p * p < n + p = count_within n p some in
    let upto : (k + 1) * p ≤ piece_count n p * p = mul-le (k + 1) p (piece_count n p) p (omega arith) (omega arith) in
    omega arith

-- longer pieces are not more
pub longer_fits : (n p q m : ℕ) → 0 < p → p ≤ q → piece_count n p ≤ m → piece_count n q ≤ m
longer_fits n p q m some longer fits =
    let covers : n ≤ piece_count n p * p = count_covers n p some in
    let few : piece_count n p * p ≤ m * q = mul-le (piece_count n p) p m q fits longer in
    count_le n q m (omega arith) (omega arith)

-- where there is more than one piece, each is shorter than the size
pub shorter : (n p m : ℕ) → 0 < p → 1 ≤ m → m < piece_count n p → p < n
shorter n p m some one more = let inside : 1 * p < n = begins_inside n p 1 some (omega arith) in omega arith
