-- The pieces of a transfer: their length and number are one, no piece is empty, and each begins inside the whole.
use Rattle.std.proofs.Common.{◌≡◌, ◌∙◌, ◌+◌, ◌-◌, ◌*◌, ◌^◌, ◌<◌, ◌≤◌, ℕ, zero, suc, Bool, true, false, max, nat_lt, sym, ap, subst, inl, inr, if◌then◌else◌, arith}
use Rattle.std.proofs.Math.Nat.{div-mul-le_self, mul-le-mul_right}
use Rattle.std.proofs.lemmas.Nat.{le-div}
use Rattle.std.proofs.lemmas.Bool.{cases_lt, ltb-false}
use Rattle.s3_model.specs.declared.settings.Limits.{Limits}
use Rattle.s3_model.specs.declared.settings.Config.{Config}
use Rattle.s3_model.specs.declared.tasks.Kind.{Kind}
use Rattle.s3_model.specs.declared.tasks.Kind.TheVariants as kind
use Rattle.s3_model.specs.Validity.{IsValidLimits}
use Rattle.s3_model.specs.Parts.{piece_count, IsFirstFitting, within_limits, IsTransfer, HasPieces}

first_is_one : (chunk size most found other : ℕ) → IsFirstFitting chunk size most found → IsFirstFitting chunk size most other → found ≡ other
first_is_one chunk size most found other a b = elim (cases_lt a.doublings b.doublings) [
  | inl before ↦ let large = b.first a.doublings before in let fits : piece_count size (chunk * 2 ^ a.doublings) ≤ most = subst (λ n. piece_count size n ≤ most) a.is_multiple a.fits in absurd (omega arith)
  | inr upto ↦ elim (cases_lt b.doublings a.doublings) [
    | inl after ↦ let large = a.first b.doublings after in let fits : piece_count size (chunk * 2 ^ b.doublings) ≤ most = subst (λ n. piece_count size n ≤ most) b.is_multiple b.fits in absurd (omega arith)
    | inr back ↦ let level : a.doublings ≡ b.doublings = omega arith in a.is_multiple ∙ ap (λ d. chunk * 2 ^ d) level ∙ sym b.is_multiple
  ]
]

transfer_is_one : (config : Config) (limits : Limits) (size p q m n : ℕ) → IsTransfer config limits size p m → IsTransfer config limits size q n → (p ≡ q) × (m ≡ n)
transfer_is_one config limits size p q m n (inl a) (inl b) = (a.1 ∙ sym b.1, a.2 ∙ sym b.2)
transfer_is_one config limits size p q m n (inl a) (inr b) = let below = a.0 in let above = b.0 in absurd (omega arith)
transfer_is_one config limits size p q m n (inr a) (inl b) = let above = a.0 in let below = b.0 in absurd (omega arith)
transfer_is_one config limits size p q m n (inr a) (inr b) =
    let same = first_is_one config.chunk size limits.max_parts a.1.0 b.1.0 a.1.1 b.1.1 in
    let piece : p ≡ q = a.1.2 ∙ ap (within_limits limits) same ∙ sym b.1.2 in
    (piece, a.1.3 ∙ ap (piece_count size) piece ∙ sym b.1.3)

pub pieces_are_one : (config : Config) (limits : Limits) (of_kind : Kind) (size p q m n : ℕ) → HasPieces config limits of_kind size p m → HasPieces config limits of_kind size q n → (p ≡ q) × (m ≡ n)
pieces_are_one config limits kind.Upload size p q m n a b = transfer_is_one config limits size p q m n a b
pieces_are_one config limits kind.Download size p q m n a b = transfer_is_one config limits size p q m n a b
pieces_are_one config limits kind.Copy size p q m n a b = transfer_is_one config limits size p q m n a b
pieces_are_one config limits kind.RemoveObject size p q m n a b = (a.0 ∙ sym b.0, a.1 ∙ sym b.1)
pieces_are_one config limits kind.RemoveFile size p q m n a b = (a.0 ∙ sym b.0, a.1 ∙ sym b.1)

some_length : (limits : Limits) (found : ℕ) → IsValidLimits limits → 1 ≤ within_limits limits found
some_length limits found valid = which (nat_lt limits.max_part found)
  where
    which : (test : Bool) → 1 ≤ (if test then limits.max_part else max limits.min_part found)
    which true = let least = valid.min_part in let most = valid.parts in omega arith
    which false = let least = valid.min_part in omega arith

-- from the threshold on the pieces have a length, and are as many as cover the whole
pub in_parts : (config : Config) (limits : Limits) (size piece count : ℕ) → IsValidLimits limits → nat_lt size config.threshold ≡ false → IsTransfer config limits size piece count
    → (1 ≤ piece) × (count ≡ piece_count size piece) × (config.threshold ≤ size)
in_parts config limits size piece count valid large (inl a) = let above = ltb-false size config.threshold large in let below = a.0 in absurd (omega arith)
in_parts config limits size piece count valid large (inr b) = (subst (λ n. 1 ≤ n) (sym b.1.2) (some_length limits b.1.0 valid), b.1.3, b.0)

least_length : (limits : Limits) (found : ℕ) → IsValidLimits limits → limits.min_part ≤ within_limits limits found
least_length limits found valid = which (nat_lt limits.max_part found)
  where
    which : (test : Bool) → limits.min_part ≤ (if test then limits.max_part else max limits.min_part found)
    which true = valid.parts
    which false = omega arith

-- and a whole one is no shorter than the least that the service takes
pub least_piece : (config : Config) (limits : Limits) (size piece count : ℕ) → IsValidLimits limits → nat_lt size config.threshold ≡ false → IsTransfer config limits size piece count → limits.min_part ≤ piece
least_piece config limits size piece count valid large (inl a) = let above = ltb-false size config.threshold large in let below = a.0 in absurd (omega arith)
least_piece config limits size piece count valid large (inr b) = subst (λ n. limits.min_part ≤ n) (sym b.1.2) (least_length limits b.1.0 valid)

-- a piece begins inside the whole
pub begins_inside : (size piece number : ℕ) → 1 ≤ piece → 1 ≤ size → 1 ≤ number → number ≤ piece_count size piece → (number - 1) * piece < size
begins_inside size piece number some sized low high =
    let whole : piece_count size piece * piece ≤ size + piece - 1 = div-mul-le_self (size + piece - 1) piece in
    let up_to : number * piece ≤ piece_count size piece * piece = mul-le-mul_right piece high in
    let back : (number - 1) * piece + piece ≡ number * piece = one_less number low in
    omega arith
  where
    one_less : (n : ℕ) → 1 ≤ n → (n - 1) * piece + piece ≡ n * piece
    one_less zero l = absurd (omega arith)
    one_less (suc n) l = let back : suc n - 1 ≡ n = omega arith in rw back (omega arith)

-- what is not empty has a piece
pub some_pieces : (size piece : ℕ) → 1 ≤ size → 1 ≤ piece → 1 ≤ piece_count size piece
some_pieces size piece sized some = le-div 1 (size + piece - 1) piece some (omega arith)
