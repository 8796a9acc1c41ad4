-- The ranges of a download: inside the whole, apart from each other, and up to its end.
use Rattle.std.proofs.Common.{◌≡◌, ◌≢◌, ◌∙◌, ◌⊎◌, ◌+◌, ◌-◌, ◌*◌, ◌<◌, ◌≤◌, ℕ, zero, suc, Bool, true, false, min, refl, sym, ap, subst, inl, inr, arith}
use Rattle.std.proofs.lemmas.Bool.{cases_order}
use Rattle.std.proofs.Math.Nat.{mul-le-mul_right}
use Rattle.s3_model.specs.declared.tasks.Kind.TheVariants as kind
use Rattle.s3_model.specs.declared.tasks.Kind.{Kind}
use Rattle.s3_model.specs.declared.tasks.Task.{Task}
use Rattle.s3_model.specs.Parts.{HasPieces, piece_count}
use Rattle.s3_model.specs.Validity.{IsValidLimits}
use Rattle.run_promise.specs.Schedule.{Setting, is_small}
use Rattle.job_terms.proofs.PieceCounts.{in_parts, pieces_are_one, begins_inside, some_pieces}
use Rattle.run_promise.specs.FileCalls.{IsRange, IsRangeIn}

-- in parts the pieces have a length, and are as many as cover the whole, which is not empty
abbrev pub AreSound : Bool → ℕ → ℕ → ℕ → Type 0
AreSound small size piece count = small ≡ false → (1 ≤ piece) × (count ≡ piece_count size piece) × (1 ≤ size)

covered : (size piece : ℕ) → 1 ≤ piece → size ≤ piece_count size piece * piece
covered size piece some = omega arith

one_more : (piece k : ℕ) → 1 ≤ k → (k - 1) * piece + piece ≡ k * piece
one_more piece zero low = absurd (omega arith)
one_more piece (suc k) low = let back : suc k - 1 ≡ k = omega arith in rw back (omega arith)

-- a piece ends where the next one begins
next_begins : (piece m n : ℕ) → 1 ≤ m → m < n → (m - 1) * piece + piece ≤ (n - 1) * piece
next_begins piece m n low before =
    let on : m ≤ n - 1 = omega arith in
    let up : m * piece ≤ (n - 1) * piece = mul-le-mul_right piece on in
    let same = one_more piece m low in
    omega arith

pub ranges_apart : (small : Bool) (size piece count m at l n from k : ℕ) → IsRangeIn small size piece count m at l → IsRangeIn small size piece count n from k → (from ≢ at)
    → (from + k ≤ at) ⊎ (at + l ≤ from)
ranges_apart true size piece count m at l n from k a b other = absurd (other (b.1 ∙ sym a.1))
ranges_apart false size piece count m at l n from k a b other = by (cases_order m n)
  where
    at_is : (m - 1) * piece ≡ at
    at_is = ap (λ (p : ℕ × ℕ). p.0) a.2

    l_is : min piece (size - (m - 1) * piece) ≡ l
    l_is = ap (λ (p : ℕ × ℕ). p.1) a.2

    from_is : (n - 1) * piece ≡ from
    from_is = ap (λ (p : ℕ × ℕ). p.0) b.2

    k_is : min piece (size - (n - 1) * piece) ≡ k
    k_is = ap (λ (p : ℕ × ℕ). p.1) b.2

    by : (m ≡ n) ⊎ (m < n) ⊎ (n < m) → (from + k ≤ at) ⊎ (at + l ≤ from)
    by (inl same) = absurd (other (sym from_is ∙ ap (λ (x : ℕ). (x - 1) * piece) (sym same) ∙ at_is))
    by (inr (inl before)) = let next = next_begins piece m n a.0 before in let p = at_is in let q = l_is in let r = from_is in inr (omega arith)
    by (inr (inr after)) = let next = next_begins piece n m b.0 after in let p = at_is in let q = from_is in let r = k_is in inl (omega arith)

pub range_inside : (small : Bool) (size piece count m at l : ℕ) → AreSound small size piece count → IsRangeIn small size piece count m at l → at + l ≤ size
range_inside true size piece count m at l sound a = let p = a.1 in let q = a.2 in omega arith
range_inside false size piece count m at l sound a =
    let is = sound refl in
    let begins = begins_inside size piece m is.0 is.2 a.0 (subst (λ (c : ℕ). m ≤ c) is.1 a.1) in
    let p : (m - 1) * piece ≡ at = ap (λ (p : ℕ × ℕ). p.0) a.2 in
    let q : min piece (size - (m - 1) * piece) ≡ l = ap (λ (p : ℕ × ℕ). p.1) a.2 in
    omega arith

-- a place has one range
pub range_one : (small : Bool) (size piece count m at l n k : ℕ) → AreSound small size piece count → IsRangeIn small size piece count m at l → IsRangeIn small size piece count n at k → (m ≡ n) × (l ≡ k)
range_one true size piece count m at l n k sound a b = (a.0 ∙ sym b.0, a.2 ∙ sym b.2)
range_one false size piece count m at l n k sound a b = by (cases_order m n)
  where
    some : 1 ≤ piece
    some = (sound refl).0

    p : (m - 1) * piece ≡ at
    p = ap (λ (p : ℕ × ℕ). p.0) a.2

    q : (n - 1) * piece ≡ at
    q = ap (λ (p : ℕ × ℕ). p.0) b.2

    by : (m ≡ n) ⊎ (m < n) ⊎ (n < m) → (m ≡ n) × (l ≡ k)
    by (inl same) = (same, sym (ap (λ (p : ℕ × ℕ). p.1) a.2) ∙ ap (λ (x : ℕ). min piece (size - (x - 1) * piece)) same ∙ ap (λ (p : ℕ × ℕ). p.1) b.2)
    by (inr (inl before)) = let next = next_begins piece m n a.0 before in let s = some in let e = p in let f = q in absurd (omega arith)
    by (inr (inr after)) = let next = next_begins piece n m b.0 after in let s = some in let e = p in let f = q in absurd (omega arith)

-- some range ends where the whole ends
pub last_range : (small : Bool) (size piece count : ℕ) → AreSound small size piece count → (m : ℕ) × (at : ℕ) × (l : ℕ) × IsRangeIn small size piece count m at l × (at + l ≡ size)
last_range true size piece count sound = (0, 0, size, (refl, refl, refl), omega arith)
last_range false size piece count sound = (count, (count - 1) * piece, min piece (size - (count - 1) * piece), (some, omega arith, refl), ends)
  where
    some : 1 ≤ count
    some = let is = sound refl in subst (λ (c : ℕ). 1 ≤ c) (sym is.1) (some_pieces size piece is.2 is.0)

    ends : (count - 1) * piece + min piece (size - (count - 1) * piece) ≡ size
    ends =
        let is = sound refl in
        let begins = begins_inside size piece count is.0 is.2 some (subst (λ (c : ℕ). count ≤ c) is.1 (omega arith)) in
        let all : size ≤ count * piece = subst (λ (c : ℕ). size ≤ c * piece) (sym is.1) (covered size piece is.0) in
        let next : (count - 1) * piece + piece ≡ count * piece = one_more piece count some in
        omega arith

-- the pieces of a download are sound
pub are_sound : (s : Setting) (task : Task) (piece count : ℕ) → 1 ≤ s.config.threshold → IsValidLimits s.limits → task.kind ≡ kind.Download
    → HasPieces s.config s.limits task.kind task.size piece count → AreSound (is_small s task) task.size piece count
are_sound s task piece count least limits load has large =
    let is = in_parts s.config s.limits task.size piece count limits large (subst (λ (k : Kind). HasPieces s.config s.limits k task.size piece count) load has) in
    (is.0, is.1, (let up = is.2 in omega arith))

-- a range of the task is one of these pieces
pub range_in : (s : Setting) (task : Task) (piece count number at long : ℕ) → HasPieces s.config s.limits task.kind task.size piece count → IsRange s task number at long
    → IsRangeIn (is_small s task) task.size piece count number at long
range_in s task piece count number at long has range =
    let one = pieces_are_one s.config s.limits task.kind task.size range.0 piece range.1 count range.2 has in
    subst (λ (c : ℕ). IsRangeIn (is_small s task) task.size piece c number at long) one.1
    (subst (λ (p : ℕ). IsRangeIn (is_small s task) task.size p range.1 number at long) one.0 range.3)
