-- The pieces of a text, joined in order, are the text, and each is the range that a copy asks for.
use Rattle.std.proofs.Common.{◌≡◌, ◌∙◌, ◌+◌, ◌-◌, ◌*◌, ◌<◌, ◌≤◌, ◌++◌, ℕ, zero, suc, min, List, refl, sym, ap, length, take, drop, arith}
use Rattle.std.proofs.lemmas.List.{take_min, length-drop, length-take}
use Rattle.std.proofs.Math.Seq.{take-add, take_all, drop-drop}
use Rattle.s3_model.specs.Parts.{piece_count, piece_of}
use Rattle.run_promise.specs.Schedule.{asked_range}
use Rattle.s3_service.specs.Serves.{LiesWithin, bytes_within}
use Rattle.world_laws.specs.Multipart.{joined}
use Rattle.job_terms.proofs.PieceCounts.{begins_inside}

-- ---- numbers

covered : (size piece : ℕ) → 1 ≤ piece → size ≤ piece_count size piece * piece
covered size piece some = omega arith

-- ---- pieces

joined_take : (bytes : List ℕ) (piece n at : ℕ) → joined (piece_of bytes piece) (at + 1) n ≡ take (n * piece) (drop (at * piece) bytes)
joined_take bytes piece zero at = let none : 0 * piece ≡ 0 = omega arith in rw none refl
joined_take bytes piece (suc n) at =
    let here : at + 1 - 1 ≡ at = omega arith in
    let long : suc n * piece ≡ piece + n * piece = omega arith in
    let on : (at + 1) * piece ≡ at * piece + piece = omega arith in
    ap (λ k. take piece (drop (k * piece) bytes) ++ joined (piece_of bytes piece) (at + 1 + 1) n) here
    ∙ ap (λ rest. take piece (drop (at * piece) bytes) ++ rest)
    (joined_take bytes piece n (at + 1) ∙ ap (λ k. take (n * piece) (drop k bytes)) on ∙ ap (take (n * piece)) (sym (drop-drop piece (at * piece) bytes)))
    ∙ sym (take-add piece (n * piece) (drop (at * piece) bytes)) ∙ ap (λ k. take k (drop (at * piece) bytes)) (sym long)

-- all pieces of a text make the text
pub pieces_make_whole : (bytes : List ℕ) (piece : ℕ) → 1 ≤ piece → joined (piece_of bytes piece) 1 (piece_count (length bytes) piece) ≡ bytes
pieces_make_whole bytes piece some =
    joined_take bytes piece (piece_count (length bytes) piece) 0 ∙ ap (λ k. take (piece_count (length bytes) piece * piece) (drop k bytes)) none
    ∙ take_all (piece_count (length bytes) piece * piece) bytes (covered (length bytes) piece some)
  where
    none : 0 * piece ≡ 0
    none = omega arith

-- a piece is what its range names
pub piece_is_range : (bytes : List ℕ) (piece number : ℕ) → 1 ≤ piece → (number - 1) * piece < length bytes → bytes_within (asked_range (length bytes) piece number) bytes ≡ piece_of bytes piece number
piece_is_range bytes piece number some inside =
    let start = (number - 1) * piece in
    let long : start + min piece (length bytes - start) - 1 + 1 - start ≡ min piece (length bytes - start) = omega arith in
    ap (λ k. take k (drop start bytes)) (long ∙ ap (min piece) (sym (length-drop start bytes))) ∙ take_min piece (drop start bytes)

pub joined_same : (f g : ℕ → List ℕ) (n at : ℕ) → ((k : ℕ) → at ≤ k → k < at + n → f k ≡ g k) → joined f at n ≡ joined g at n
joined_same f g zero at same = refl
joined_same f g (suc n) at same =
    ap (λ piece. piece ++ joined f (at + 1) n) (same at (omega arith) (omega arith))
    ∙ ap (λ rest. g at ++ rest) (joined_same f g n (at + 1) (λ k low high. same k (omega arith) (omega arith)))

-- and so are all the ranges of a text
pub ranges_make_whole : (bytes : List ℕ) (piece : ℕ) → 1 ≤ piece → 1 ≤ length bytes
    → joined (λ n. bytes_within (asked_range (length bytes) piece n) bytes) 1 (piece_count (length bytes) piece) ≡ bytes
ranges_make_whole bytes piece some sized =
    joined_same (λ n. bytes_within (asked_range (length bytes) piece n) bytes) (piece_of bytes piece) (piece_count (length bytes) piece) 1
    (λ k low high. piece_is_range bytes piece k some (begins_inside (length bytes) piece k some sized low (omega arith)))
    ∙ pieces_make_whole bytes piece some

-- a piece before the last is a whole one
pub whole_piece : (bytes : List ℕ) (piece number : ℕ) → 1 ≤ piece → 1 ≤ length bytes → 1 ≤ number → number < piece_count (length bytes) piece → length (piece_of bytes piece number) ≡ piece
whole_piece bytes piece number some sized low before =
    let next = begins_inside (length bytes) piece (number + 1) some sized (omega arith) (omega arith) in
    let back : (number + 1 - 1) * piece ≡ (number - 1) * piece + piece = one_more number low in
    let left = length-drop ((number - 1) * piece) bytes in
    length-take piece (drop ((number - 1) * piece) bytes) ∙ omega arith
  where
    one_more : (n : ℕ) → 1 ≤ n → (n + 1 - 1) * piece ≡ (n - 1) * piece + piece
    one_more zero l = absurd (omega arith)
    one_more (suc n) l = let up_to : suc n + 1 - 1 ≡ n + 1 = omega arith in let back : suc n - 1 ≡ n = omega arith in rw up_to (rw back (omega arith))

-- a piece's range lies within the whole
pub range_within : (bytes : List ℕ) (piece number : ℕ) → 1 ≤ piece → 1 ≤ length bytes → 1 ≤ number → number ≤ piece_count (length bytes) piece → LiesWithin (asked_range (length bytes) piece number) bytes
range_within bytes piece number some sized low high =
    let inside = begins_inside (length bytes) piece number some sized low high in
    (omega arith, omega arith)
