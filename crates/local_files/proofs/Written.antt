-- Bytes written over others from a place on: they stand there, and what stands beside them stays.
use Rattle.std.proofs.Common.{append_assoc, ◌≡◌, ◌∙◌, ◌⊎◌, ◌+◌, ◌-◌, ◌++◌, ◌≤◌, ℕ, List, sym, ap, inl, inr, length, take, drop, arith}
use Rattle.std.specs.Prelude.{replicate}
use Rattle.std.proofs.lemmas.List.{drop-append-le, drop-drop, drop-take, length-append, length-drop, length-replicate, length-take-le, take-append-le, take-take}
use Rattle.std.proofs.Math.Seq.{drop-append-add, drop-append_seam, take-append_seam}
use Rattle.local_files.specs.Calls.{written_at}

-- what stands before the place, with zeros where nothing did
filled : ℕ → List ℕ → List ℕ
filled at old = old ++ replicate (at - length old) 0

front_of : ℕ → List ℕ → List ℕ
front_of at old = take at (filled at old)

front_length : (at : ℕ) (old : List ℕ) → length (front_of at old) ≡ at
unfolding front_of filled
front_length at old =
    let all : length (old ++ replicate (at - length old) 0) ≡ length old + length (replicate {A = ℕ} (at - length old) 0) = length-append old (replicate (at - length old) 0) in
    let zeros : length (replicate {A = ℕ} (at - length old) 0) ≡ at - length old = length-replicate (at - length old) 0 in
    length-take-le at (old ++ replicate (at - length old) 0) (omega arith)

written_is : (at : ℕ) (bytes old : List ℕ) → written_at at bytes old ≡ front_of at old ++ (bytes ++ drop (at + length bytes) old)
unfolding front_of filled
written_is at bytes old = append_assoc (front_of at old) bytes (drop (at + length bytes) old)

pub written_length : (at : ℕ) (bytes old : List ℕ) (most : ℕ) → length old ≤ most → at + length bytes ≤ most
    → (length (written_at at bytes old) ≤ most) × (at + length bytes ≤ length (written_at at bytes old)) × (length old ≤ length (written_at at bytes old))
written_length at bytes old most up_to inside =
    let here = front_length at old in
    let parts = length-append (front_of at old) (bytes ++ drop (at + length bytes) old) in
    let rest = length-append bytes (drop (at + length bytes) old) in
    let after = length-drop (at + length bytes) old in
    let all = ap (λ (xs : List ℕ). length xs) (written_is at bytes old) in
    (omega arith, omega arith, omega arith)

pub written_there : (at : ℕ) (bytes old : List ℕ) → take (length bytes) (drop at (written_at at bytes old)) ≡ bytes
written_there at bytes old =
    let rest = bytes ++ drop (at + length bytes) old in
    ap (λ (xs : List ℕ). take (length bytes) (drop at xs)) (written_is at bytes old)
    ∙ ap (λ (k : ℕ). take (length bytes) (drop k (front_of at old ++ rest))) (sym (front_length at old))
    ∙ ap (take (length bytes)) (drop-append_seam (front_of at old) rest) ∙ take-append_seam bytes (drop (at + length bytes) old)

before_it : (at from long : ℕ) (bytes old : List ℕ) → from + long ≤ length old → from + long ≤ at → take long (drop from (written_at at bytes old)) ≡ take long (drop from old)
unfolding front_of filled
before_it at from long bytes old held before =
    let rest = bytes ++ drop (at + length bytes) old in
    let here = front_length at old in
    let split : at ≡ from + (at - from) = omega arith in
    let in_front : long ≤ length (drop from (front_of at old)) = let l = length-drop from (front_of at old) in omega arith in
    let in_old : long ≤ length (drop from old) = let l = length-drop from old in omega arith in
    ap (λ (xs : List ℕ). take long (drop from xs)) (written_is at bytes old)
    ∙ ap (take long) (drop-append-le from (front_of at old) rest (omega arith))
    ∙ take-append-le long (drop from (front_of at old)) rest in_front
    ∙ ap (λ (k : ℕ). take long (drop from (take k (filled at old)))) split
    ∙ ap (take long) (drop-take from (at - from) (filled at old))
    ∙ take-take long (at - from) (drop from (filled at old)) (omega arith)
    ∙ ap (take long) (drop-append-le from old (replicate (at - length old) 0) (omega arith))
    ∙ take-append-le long (drop from old) (replicate (at - length old) 0) in_old

behind_it : (at from long : ℕ) (bytes old : List ℕ) → at + length bytes ≤ from → take long (drop from (written_at at bytes old)) ≡ take long (drop from old)
behind_it at from long bytes old behind =
    let rest = drop (at + length bytes) old in
    let whole = front_of at old ++ bytes in
    let size : length whole ≡ at + length bytes = let l = length-append (front_of at old) bytes in let here = front_length at old in omega arith in
    let split : from ≡ length whole + (from - (at + length bytes)) = omega arith in
    let back : at + length bytes + (from - (at + length bytes)) ≡ from = omega arith in
    ap (λ (xs : List ℕ). take long (drop from xs)) (written_is at bytes old ∙ sym (append_assoc (front_of at old) bytes rest))
    ∙ ap (λ (k : ℕ). take long (drop k (whole ++ rest))) split
    ∙ ap (take long) (drop-append-add whole rest (from - (at + length bytes)) ∙ drop-drop (from - (at + length bytes)) (at + length bytes) old)
    ∙ ap (λ (k : ℕ). take long (drop k old)) back

-- what lies apart from the place stays
pub written_beside : (at from long : ℕ) (bytes old : List ℕ) → from + long ≤ length old → (from + long ≤ at) ⊎ (at + length bytes ≤ from)
    → take long (drop from (written_at at bytes old)) ≡ take long (drop from old)
written_beside at from long bytes old held (inl before) = before_it at from long bytes old held before
written_beside at from long bytes old held (inr behind) = behind_it at from long bytes old behind
