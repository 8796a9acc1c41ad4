-- Where a text is cut.
use Rattle.std.proofs.Common.{◌≡◌, ◌<◌, ◌≤◌, ℕ, zero, suc, true, false, List, length, min, take, refl, arith, slice_index, ⊎_elim, Bool, sym, ◌∙◌, subst}
use Rattle.std.proofs.lemmas.Bool.{cases_lt}
use Rattle.std.proofs.lemmas.Bool.Decides.{nat_tests}
use Rattle.std.proofs.lemmas.List.{get_or_past}
use Rattle.std.specs.Fmt.{is_char_start}
use Rattle.std.specs.Fmt.Cut.{floor_char_boundary}
use Rattle.std.specs.Str.{IsCharBoundary}

start-boundary : (bs : List ℕ) (i : ℕ) → i ≤ length bs → is_char_start (slice_index bs i) ≡ true → IsCharBoundary bs i
start-boundary bs i within start = (within, λ inside high. grind (arith, nat_tests))

inside-start : (bs : List ℕ) (i : ℕ) → IsCharBoundary bs i → i < length bs → is_char_start (slice_index bs i) ≡ true
inside-start bs i boundary inside = ⊎_elim (λ low. grind (arith, nat_tests)) (λ high. let next = boundary.1 inside high in grind (arith, nat_tests)) (cases_lt (slice_index bs i) 128)

boundary-start : (bs : List ℕ) (i : ℕ) → IsCharBoundary bs i → is_char_start (slice_index bs i) ≡ true
boundary-start bs i boundary = ⊎_elim (inside-start bs i boundary) (λ end. rw (get_or_past bs i 0 end) refl) (cases_lt i (length bs))

floor_at : (bs : List ℕ) (limit : ℕ) → is_char_start (slice_index bs (suc limit)) ≡ true → floor_char_boundary bs (suc limit) ≡ suc limit
unfolding floor_char_boundary
floor_at bs limit start = rw start refl

floor_below : (bs : List ℕ) (limit : ℕ) → is_char_start (slice_index bs (suc limit)) ≡ false → floor_char_boundary bs (suc limit) ≡ floor_char_boundary bs limit
unfolding floor_char_boundary
floor_below bs limit inner = rw inner refl

not-start : (bs : List ℕ) (i : ℕ) → i ≤ length bs → ¬ (IsCharBoundary bs i) → is_char_start (slice_index bs i) ≡ false
not-start bs i within inner = by (is_char_start (slice_index bs i)) refl
  where
    by : (t : Bool) → is_char_start (slice_index bs i) ≡ t → t ≡ false
    by true start = absurd (inner (start-boundary bs i within start))
    by false start = refl

-- the last boundary at or below a place
floor-is : (bs : List ℕ) (limit at : ℕ) → limit ≤ length bs → at ≤ limit → IsCharBoundary bs at
    → ((i : ℕ) → at < i → i ≤ limit → ¬ (IsCharBoundary bs i)) → floor_char_boundary bs limit ≡ at
unfolding floor_char_boundary
floor-is bs zero at within low here next = omega arith
floor-is bs (suc limit) at within low here next = ⊎_elim
    (λ below. floor_below bs limit (not-start bs (suc limit) within (next (suc limit) below (omega arith)))
    ∙ floor-is bs limit at (omega arith) (omega arith) here (λ i above up. next i above (omega arith)))
    (λ above. let same : at ≡ suc limit = omega arith in
    floor_at bs limit (boundary-start bs (suc limit) (subst (λ (i : ℕ). IsCharBoundary bs i) same here)) ∙ sym same)
    (cases_lt at (suc limit))

pub cut_is : (bs : List ℕ) (limit at : ℕ) → at ≤ limit → IsCharBoundary bs at → ((i : ℕ) → at < i → i ≤ limit → ¬ (IsCharBoundary bs i))
    → take at bs ≡ take (floor_char_boundary bs (min limit (length bs))) bs
cut_is bs limit at low here next =
    rw (floor-is bs (min limit (length bs)) at (omega arith) (omega (arith, here.0)) here (λ i above up. next i above (omega arith)))
