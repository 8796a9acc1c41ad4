-- The pieces of an object.
use Rattle.std.proofs.Common.{◌≡◌, ◌<◌, ◌≤◌, ◌+◌, ◌-◌, ◌*◌, ◌∙◌, inl, inr, ℕ, zero, suc, List, ◌++◌, ap, sym, subst, refl, map, length, take, drop, min, arith, length-take, length-drop}
use Rattle.std.specs.List.{concat, range_with_len}
use Rattle.std.proofs.Math.Nat.{zero-mul}
use Rattle.std.proofs.Math.Seq.{take-add}
use Rattle.std.proofs.lemmas.List.{drop-drop, take_all, take_min}
use Rattle.s3_model.specs.declared.settings.Limits.{Limits}
use Rattle.s3_model.specs.Parts.{piece_count, piece_of, piece_range, within_limits}
use Rattle.chunk_plan.specs.Cover.{IsCut, KeepsLimits, PiecesCoverTheObject}
use Rattle.chunk_plan.proofs.Counts.{begins_inside, count_covers}
use Rattle.chunk_plan.proofs.Lengths.{length_fits, length_least, length_most}

-- n pieces from number k + 1 on are n times the length
joined : (bytes : List ℕ) (p n k : ℕ) → concat (map (piece_of bytes p) (range_with_len (k + 1) n)) ≡ take (n * p) (drop (k * p) bytes)
joined bytes p zero k = rw zero-mul refl
joined bytes p (suc n) k =
    let here : take p (drop ((k + 1 - 1) * p) bytes) ≡ take p (drop (k * p) bytes) =
    let same : (k + 1 - 1) * p ≡ k * p = ap (λ m. m * p) (omega arith) in ap (λ m. take p (drop m bytes)) same in
    let later = joined bytes p n (k + 1) in
    let next : drop ((k + 1) * p) bytes ≡ drop p (drop (k * p) bytes) =
    let sum : (k + 1) * p ≡ k * p + p = omega arith in ap (λ m. drop m bytes) sum ∙ sym (drop-drop p (k * p) bytes) in
    let cut : take (suc n * p) (drop (k * p) bytes) ≡ take p (drop (k * p) bytes) ++ take (n * p) (drop p (drop (k * p) bytes)) =
    let sum : suc n * p ≡ p + n * p = omega arith in ap (λ m. take m (drop (k * p) bytes)) sum ∙ take-add p (n * p) (drop (k * p) bytes) in
    cc

piece_length : (bytes : List ℕ) (p number : ℕ) → length (piece_of bytes p number) ≡ min p (length bytes - (number - 1) * p)
piece_length bytes p number = length-take p (drop ((number - 1) * p) bytes) ∙ ap (min p) (length-drop ((number - 1) * p) bytes)

piece_placed : (bytes : List ℕ) (p number : ℕ)
    → piece_of bytes p number ≡ take (piece_range (length bytes) p number).1 (drop (piece_range (length bytes) p number).0 bytes)
piece_placed bytes p number =
    let rest = drop ((number - 1) * p) bytes in
    sym (ap (λ m. take (min p m) rest) (sym (length-drop ((number - 1) * p) bytes)) ∙ take_min p rest)

sum_before : (number p : ℕ) → 1 ≤ number → (number - 1) * p + p ≡ number * p
sum_before number p first = let same : (number - 1 + 1) * p ≡ number * p = ap (λ m. m * p) (omega arith) in omega arith

-- what makes a length and a count a cut
cut_from : (bytes : List ℕ) (p count : ℕ) → length bytes ≤ count * p → (0 < length bytes → 0 < p)
    → ((k : ℕ) → k < count → 0 < length bytes → k * p < length bytes) → (1 < count → 0 < length bytes) → IsCut bytes p count
cut_from bytes p count covers some inside many = record {
  covered =
      let all = joined bytes p count 0 in
      let whole : take (count * p) (drop (0 * p) bytes) ≡ bytes = rw zero-mul (take_all (count * p) bytes covers) in
      all ∙ whole;
  full = λ number first last.
      let within : number * p < length bytes = inside number last (many (omega arith)) in
      let before : (number - 1) * p + p ≡ number * p = sum_before number p first in
      let size = piece_length bytes p number in
      omega arith;
  filled = λ number within some_bytes.
      let begins : (number - 1) * p < length bytes = inside (number - 1) (omega (arith, within.least, within.most)) some_bytes in
      let positive : 0 < p = some some_bytes in
      let size = piece_length bytes p number in
      omega arith;
  placed = λ number _. piece_placed bytes p number;
}

limits_from : (limits : Limits) (bytes : List ℕ) (p count : ℕ) → IsCut bytes p count → count ≤ limits.max_parts → limits.min_part ≤ p → p ≤ limits.max_part
    → KeepsLimits limits bytes p count
limits_from limits bytes p count cut few least most = record {
  few = few;
  least = λ number first last. let whole = cut.full number first last in omega arith;
  most = λ number. let size = piece_length bytes p number in omega arith;
}

-- below the threshold the one piece is the object
one_piece : (bytes : List ℕ) → IsCut bytes (length bytes) 1
one_piece bytes =
    cut_from bytes (length bytes) 1 (omega arith) (λ some. some)
    (λ k first some. let none : k * length bytes ≡ 0 * length bytes = ap (λ m. m * length bytes) (omega arith) in omega arith) (λ more. absurd (omega arith))

many_pieces : (bytes : List ℕ) (p : ℕ) → 0 < p → 0 < length bytes → IsCut bytes p (piece_count (length bytes) p)
many_pieces bytes p some some_bytes =
    cut_from bytes p (piece_count (length bytes) p) (count_covers (length bytes) p some) (λ _. some) (λ k last _. begins_inside (length bytes) p k some last) (λ _. some_bytes)

at_equals : (P : ℕ → ℕ → Type 0) (p q n m : ℕ) → p ≡ q → n ≡ m → P q m → P p n
at_equals P p q n m is_q is_m h = subst (λ (x : ℕ). P x n) (sym is_q) (subst (λ (y : ℕ). P q y) (sym is_m) h)

pub pieces_cover : PiecesCoverTheObject
pieces_cover config limits bytes piece count valid_config valid_limits within (inl small) = record {
  cut = at_equals (IsCut bytes) piece (length bytes) count 1 small.1 small.2 (one_piece bytes);
  limits_kept = λ large. absurd (let below = small.0 in omega arith);
}
pieces_cover config limits bytes piece count valid_config valid_limits within (inr large) =
    let parts = large.1 in
    let found = parts.0 in
    let fits = within_limits limits found in
    let enough = large.0 in
    let least = length_least limits found valid_limits.parts in
    let is_count : count ≡ piece_count (length bytes) fits = parts.3 ∙ ap (piece_count (length bytes)) parts.2 in
    let cut = many_pieces bytes fits (omega (arith, valid_limits.min_part)) (omega (arith, valid_config.threshold.least)) in
    let few = length_fits limits config.chunk (length bytes) found valid_limits valid_config.chunk.least within parts.1 in
    let kept = limits_from limits bytes fits (piece_count (length bytes) fits) cut few least (length_most limits found valid_limits.parts) in
    record {
      cut = at_equals (IsCut bytes) piece fits count (piece_count (length bytes) fits) parts.2 is_count cut;
      limits_kept = λ _. at_equals (KeepsLimits limits bytes) piece fits count (piece_count (length bytes) fits) parts.2 is_count kept;
    }
