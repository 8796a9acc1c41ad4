-- Texts of headers, one more header at a time.
use Rattle.std.proofs.Common.{◌≡◌, ◌<◌, ◌+◌, ◌++◌, ◌∷◌, ℕ, suc, Bool, true, false, nat_eq, List, [], Bor, sym, refl, length, get_or, take, map, append_assoc, append-nil, arith, String, Global, string_bytes}
use Rattle.std.specs.List.{flat_map, join_with_byte}
use Rattle.std.proofs.lemmas.Grind.{flat_map-append}
use Rattle.std.proofs.lemmas.List.{map_more, length-map, length-take-le, length-append, map-append}
use Rattle.std.proofs.lemmas.Bool.Decides.{nat_tests}
use Rattle.std.proofs.lemmas.List.Elements.{filter-append}
use Rattle.s3_signing.specs.declared.headers.Header.{Header}
use Rattle.s3_signing.specs.Pairs.{Pair}
use Rattle.s3_signing.specs.Headers.{text_pairs, pairs_of, next_piece}
use Rattle.s3_signing.specs.Signing.{canonical_header, parameter, parameters, signed_names, words}
use Rattle.shared_lemmas.proofs.Tests.{suc_is_not_zero}

-- one more piece of a joined text
pub join_more : (c : ℕ) (pieces : List (List ℕ)) (piece : List ℕ) → join_with_byte c (pieces ++ piece ∷ []) ≡ join_with_byte c pieces ++ next_piece (c ∷ []) (nat_eq (length pieces) 0) piece
join_more c [] piece = refl
join_more c (x ∷ []) piece = refl
join_more c (x ∷ y ∷ rest) piece =
    rw (join_more c (y ∷ rest) piece, suc_is_not_zero (length rest), suc_is_not_zero (suc (length rest))) (sym (append_assoc x (c ∷ join_with_byte c (y ∷ rest)) ((c ∷ []) ++ piece)))

-- one more name
pub signed_names_more : (headers : List Header) (i : ℕ) (d : Header) → i < length headers → signed_names (pairs_of (take (i + 1) headers)) ≡ signed_names (pairs_of (take i headers)) ++ next_piece (59 ∷ []) (nat_eq i 0) (get_or headers i d).name.now
unfolding signed_names
signed_names_more headers i d h =
    let long : length (take i headers) ≡ i = length-take-le i headers (omega arith) in
    rw (map_more {Y = Pair} (λ (h : Header). (h.name.now, h.value.now)) headers i d h, map-append, join_more, length-map, length-map, long) refl

-- one more piece of a value: a word, or nothing
pub words_more : (pieces : List (Bor (List ℕ))) (piece : Bor (List ℕ)) → nat_eq (length piece.now) 0 ≡ false → words (map (λ p. p.now) (pieces ++ piece ∷ [])) ≡ words (map (λ p. p.now) pieces) ++ piece.now ∷ []
words_more pieces piece h = simp (map-append, filter-append, h)

pub words_same : (pieces : List (Bor (List ℕ))) (piece : Bor (List ℕ)) → nat_eq (length piece.now) 0 ≡ true → words (map (λ p. p.now) (pieces ++ piece ∷ [])) ≡ words (map (λ p. p.now) pieces)
words_same pieces piece h = simp (map-append, filter-append, h, append-nil)

pub more_not_empty : (pieces : List (List ℕ)) (piece : List ℕ) → false ≡ nat_eq (length (pieces ++ piece ∷ [])) 0
more_not_empty pieces piece = rw length-append (grind (arith, nat_tests))

-- a text that ends in the first names, after one more name
pub signed_names_step : (headers : List Header) (i : ℕ) (d : Header) (before after old : List ℕ) → i < length headers → before ≡ old ++ signed_names (pairs_of (take i headers)) → after ≡ before ++ next_piece (59 ∷ []) (nat_eq i 0) (get_or headers i d).name.now → after ≡ old ++ signed_names (pairs_of (take (i + 1) headers))
signed_names_step headers i d before after old h b a = rw (a, b, signed_names_more headers i d h, append_assoc)

-- one more header
pub canonical_headers_step : (headers : List Header) (i : ℕ) (d : Header) (before after old : List ℕ) → i < length headers → before ≡ old ++ flat_map canonical_header (pairs_of (take i headers)) → after ≡ before ++ canonical_header ((get_or headers i d).name.now, (get_or headers i d).value.now) → after ≡ old ++ flat_map canonical_header (pairs_of (take (i + 1) headers))
canonical_headers_step headers i d before after old h b a =
    let one : Pair = ((get_or headers i d).name.now, (get_or headers i d).value.now) in
    let front = pairs_of (take i headers) in
    rw (a, b, map_more {Y = Pair} (λ (h : Header). (h.name.now, h.value.now)) headers i d h, flat_map-append canonical_header front (one ∷ []), append-nil (canonical_header one), append_assoc old (flat_map canonical_header front) (canonical_header one)) refl

-- what follows the first part of a piece
pub next_piece-append : (separator : List ℕ) (first : Bool) (a b : List ℕ) → next_piece separator first a ++ b ≡ next_piece separator first (a ++ b)
next_piece-append separator true a b = refl
next_piece-append separator false a b = append_assoc separator a b

-- one more parameter
parameters_more : (pairs : List (String Global × String Global)) (i : ℕ) (d : String Global × String Global) → i < length pairs → parameters (text_pairs (take (i + 1) pairs)) ≡ parameters (text_pairs (take i pairs)) ++ next_piece (38 ∷ []) (nat_eq i 0) (parameter (string_bytes (get_or pairs i d).0, string_bytes (get_or pairs i d).1))
unfolding parameters
parameters_more pairs i d h =
    let long : length (take i pairs) ≡ i = length-take-le i pairs (omega arith) in
    rw (map_more {Y = Pair} (λ (p : String Global × String Global). (string_bytes p.0, string_bytes p.1)) pairs i d h, map-append, join_more, length-map, length-map, long) refl

pub parameters_step : (pairs : List (String Global × String Global)) (i : ℕ) (d : String Global × String Global) (before after old : List ℕ) → i < length pairs → before ≡ old ++ parameters (text_pairs (take i pairs)) → after ≡ before ++ next_piece (38 ∷ []) (nat_eq i 0) (parameter (string_bytes d.0, string_bytes d.1)) → d ≡ get_or pairs i d → after ≡ old ++ parameters (text_pairs (take (i + 1) pairs))
parameters_step pairs i d before after old h b a e = rw (a, b, parameters_more pairs i d h, ← e, append_assoc)
