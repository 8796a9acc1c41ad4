-- Where the first byte stands that passes a test, and the lines that a text is cut into.
use Rattle.std.proofs.Common.{◌≡◌, ◌<◌, ◌≤◌, ◌-◌, ◌==◌, ℕ, Bool, true, false, ltb, List, [], ◌∷◌, length, take, drop, refl, sym, ap, ◌∙◌, None, Some, arith}
use Rattle.std.specs.List.{All, list_any, position, position_or_len, before_first, after_first, slice_split, onto_first}
use Rattle.std.specs.Str.Lines.{lines, lines_of_parts, strip_carriage_return}
use Rattle.std.proofs.lemmas.Bool.{ltb-true, ltb-false, cond_both, both_ways, false_from_ne_true, ne_eqb, cond-false}
use Rattle.std.proofs.lemmas.Grind.{common_steps}
use Rattle.std.proofs.lemmas.Option.{cond_some}
use Rattle.std.proofs.lemmas.List.Folds.{list_any_at}
use Rattle.std.proofs.lemmas.List.Splits.{slice_split_first, slice_split_none}
use Rattle.shared_lemmas.proofs.Places.{list_any-position}

module _ {X : Type 0} (p : X → Bool) where
  pub position_found : (xs : List X) (at : ℕ) → position p xs ≡ Some at → (list_any p xs ≡ true) × (position_or_len p xs ≡ at) × (at < length xs)
  position_found xs at e =
      let parts = cond_some (ltb (position_or_len p xs) (length xs)) (position_or_len p xs) at e in
      let inside : position_or_len p xs < length xs = ltb-true _ _ parts.0 in
      (list_any-position p xs ∙ parts.0, parts.1, omega arith)

  pub position_missed : (xs : List X) → position p xs ≡ None → (list_any p xs ≡ false) × (length xs ≤ position_or_len p xs)
  position_missed xs e =
      let outside : ltb (position_or_len p xs) (length xs) ≡ false = grind arith in
      (list_any-position p xs ∙ outside, ltb-false _ _ outside)

  none_passes : (xs : List X) → list_any p xs ≡ false → All (λ x. p x ≡ false) xs
  none_passes xs h = λ k d l. false_from_ne_true _ (λ e. both_ways _ h (list_any_at p xs k d l e))

-- all that is left of a list from a place on
pub take_rest : {X : Type 0} (n : ℕ) (xs : List X) → take (length xs - n) (drop n xs) ≡ drop n xs
take_rest n xs = grind (arith, common_steps)

onto_first_some : {X : Type 0} (x : X) (parts : List (List X)) → (part : List X) × (more : List (List X)) × (onto_first x parts ≡ part ∷ more)
onto_first_some x [] = (x ∷ [], [], refl)
onto_first_some x (part ∷ parts) = (x ∷ part, parts, refl)

-- there is always a first part
some_part : {X : Type 0} (p : X → Bool) (xs : List X) → (part : List X) × (more : List (List X)) × (slice_split p xs ≡ part ∷ more)
some_part p [] = ([], [], refl)
some_part {X} p (x ∷ xs) =
    cond_both (p x) ([] ∷ slice_split p xs) (onto_first x (slice_split p xs)) (λ parts. (part : List X) × (more : List (List X)) × (parts ≡ part ∷ more))
    (λ _. ([], slice_split p xs, refl)) (λ _. onto_first_some x (slice_split p xs))

abbrev pub is_line_feed : ℕ → Bool
is_line_feed byte = byte == 10

-- the part in front of a line feed is a line
part_more : (first : List ℕ) (parts : List (List ℕ)) (part : List ℕ) (more : List (List ℕ)) → parts ≡ part ∷ more → lines_of_parts (first ∷ parts) ≡ strip_carriage_return first ∷ lines_of_parts parts
part_more first parts part more e = rw e refl

pub lines_found : (file : List ℕ) → list_any is_line_feed file ≡ true → lines file ≡ strip_carriage_return (before_first is_line_feed file) ∷ lines (after_first is_line_feed file)
lines_found file h =
    let inside : position_or_len is_line_feed file < length file = ltb-true _ _ (sym (list_any-position is_line_feed file) ∙ h) in
    let rest = some_part is_line_feed (after_first is_line_feed file) in
    ap lines_of_parts (slice_split_first is_line_feed file 0 inside) ∙ part_more _ _ rest.0 rest.1 rest.2

pub lines_one : (file : List ℕ) → 0 < length file → list_any is_line_feed file ≡ false → lines file ≡ file ∷ []
lines_one file some h =
    ap lines_of_parts (slice_split_none is_line_feed file (none_passes is_line_feed file h)) ∙ cond-false _ _ _ (ne_eqb (length file) 0 (λ (e : length file ≡ 0). omega arith))
