-- Where the first element stands that passes a test, and what the list is around it.
use Rattle.std.proofs.Common.{◌≡◌, ◌<◌, ◌≤◌, Bool, true, false, ltb, List, [], ◌∷◌, ◌++◌, length, get_or, take, sym, ap, ◌∙◌, None, Some, arith}
use Rattle.std.specs.List.{All, position, position_or_len, before_first, after_first}
use Rattle.std.proofs.lemmas.Bool.{cond-true, lt-ltb, le-ltb, false_from_ne_true, both_ways}
use Rattle.std.proofs.lemmas.List.{take-append-drop, take_all, drop_all, drop_more}
use Rattle.std.proofs.lemmas.List.Folds.{list_any_at}
use Rattle.std.proofs.lemmas.List.Quantifiers.{position-Some}
use Rattle.shared_lemmas.proofs.Places.{list_any-position}

module _ {X : Type 0} (p : X → Bool) where
  -- where no place is the first, no element passes
  pub All-none : (xs : List X) → length xs ≤ position_or_len p xs → All (λ x. p x ≡ false) xs
  All-none xs h = λ k d l.
      false_from_ne_true _ (λ e. both_ways _ (list_any-position p xs ∙ le-ltb _ _ h) (list_any_at p xs k d l e))

  -- the element at the first place stands between what is before it and after it
  pub before-after : (d : X) (xs : List X) → position_or_len p xs < length xs → (p (get_or xs (position_or_len p xs) d) ≡ true) × (xs ≡ before_first p xs ++ get_or xs (position_or_len p xs) d ∷ after_first p xs)
  before-after d xs h =
      let place = position_or_len p xs in
      let at : position p xs ≡ Some place = cond-true (ltb place (length xs)) (Some place) None (lt-ltb _ _ h) in
      ((position-Some p xs place d at).1, sym (take-append-drop place xs) ∙ ap (λ ys. take place xs ++ ys) (drop_more xs place d h))

  -- and without such an element all is before it
  pub before_none : (xs : List X) → length xs ≤ position_or_len p xs → (before_first p xs ≡ xs) × (after_first p xs ≡ [])
  before_none xs h = (take_all _ xs h, drop_all _ xs (omega arith))
