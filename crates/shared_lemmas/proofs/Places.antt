-- Where the first member stands that passes a test.
use Rattle.std.proofs.Common.{◌≡◌, ◌+◌, ℕ, suc, Bool, true, false, not, ◌||◌, cond, ltb, List, [], ◌∷◌, length, refl, arith}
use Rattle.std.specs.List.{list_any, position_or_len}
use Rattle.std.proofs.lemmas.Bool.Decides.{nat_tests}

one_more : (passes found : Bool) (place len : ℕ) → found ≡ ltb place len → (passes || found) ≡ ltb (cond (not passes) (1 + place) 0) (suc len)
one_more true found place len e = grind (arith, nat_tests)
one_more false found place len e = grind (arith, nat_tests)

-- some member passes where the first place that does is one of the list
pub list_any-position : {X : Type 0} (p : X → Bool) (xs : List X) → list_any p xs ≡ ltb (position_or_len p xs) (length xs)
list_any-position p [] = refl
list_any-position p (x ∷ xs) = one_more (p x) (list_any p xs) (position_or_len p xs) (length xs) (list_any-position p xs)
