-- A list of one value, and that value once more.
use Rattle.std.proofs.Common.{zero, suc, refl, get_or, ◌≡◌, ◌≤◌, ◌+◌, ◌++◌, ◌∙◌, ◌∷◌, ℕ, List, [], ap, arith, replicate}
use Rattle.std.proofs.lemmas.List.{replicate_more}

module _ {X : Type 0} (x : X) where
  pub one_more : (count : ℕ) (y : X) (xs ys : List X) → xs ≡ replicate count x → y ≡ x → ys ≡ xs ++ y ∷ []
      → ys ≡ replicate (count + 1) x
  one_more count y xs ys all same more = more ∙ ap (λ (zs : List X). zs ++ y ∷ []) all
      ∙ ap (λ (z : X). replicate count x ++ z ∷ []) same ∙ replicate_more count x

  pub so_many : (count many : ℕ) (xs : List X) → xs ≡ replicate count x → count ≤ many → many ≤ count
      → xs ≡ replicate many x
  so_many count many xs all below above = all ∙ ap (λ (n : ℕ). replicate n x) (omega arith)

pub at_any_place : {X : Type 0} (count n : ℕ) (x : X) → get_or (replicate count x) n x ≡ x
at_any_place zero n x = refl
at_any_place (suc count) zero x = refl
at_any_place (suc count) (suc n) x = at_any_place count n x
