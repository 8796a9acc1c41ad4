-- A list that grows by a value.
use Rattle.std.proofs.Common.{◌≡◌, ◌≤◌, ◌+◌, ◌++◌, ◌∙◌, ◌∷◌, ℕ, List, [], ap, arith, replicate}
use Rattle.std.proofs.lemmas.List.{replicate_more}

module _ {X : Type 0} (x : X) where
  pub one_more : (count : ℕ) (y : X) (xs ys : List X) → xs ≡ replicate count x → y ≡ x → ys ≡ xs ++ y ∷ []
      → ys ≡ replicate (count + 1) x
  one_more count y xs ys all same more = more ∙ ap (λ (zs : List X). zs ++ y ∷ []) all
      ∙ ap (λ (z : X). replicate count x ++ z ∷ []) same ∙ replicate_more count x

  pub so_many : (count many : ℕ) (xs : List X) → xs ≡ replicate count x → count ≤ many → many ≤ count
      → xs ≡ replicate many x
  so_many count many xs all below above = all ∙ ap (λ (n : ℕ). replicate n x) (omega arith)
