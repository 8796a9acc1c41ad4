-- Tags that came, one more at a time.
use Rattle.std.proofs.Common.{◌≡◌, ◌<◌, ℕ, zero, suc, List, [], ◌∷◌, ◌++◌, Option, Some, None, get_or, length, take, refl, ap, arith}
use Rattle.kept_jobs.specs.Tags.{present}

pub present_one : (tags : List (Option (List ℕ))) (index : ℕ) → index < length tags → present (take (suc index) tags) ≡ present (take index tags) ++ present (get_or tags index None ∷ [])
present_one [] index inside = absurd (omega arith)
present_one (None ∷ tags) zero inside = refl
present_one (Some tag ∷ tags) zero inside = refl
present_one (None ∷ tags) (suc index) inside = present_one tags index (omega arith)
present_one (Some tag ∷ tags) (suc index) inside = ap (λ (rest : List (List ℕ)). tag ∷ rest) (present_one tags index (omega arith))
