-- Carrying one job more, how many outcomes there are, and the worker of one lane.
use Rattle.std.proofs.Common.{◌≡◌, ◌<◌, ℕ, zero, get_or, arith, List, [], ◌∷◌, ◌++◌, length, suc, refl, ap, ◌∙◌, subst}
use Rattle.std.proofs.lemmas.List.{nil_from_length}
use Rattle.bounded_executor.specs.Exchange.{Exchange}
use Rattle.bounded_executor.specs.Runs.{Runs, EachRuns}

module _ {W J D : Type 0} (carries : W → J → D → W → Type 0) where
  -- one job more, after the others
  pub Runs-push : (w : W) (js : List J) (ds : List D) (x : W) (j : J) (d : D) (y : W) → Runs carries w js ds x → carries x j d y → Runs carries w (js ++ j ∷ []) (ds ++ d ∷ []) y
  Runs-push w [] [] x j d y ran step = (y, subst (λ (v : W). carries v j d y) ran step, refl)
  Runs-push w (i ∷ js) (e ∷ ds) x j d y ran step = (ran.0, ran.1, Runs-push ran.0 js ds x j d y ran.2 step)
  Runs-push w (i ∷ js) [] x j d y ran step = absurd ran
  Runs-push w [] (e ∷ ds) x j d y ran step = absurd ran

  -- there are as many outcomes as jobs
  pub Runs-length : (w : W) (js : List J) (ds : List D) (x : W) → Runs carries w js ds x → length ds ≡ length js
  Runs-length w [] [] x ran = refl
  Runs-length w (j ∷ js) (d ∷ ds) x ran = ap suc (Runs-length ran.0 js ds x ran.2)
  Runs-length w (j ∷ js) [] x ran = absurd ran
  Runs-length w [] (d ∷ ds) x ran = absurd ran

  -- nothing came of no job
  pub Runs-nil : (w : W) (js : List J) (ds : List D) (x : W) → js ≡ [] → Runs carries w js ds x → ds ≡ []
  Runs-nil w js ds x none ran = nil_from_length ds (Runs-length w js ds x ran ∙ ap length none)

  -- as many lanes and workers as before
  pub EachRuns-length : (befores : List W) (lanes : List (Exchange J D)) (afters : List W) → EachRuns carries befores lanes afters → (length lanes ≡ length befores) × (length afters ≡ length befores)
  EachRuns-length [] [] [] ran = (refl, refl)
  EachRuns-length (w ∷ ws) (e ∷ es) (x ∷ xs) ran = let rest = EachRuns-length ws es xs ran.1 in (ap suc rest.0, ap suc rest.1)
  EachRuns-length [] [] (x ∷ xs) ran = absurd ran
  EachRuns-length [] (e ∷ es) xs ran = absurd ran
  EachRuns-length (w ∷ ws) [] xs ran = absurd ran
  EachRuns-length (w ∷ ws) (e ∷ es) [] ran = absurd ran

  -- the worker of one lane
  pub EachRuns-at : (befores : List W) (lanes : List (Exchange J D)) (afters : List W) (i : ℕ) (w x : W) (e : Exchange J D) → EachRuns carries befores lanes afters → i < length befores
      → Runs carries (get_or befores i w) (get_or lanes i e).given (get_or lanes i e).taken (get_or afters i x)
  EachRuns-at (v ∷ vs) (d ∷ ds) (y ∷ ys) zero w x e ran in' = ran.0
  EachRuns-at (v ∷ vs) (d ∷ ds) (y ∷ ys) (suc i) w x e ran in' = EachRuns-at vs ds ys i w x e ran.1 (omega arith)
  EachRuns-at [] lanes afters i w x e ran in' = absurd (omega arith)
  EachRuns-at (v ∷ vs) [] afters i w x e ran in' = absurd ran
  EachRuns-at (v ∷ vs) (d ∷ ds) [] i w x e ran in' = absurd ran
