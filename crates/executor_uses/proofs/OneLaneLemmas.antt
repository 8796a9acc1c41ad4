-- Workers that double.
use Rattle.std.proofs.Common.{◌≡◌, ◌*◌, ℕ, List, [], ◌∷◌, map, refl, arith}
use Rattle.bounded_executor.specs.Exchange.{Exchange}
use Rattle.bounded_executor.specs.Runs.{Runs, EachRuns}
use Rattle.executor_uses.specs.OneLane.{IsOneExchange}

-- each outcome is the double of its job
pub doubles_of : {W : Type 0} (w : W) (jobs doubles : List ℕ) (x : W) → Runs (λ before job done after. done ≡ 2 * job) w jobs doubles x → doubles ≡ map (λ job. 2 * job) jobs
doubles_of w [] [] x ran = refl
doubles_of w (j ∷ js) (d ∷ ds) x ran = cc (ran.1, doubles_of ran.0 js ds x ran.2)
doubles_of w (j ∷ js) [] x ran = absurd ran
doubles_of w [] (d ∷ ds) x ran = absurd ran

-- the outcomes of the only lane are the doubles of its jobs
pub exact : {W : Type 0} (befores : List W) (lanes : List (Exchange ℕ ℕ)) (afters : List W) (jobs doubles : List ℕ)
    → EachRuns (λ before job done after. done ≡ 2 * job) befores lanes afters → IsOneExchange lanes jobs doubles → doubles ≡ map (λ job. 2 * job) jobs
exact (b ∷ bs) (e ∷ es) (a ∷ as') jobs doubles ran kept = rw (← kept.taken, ← kept.given) (doubles_of b e.given e.taken a ran.0)
exact [] [] [] jobs doubles ran kept = absurd (omega (arith, kept.one))
exact [] [] (a ∷ as') jobs doubles ran kept = absurd ran
exact [] (e ∷ es) afters jobs doubles ran kept = absurd ran
exact (b ∷ bs) [] afters jobs doubles ran kept = absurd ran
exact (b ∷ bs) (e ∷ es) [] jobs doubles ran kept = absurd ran
