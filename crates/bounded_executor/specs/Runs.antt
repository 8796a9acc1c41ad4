-- What it means to carry jobs.
use Rattle.std.specs.Prelude.{◌≡◌, List, [], ◌∷◌}
use Rattle.bounded_executor.specs.Exchange.{Exchange}

-- carrying the jobs in order, each once, leads from one worker to the other and gives the outcomes
abbrev pub Runs : {W J D : Type 0} → (W → J → D → W → Type 0) → W → List J → List D → W → Type 0
Runs carries before [] [] after = after ≡ before
Runs carries before (job ∷ jobs) (done ∷ dones) after =
    (next : _) × carries before job done next × Runs carries next jobs dones after
Runs carries before (job ∷ jobs) [] after = ⊥
Runs carries before [] (done ∷ dones) after = ⊥

-- of each lane in turn, its worker has carried the jobs given to it, and the outcomes taken are theirs
abbrev pub EachRuns : {W J D : Type 0} → (W → J → D → W → Type 0) → List W → List (Exchange J D) → List W → Type 0
EachRuns carries [] [] [] = Unit {0}
EachRuns carries (before ∷ befores) (lane ∷ lanes) (after ∷ afters) =
    Runs carries before lane.given lane.taken after × EachRuns carries befores lanes afters
EachRuns carries befores lanes afters = ⊥
