-- A boss and its workers, from when the threads begin until they have ended.
use Rattle.std.specs.Prelude.{List}
use Rattle.bounded_executor.specs.Exchange.{Exchange}
use Rattle.bounded_executor.specs.Runs.{EachRuns}

-- for some exchanges, the workers have carried the jobs of their lanes, and the boss has directed just these
abbrev pub HasRun : {W J D B : Type 0} → (W → J → D → W → Type 0) → (B → List (Exchange J D) → B → Type 0) → List W → B
    → List W → B → Type 0
HasRun {J = J} {D = D} carries directs befores boss afters boss_after =
    (lanes : List (Exchange J D)) × EachRuns carries befores lanes afters × directs boss lanes boss_after
