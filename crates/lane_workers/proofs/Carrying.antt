-- What each lane carried, told of less; and lanes that come back.
use Rattle.std.proofs.Common.{◌≡◌, ◌∙◌, ℕ, Option, List, [], ◌∷◌, refl, sym, arith, length, subst}
use Rattle.jobs.specs.Endings.{SeenCarried}
use Rattle.jobs.specs.Jobs.{SeenJob}
use Rattle.lane_jobs.specs.Lanes.{SeenLane}
use Rattle.lane_workers.specs.LaneWorkers.{AreLater, IsLater, LaneCarries, LanesComeBack}
use Rattle.s3_model.specs.Talks.{WireLog}
use Rattle.bounded_executor.proofs.RunsLemmas.{EachRuns-length}
use Rattle.bounded_executor.specs.Exchange.{Exchange}
use Rattle.bounded_executor.specs.Runs.{EachRuns, Runs}

-- where carrying a job in one sense is carrying it in the other, lanes that carried their jobs in the one did in the other
module _ {W J D : Type 0} (carries tells : W → J → D → W → Type 0)
    (each : (before : W) (job : J) (done : D) (after : W) → carries before job done after → tells before job done after) where
  pub runs_told : (before : W) (jobs : List J) (dones : List D) (after : W) → Runs carries before jobs dones after → Runs tells before jobs dones after
  runs_told before [] [] after ran = ran
  runs_told before (job ∷ jobs) (done ∷ dones) after ran =
      (ran.0, each before job done ran.0 ran.1, runs_told ran.0 jobs dones after ran.2)
  runs_told before (job ∷ jobs) [] after ran = absurd ran
  runs_told before [] (done ∷ dones) after ran = absurd ran

  pub lanes_told : (befores : List W) (lanes : List (Exchange J D)) (afters : List W) → EachRuns carries befores lanes afters → EachRuns tells befores lanes afters
  lanes_told [] [] [] ran = ran
  lanes_told (before ∷ befores) (lane ∷ lanes) (after ∷ afters) ran =
      (runs_told before lane.given lane.taken after ran.0, lanes_told befores lanes afters ran.1)
  lanes_told [] [] (after ∷ afters) ran = absurd ran
  lanes_told [] (lane ∷ lanes) afters ran = absurd ran
  lanes_told (before ∷ befores) [] afters ran = absurd ran
  lanes_told (before ∷ befores) (lane ∷ lanes) [] ran = absurd ran

-- ---- lanes that come back

-- there are as many lanes as before
pub lanes_back : {W J D : Type 0} (carries : W → J → D → W → Type 0) (befores : List W) (lanes : List (Exchange J D)) (afters : List W) → EachRuns carries befores lanes afters
    → length afters ≡ length befores
lanes_back carries befores lanes afters ran = (EachRuns-length carries befores lanes afters ran).1

module _ {W : Type 0} (seen : W → Option WireLog) (faults : W → ℕ) where
  later_by : (before next after : SeenLane W) → IsLater faults before next → IsLater faults next after → IsLater faults before after
  later_by before next after first second = (
    record {
      endpoint = second.0.endpoint ∙ first.0.endpoint;
      keys = second.0.keys ∙ first.0.keys;
      attempts = second.0.attempts ∙ first.0.attempts;
    },
    (let a = first.1 in let b = second.1 in omega arith),
  )

  lane_later : (before : SeenLane W) (jobs : List SeenJob) (dones : List SeenCarried) (after : SeenLane W) → Runs (LaneCarries seen faults) before jobs dones after → IsLater faults before after
  lane_later before [] [] after ran =
      subst (λ (lane : SeenLane W). IsLater faults before lane) (sym ran) (record { endpoint = refl; keys = refl; attempts = refl }, omega arith)
  lane_later before (job ∷ jobs) (done ∷ dones) after ran =
      later_by before ran.0 after (ran.1.carrier, ran.1.later) (lane_later ran.0 jobs dones after ran.2)
  lane_later before (job ∷ jobs) [] after ran = absurd ran
  lane_later before [] (done ∷ dones) after ran = absurd ran

  lanes_later : (befores : List (SeenLane W)) (lanes : List (Exchange SeenJob SeenCarried)) (afters : List (SeenLane W)) → EachRuns (LaneCarries seen faults) befores lanes afters → AreLater faults befores afters
  lanes_later [] [] [] ran = ran
  lanes_later (before ∷ befores) (lane ∷ lanes) (after ∷ afters) ran =
      (lane_later before lane.given lane.taken after ran.0, lanes_later befores lanes afters ran.1)
  lanes_later [] [] (after ∷ afters) ran = absurd ran
  lanes_later [] (lane ∷ lanes) afters ran = absurd ran
  lanes_later (before ∷ befores) [] afters ran = absurd ran
  lanes_later (before ∷ befores) (lane ∷ lanes) [] ran = absurd ran

  pub lanes_come_back : LanesComeBack seen faults
  lanes_come_back befores afters lanes ran =
      (lanes_later befores lanes afters ran, lanes_back (LaneCarries seen faults) befores lanes afters ran)
