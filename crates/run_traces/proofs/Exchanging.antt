-- A desk's exchanges stay those of the trace, step by step.
use Rattle.std.proofs.Common.{◌≡◌, ◌∙◌, ◌==◌, ◌<◌, ℕ, Bool, inl, inr, zero, suc, List, [], ◌∷◌, refl, sym, ap, get_or, length, set}
use Rattle.std.proofs.lemmas.List.{get_or-set_other, get_or-set_same}
use Rattle.std.specs.Prelude.{cond, replicate}
use Rattle.bounded_executor.specs.Exchange.{Exchange, unused, with_given, with_taken}
use Rattle.jobs.specs.Endings.{SeenCarried}
use Rattle.jobs.specs.Jobs.{SeenJob}
use Rattle.run_traces.specs.Exchanges.{AreExchangesOf}
use Rattle.run_traces.specs.Traces.{Gave, RunTrace, Took, exchange_of}
use Rattle.run_traces.proofs.Steps.{test_of}

-- at the start nothing was exchanged with any lane
pub exchanges_begin : (count : ℕ) → AreExchangesOf [] (replicate count unused)
exchanges_begin zero lane = refl
exchanges_begin (suc count) zero = refl
exchanges_begin (suc count) (suc lane) = exchanges_begin count lane

-- what is put at a place of a list stands there alone
put_at : (lanes : List (Exchange SeenJob SeenCarried)) (at : ℕ) (new : Exchange SeenJob SeenCarried) (t : RunTrace) (lane : ℕ) → at < length lanes → AreExchangesOf t lanes
    → get_or (set lanes at new) lane unused ≡ cond (at == lane) new (exchange_of lane t)
put_at lanes at new t lane below are = elim (test_of at lane) [
  | inl same ↦
      ap (λ (l : ℕ). get_or (set lanes at new) l unused) (sym same.1) ∙ get_or-set_same lanes at new unused below
      ∙ ap (λ (b : Bool). cond b new (exchange_of lane t)) (sym same.0)
  | inr apart ↦
      get_or-set_other lanes at lane new unused (λ e. apart.1 (sym e)) ∙ are lane
      ∙ ap (λ (b : Bool). cond b new (exchange_of lane t)) (sym apart.0)
]

-- a lane that got a job
pub exchanges_gave : (t : RunTrace) (lanes : List (Exchange SeenJob SeenCarried)) (to : ℕ) (job : SeenJob) → to < length lanes → AreExchangesOf t lanes
    → AreExchangesOf (Gave to job ∷ t) (set lanes to (with_given (get_or lanes to unused) job))
exchanges_gave t lanes to job below are lane =
    put_at lanes to (with_given (get_or lanes to unused) job) t lane below are ∙ here to lane
  where
    here : (to lane : ℕ) → cond (to == lane) (with_given (get_or lanes to unused) job) (exchange_of lane t) ≡ cond (to == lane) (with_given (exchange_of lane t) job) (exchange_of lane t)
    here to lane = elim (test_of to lane) [
      | inl same ↦ ap (λ (e : Exchange SeenJob SeenCarried). cond (to == lane) (with_given e job) (exchange_of lane t)) (ap (λ (l : ℕ). get_or lanes l unused) same.1 ∙ are lane)
      | inr apart ↦ ap (λ (b : Bool). cond b (with_given (get_or lanes to unused) job) (exchange_of lane t)) apart.0
          ∙ ap (λ (b : Bool). cond b (with_given (exchange_of lane t) job) (exchange_of lane t)) (sym apart.0)
    ]

-- a lane of which an outcome was taken
pub exchanges_took : (t : RunTrace) (lanes : List (Exchange SeenJob SeenCarried)) (from : ℕ) (carried : SeenCarried) → from < length lanes → AreExchangesOf t lanes
    → AreExchangesOf (Took from carried ∷ t) (set lanes from (with_taken (get_or lanes from unused) carried))
exchanges_took t lanes from carried below are lane =
    put_at lanes from (with_taken (get_or lanes from unused) carried) t lane below are ∙ here from lane
  where
    here : (from lane : ℕ) → cond (from == lane) (with_taken (get_or lanes from unused) carried) (exchange_of lane t) ≡ cond (from == lane) (with_taken (exchange_of lane t) carried) (exchange_of lane t)
    here from lane = elim (test_of from lane) [
      | inl same ↦ ap (λ (e : Exchange SeenJob SeenCarried). cond (from == lane) (with_taken e carried) (exchange_of lane t)) (ap (λ (l : ℕ). get_or lanes l unused) same.1 ∙ are lane)
      | inr apart ↦ ap (λ (b : Bool). cond b (with_taken (get_or lanes from unused) carried) (exchange_of lane t)) apart.0
          ∙ ap (λ (b : Bool). cond b (with_taken (exchange_of lane t) carried) (exchange_of lane t)) (sym apart.0)
    ]
