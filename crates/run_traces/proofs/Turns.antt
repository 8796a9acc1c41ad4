-- The job of each number of a lane, with its outcome: a lane gives back what it was given, in order.
use Rattle.std.proofs.Common.{◌≡◌, ◌∙◌, ◌++◌, ℕ, List, [], ◌∷◌, Some, sym, subst, inl, inr, slice_get, append_assoc}
use Rattle.jobs.specs.Endings.{SeenCarried}
use Rattle.jobs.specs.Jobs.{SeenJob}
use Rattle.shared_lemmas.proofs.Members.{place_in_front, place_middle}
use Rattle.run_traces.specs.Traces.{Called, Gave, IsRunTrace, Lined, Made, RunTrace, Stopped, Took, pending_in}
use Rattle.run_traces.proofs.Pending.{IsPendingAt, oldest_of}
use Rattle.run_traces.proofs.Splits.{GivenAt, given_at}
use Rattle.run_traces.proofs.Steps.{gave_given, gave_here, gave_taken, given_count, given_in, taken_count, taken_in, took_given, took_here, took_taken, trace_behind}

-- ---- what was given and taken stays

abbrev Jobs : Type 0
Jobs = List SeenJob

abbrev Outcomes : Type 0
Outcomes = List SeenCarried

module _ (lane number : ℕ) (job : SeenJob) where
  abbrev Is : Jobs → Type 0
  Is jobs = slice_get jobs number ≡ Some job

  pub given_stays : (later t : RunTrace) → slice_get (given_in lane t) number ≡ Some job → slice_get (given_in lane (later ++ t)) number ≡ Some job
  given_stays [] t e = e
  given_stays (Gave to new ∷ later) t e = elim (gave_given (later ++ t) to new lane) [
    | inl here ↦ subst Is (sym here.1) (place_in_front (given_in lane (later ++ t)) (new ∷ []) number job (given_stays later t e))
    | inr other ↦ subst Is (sym other.1) (given_stays later t e)
  ]
  given_stays (Took from c ∷ later) t e = subst Is (sym (took_given (later ++ t) from c lane)) (given_stays later t e)
  given_stays (Called task called result steps notes ∷ later) t e = given_stays later t e
  given_stays (Made fits ∷ later) t e = given_stays later t e
  given_stays (Lined ∷ later) t e = given_stays later t e
  given_stays (Stopped reason ∷ later) t e = given_stays later t e

module _ (lane number : ℕ) (carried : SeenCarried) where
  abbrev Was : Outcomes → Type 0
  Was outcomes = slice_get outcomes number ≡ Some carried

  pub taken_stays : (later t : RunTrace) → slice_get (taken_in lane t) number ≡ Some carried → slice_get (taken_in lane (later ++ t)) number ≡ Some carried
  taken_stays [] t e = e
  taken_stays (Took from new ∷ later) t e = elim (took_taken (later ++ t) from new lane) [
    | inl here ↦ subst Was (sym here.1) (place_in_front (taken_in lane (later ++ t)) (new ∷ []) number carried (taken_stays later t e))
    | inr other ↦ subst Was (sym other.1) (taken_stays later t e)
  ]
  taken_stays (Gave to job ∷ later) t e = subst Was (sym (gave_taken (later ++ t) to job lane)) (taken_stays later t e)
  taken_stays (Called task called result steps notes ∷ later) t e = taken_stays later t e
  taken_stays (Made fits ∷ later) t e = taken_stays later t e
  taken_stays (Lined ∷ later) t e = taken_stays later t e
  taken_stays (Stopped reason ∷ later) t e = taken_stays later t e

-- ---- at a place of the trace

module _ (trace later before : RunTrace) (lane : ℕ) where
  -- the job that is given there has the next number
  pub given_there : (job : SeenJob) → trace ≡ later ++ Gave lane job ∷ before → slice_get (given_in lane trace) (given_count lane before) ≡ Some job
  given_there job is =
      subst (λ (t : RunTrace). slice_get (given_in lane t) (given_count lane before) ≡ Some job) (sym is)
      (given_stays lane (given_count lane before) job later (Gave lane job ∷ before)
      (subst (λ (js : Jobs). slice_get js (given_count lane before) ≡ Some job) (sym (gave_here before lane job)) (place_middle (given_in lane before) job [])))

  pub taken_there : (carried : SeenCarried) → trace ≡ later ++ Took lane carried ∷ before → slice_get (taken_in lane trace) (taken_count lane before) ≡ Some carried
  taken_there carried is =
      subst (λ (t : RunTrace). slice_get (taken_in lane t) (taken_count lane before) ≡ Some carried) (sym is)
      (taken_stays lane (taken_count lane before) carried later (Took lane carried ∷ before)
      (subst (λ (cs : Outcomes). slice_get cs (taken_count lane before) ≡ Some carried) (sym (took_here before lane carried)) (place_middle (taken_in lane before) carried [])))

-- ---- a completion and its job

-- the oldest pending job of its lane: where it was given, by the number of the completion
pub record OldestThere (trace before : RunTrace) (lane : ℕ) : Type 0 where
  pub job : SeenJob
  pub oldest : slice_get (pending_in lane before) 0 ≡ Some job
  pub pending : IsPendingAt before lane (taken_count lane before) job
  pub at : GivenAt before lane (taken_count lane before) job
  pub given : slice_get (given_in lane trace) (taken_count lane before) ≡ Some job

pub oldest_there : (trace later before : RunTrace) (lane : ℕ) (carried : SeenCarried) → IsRunTrace trace → trace ≡ later ++ Took lane carried ∷ before → OldestThere trace before lane
oldest_there trace later before lane carried run is =
    let there = trace_behind later (Took lane carried ∷ before) (subst IsRunTrace is run) in
    let old = oldest_of before lane there.0 in
    record {
      job = old.0;
      oldest = old.1;
      pending = old.2;
      at = given_at lane (taken_count lane before) old.0 before old.2.given;
      given = subst (λ (t : RunTrace). slice_get (given_in lane t) (taken_count lane before) ≡ Some old.0)
          (append_assoc later (Took lane carried ∷ []) before ∙ sym is)
          (given_stays lane (taken_count lane before) old.0 (later ++ Took lane carried ∷ []) before old.2.given);
    }
