-- How many made tasks have no outcome, by the outcomes that are kept.
use Rattle.std.proofs.Common.{◌≡◌, ◌+◌, ◌<◌, ◌≤◌, ◌==◌, ℕ, zero, suc, false, List, [], ◌∷◌, Option, Some, None}
use Rattle.std.proofs.Common.{refl, ap, arith, get_or, is_some, slice_get, if◌then◌else◌}
use Rattle.manager_moves.proofs.PartLaws.{nothing}
use Rattle.manager_moves.specs.Moves.{unfinished_from}
use Rattle.manager_moves.specs.Runs.{Events, Shared, outcome_in}
use Rattle.s3_model.specs.declared.outcomes.Outcome.{Outcome}
use Rattle.task_acts.specs.declared.work.Work.{Work}
use Rattle.move_laws.specs.Cancelling.{open_from}

abbrev pub one_if_open : Option Outcome → ℕ
one_if_open outcome = if is_some outcome then 0 else 1

-- ---- the outcomes are those of the events

abbrev pub HaveOutcomes : List (Option Outcome) → Events → (n : ℕ) → List Work → Type 0
HaveOutcomes outcomes events n works = (i m : ℕ) (w : Work) → m ≡ n + i → slice_get works i ≡ Some w
    → get_or outcomes m None ≡ outcome_in w m events

pub open_is_unfinished : (s : Shared) (events : Events) (outcomes : List (Option Outcome)) (n : ℕ) (works : List Work)
    → HaveOutcomes outcomes events n works → open_from outcomes n works ≡ unfinished_from s events n works
open_is_unfinished s events outcomes n [] have = refl
open_is_unfinished s events outcomes n (w ∷ works) have =
    let head : one_if_open (get_or outcomes n None) ≡ one_if_open (outcome_in w n events) =
    ap one_if_open (have 0 n w (omega arith) refl) in
    let rest = open_is_unfinished s events outcomes (n + 1) works (λ i m v e is. have (suc i) m v (omega arith) is) in
    omega (arith, head, rest)

-- ---- one outcome is put

module _ (outcomes new : List (Option Outcome)) (task : ℕ)
    (others : (n : ℕ) → (task == n) ≡ false → get_or new n None ≡ get_or outcomes n None) where
  above : (n : ℕ) → task < n → (task == n) ≡ false
  above n l = grind arith

  below : (n i : ℕ) → task ≡ n + suc i → (task == n) ≡ false
  below n i e = grind arith

  open_behind : (n : ℕ) (works : List Work) → task < n → open_from new n works ≡ open_from outcomes n works
  open_behind n [] l = refl
  open_behind n (w ∷ works) l =
      let head : one_if_open (get_or new n None) ≡ one_if_open (get_or outcomes n None) =
      ap one_if_open (others n (above n l)) in
      let rest = open_behind (n + 1) works (omega arith) in omega (arith, head, rest)

  -- the counts differ by that task alone
  pub open_changed : (n i : ℕ) (works : List Work) (w : Work) → task ≡ n + i → slice_get works i ≡ Some w
      → open_from new n works + one_if_open (get_or outcomes task None)
      ≡ open_from outcomes n works + one_if_open (get_or new task None)
  open_changed n i [] w e there = absurd (nothing there)
  open_changed n zero (v ∷ works) w e there =
      let at : n ≡ task = omega (arith, e) in
      let now : one_if_open (get_or new n None) ≡ one_if_open (get_or new task None) =
      ap (λ (k : ℕ). one_if_open (get_or new k None)) at in
      let before : one_if_open (get_or outcomes n None) ≡ one_if_open (get_or outcomes task None) =
      ap (λ (k : ℕ). one_if_open (get_or outcomes k None)) at in
      let rest = open_behind (n + 1) works (omega (arith, e)) in omega (arith, now, before, rest)
  open_changed n (suc i) (v ∷ works) w e there =
      let head : one_if_open (get_or new n None) ≡ one_if_open (get_or outcomes n None) =
      ap one_if_open (others n (below n i e)) in
      let rest = open_changed (n + 1) i works w (omega (arith, e)) there in omega (arith, head, rest)

-- a task without an outcome is counted
pub open_counts : (outcomes : List (Option Outcome)) (task n i : ℕ) (works : List Work) (w : Work) → task ≡ n + i
    → slice_get works i ≡ Some w → one_if_open (get_or outcomes task None) ≤ open_from outcomes n works
open_counts outcomes task n i [] w e there = absurd (nothing there)
open_counts outcomes task n zero (v ∷ works) w e there =
    let now : one_if_open (get_or outcomes n None) ≡ one_if_open (get_or outcomes task None) =
    ap (λ (k : ℕ). one_if_open (get_or outcomes k None)) (omega (arith, e)) in omega (arith, now)
open_counts outcomes task n (suc i) (v ∷ works) w e there =
    let rest = open_counts outcomes task (n + 1) i works w (omega (arith, e)) there in omega (arith, rest)
