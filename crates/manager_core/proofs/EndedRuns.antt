-- A run that came to its end.
use Rattle.std.proofs.Common.{◌≡◌, ◌∙◌, ◌<◌, [], ◌∷◌, ℕ, zero, suc, List, Option, Some, None, refl, sym, subst, ap}
use Rattle.std.proofs.Common.{arith, get_or, length, map}
use Rattle.std.specs.Option.{IsSome}
use Rattle.std.specs.Prelude.{slice_get}
use Rattle.manager_moves.specs.Runs.{Events, Shared, outcome_in}
use Rattle.manager_moves.specs.declared.moves.Move.TheVariants as move
use Rattle.run_progress.proofs.Progress.{tasks_have_ended}
use Rattle.s3_model.specs.declared.outcomes.Outcome.{Outcome}
use Rattle.task_acts.specs.declared.work.Work.{Work}
use Rattle.manager_core.proofs.ReadyJobs.{there_is}
use Rattle.manager_core.proofs.RunLemmas.{at_due, tells}
use Rattle.manager_core.specs.declared.due.Due.TheVariants as due
use Rattle.manager_core.specs.Ended.{AreOutcomes}
use Rattle.manager_core.specs.Kept.{SeenManager}
use Rattle.manager_core.specs.Running.{IsAt, IsRunning, Start}

same_length : {X : Type 0} (xs : List X) → length (map Some xs) ≡ length xs
same_length [] = refl
same_length (x ∷ xs) = let rest = same_length xs in omega (arith, rest)

same_item : {X : Type 0} (xs : List X) (n : ℕ) → get_or (map Some xs) n None ≡ slice_get xs n
same_item [] n = refl
same_item (x ∷ xs) zero = refl
same_item (x ∷ xs) (suc n) = same_item xs n

module _ (start : Start) (s : Shared) (events : Events) (m : SeenManager)
    (running : IsRunning start s events m) (is : m.due ≡ due.Next move.End) where
  pub end_at : IsAt (due.Next move.End) s events m
  end_at = at_due start s events m running (due.Next move.End) is

  its_outcome : (n : ℕ) (w : Work) → slice_get s.works n ≡ Some w
      → get_or m.moves.outcomes n None ≡ outcome_in w n events
  its_outcome = tells s events m.moves end_at.follows

  pub all_ended : length m.moves.outcomes ≡ length s.works → (n : ℕ) → n < length m.moves.outcomes
      → IsSome (get_or m.moves.outcomes n None)
  all_ended count n below =
      let work = there_is s.works n (omega (arith, below, count)) in
      subst (λ (o : Option Outcome). IsSome o) (sym (its_outcome n work.0 work.1))
      (tasks_have_ended s events n work.0 running.given.means end_at.run.run end_at.named work.1)

  pub outcomes_are : length m.moves.outcomes ≡ length s.works → (given : List Outcome)
      → map Some given ≡ m.moves.outcomes → AreOutcomes s events given
  outcomes_are count given same = record {
    count = sym (same_length given) ∙ ap (λ (xs : List (Option Outcome)). length xs) same ∙ count;
    each = λ n w there. sym (same_item given n) ∙ ap (λ (xs : List (Option Outcome)). get_or xs n None) same
        ∙ its_outcome n w there;
  }
