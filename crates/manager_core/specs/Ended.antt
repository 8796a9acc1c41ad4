-- A run that came to its end.
use Rattle.std.specs.Prelude.{◌≡◌, ℕ, List, Some, length, slice_get}
use Rattle.manager_moves.specs.Runs.{Events, Shared, outcome_in}
use Rattle.s3_model.specs.declared.outcomes.Outcome.{Outcome}
use Rattle.task_acts.specs.declared.work.Work.{Work}

-- there is one outcome for each task, the one to which it came
pub record AreOutcomes (s : Shared) (events : Events) (outcomes : List Outcome) : Type 0 where
  pub count : length outcomes ≡ length s.works
  pub each : (n : ℕ) (w : Work) → slice_get s.works n ≡ Some w → slice_get outcomes n ≡ outcome_in w n events
