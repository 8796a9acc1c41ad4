-- A run that fails and never tried, though no file call failed and memory did not run out: no willing service is owed
-- that.
use Rattle.std.specs.Prelude.{◌≡◌, false, ℕ, List, [], ◌∷◌, None}
use Rattle.s3_model.specs.declared.answers.Listed.{Listed}
use Rattle.s3_model.specs.declared.outcomes.Cause.{Cause}
use Rattle.s3_model.specs.declared.outcomes.Outcome.TheVariants as outcome
use Rattle.run_promise.specs.Truthful.{Shown, IsDoneWhereWilling}
use Rattle.promise_examples.specs.Reading.{Reads, signed_body}
use Rattle.promise_examples.specs.Refused.{setting}

-- no job was given, and the upload failed
abbrev pub idle_run : Cause → Shown
idle_run why = record {
  setting = setting;
  status = 1;
  outcomes = outcome.Failed why ∷ [];
  journal = [];
  logs = λ lane. [];
  notes = λ lane. [];
  held_after = setting.held;
  excused = record { left = []; untimed = []; wanted_memory = false };
  file_calls = [];
  refused_page = None;
}

abbrev pub IdlenessIsRefused : Type 0
IdlenessIsRefused = (page_of : List ℕ → Listed) (why : Cause)
    → ¬ (IsDoneWhereWilling (Reads page_of) signed_body [] 80 (λ page planning. planning ≡ []) (idle_run why))
