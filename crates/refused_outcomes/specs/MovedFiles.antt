-- The file of a moved upload: it goes where the task is done, and stays where it is not.
use Rattle.std.specs.Prelude.{true, ℕ, List, [], ◌∷◌, None}
use Rattle.std.specs.FinMap.{remove}
use Rattle.s3_model.specs.declared.answers.Class.{Class}
use Rattle.s3_model.specs.declared.answers.Listed.{Listed}
use Rattle.s3_model.specs.declared.outcomes.Cause.{Cause}
use Rattle.s3_model.specs.declared.outcomes.Outcome.{Outcome}
use Rattle.s3_model.specs.declared.outcomes.Outcome.TheVariants as outcome
use Rattle.s3_model.specs.declared.requests.Ask.{Ask}
use Rattle.s3_model.specs.Files.{HeldFile}
use Rattle.s3_model.specs.Maps.{MapOf}
use Rattle.s3_model.specs.Talks.{Talk}
use Rattle.local_files.specs.Calls.{Call, Remove}
use Rattle.run_promise.specs.Truthful.{Shown}
use Rattle.promise_examples.specs.Reading.{Reads}
use Rattle.promise_examples.specs.Refused.{path, whole_run}
use Rattle.rare_runs.specs.MovedUpload.{excused, removes_at, setting}
use Rattle.refused_outcomes.specs.ToldFiles.{AreTold, IsUntold}

-- the moved upload of `rare_runs`, where the files tell these calls, and hold this at its end
abbrev pub came_to : List Call → MapOf HeldFile → Outcome → Shown
came_to told held how = record {
  setting = setting;
  status = 0;
  outcomes = how ∷ [];
  journal = whole_run.journal;
  logs = whole_run.logs;
  notes = whole_run.notes;
  held_after = held;
  excused = excused;
  file_calls = told;
  refused_page = None;
}

abbrev pub removing : List Call
removing = Remove path true ∷ []

abbrev pub gone : MapOf HeldFile
gone = remove setting.held path

abbrev pub MovedFileIsTold : Type 0
MovedFileIsTold = (page_of : List ℕ → Listed)
    → AreTold (Reads page_of) (came_to removing gone outcome.Done) (removes_at 2 ∷ [])

module _ (Shows : Ask → ℕ → Talk → Class → List ℕ → Type 0) where
  pub record MovedFilesAreRefused : Type 0 where
    -- `moved`: it is done, and its file was not removed; its file was removed, and it was copied alone or failed
    pub stays : IsUntold Shows (came_to [] setting.held outcome.Done)
    pub copied : (why : Cause) → IsUntold Shows (came_to removing gone (outcome.Copied why))
    pub failed : (why : Cause) → IsUntold Shows (came_to removing gone (outcome.Failed why))
    -- `held_after`: its file was removed, and stands
    pub stands : IsUntold Shows (came_to removing setting.held outcome.Done)

abbrev pub EachMovedFileIsRefused : Type 0
EachMovedFileIsRefused = (page_of : List ℕ → Listed) → MovedFilesAreRefused (Reads page_of)
