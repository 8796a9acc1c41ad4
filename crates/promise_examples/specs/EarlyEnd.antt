-- A run whose memory ran out before a job of its task was given, and its neighbours.
use Rattle.std.specs.Prelude.{◌≡◌, ◌≢◌, ℕ, false, List, [], ◌∷◌, is_some, not, None}
use Rattle.s3_model.specs.declared.answers.Listed.{Listed}
use Rattle.run_promise.specs.Truthful.{Shown, IsTruthful}
use Rattle.promise_examples.specs.Reading.{Reads, HasNoStatus, NeverFailed, signed_body}
use Rattle.promise_examples.specs.Refused.{once, run, setting, silent_run, task, whole_run, with_setting}
use Rattle.promise_examples.specs.Runs.{Example}

-- what a run shows without an outcome, where no file is changed
abbrev pub without_outcome : ℕ → Example → Shown
without_outcome status e = record {
  setting = e.setting;
  status = status;
  outcomes = [];
  journal = e.journal;
  logs = e.logs;
  notes = e.notes;
  held_after = e.setting.held;
  excused = record { left = []; untimed = []; wanted_memory = false };
  file_calls = [];
  refused_page = None;
}

-- no job was given: memory ran out, and for no task
abbrev pub jobless : Example
jobless =
    with_setting (record setting { wanted_memory = λ task. not (is_some task) }) (run [] (λ lane. []) (λ lane. []))

-- the Put was given, and came without an attempt, since memory ran out for it
abbrev pub untried : Example
untried = silent_run (task ∷ []) (once [])

module _ (page_of : List ℕ → Listed) where
  abbrev pub Tells : Shown → Type 0
  Tells = IsTruthful (Reads page_of) HasNoStatus signed_body [] 80 (λ page planning. planning ≡ []) NeverFailed

  pub record EarlyEndsAreRefused : Type 0 where
    -- the Put was given, and stored or not tried
    pub stored : ¬ (Tells (without_outcome 70 whole_run))
    pub not_tried : ¬ (Tells (without_outcome 70 untried))
    -- no job was given, and the status is another one
    pub other_status : (status : ℕ) → status ≢ 70 → ¬ (Tells (without_outcome status jobless))

abbrev pub EarlyEndIsMet : Type 0
EarlyEndIsMet = (page_of : List ℕ → Listed) → Tells page_of (without_outcome 70 jobless)

abbrev pub EachEarlyEndIsRefused : Type 0
EachEarlyEndIsRefused = (page_of : List ℕ → Listed) → EarlyEndsAreRefused page_of
