-- A run with pieces that are larger than those of a valid configuration.
use Rattle.std.specs.Prelude.{◌≡◌, ◌^◌, ℕ, false, List, [], ◌∷◌, Some, None}
use Rattle.s3_model.specs.declared.answers.Listed.{Listed}
use Rattle.s3_model.specs.declared.outcomes.Cause.TheVariants as cause
use Rattle.s3_model.specs.declared.outcomes.Outcome.TheVariants as outcome
use Rattle.s3_model.specs.declared.outcomes.Reason.TheVariants as reason
use Rattle.s3_model.specs.declared.settings.Config.{Config}
use Rattle.s3_model.specs.declared.settings.Limits.{Limits}
use Rattle.s3_model.specs.declared.tasks.Kind.TheVariants as kind
use Rattle.s3_model.specs.declared.tasks.Task.{Task}
use Rattle.s3_model.specs.Parts.{HasPieces}
use Rattle.s3_model.specs.Validity.{IsValidConfig}
use Rattle.run_promise.specs.Truthful.{Shown}
use Rattle.world_laws.specs.ExampleTasks as tasks
use Rattle.world_laws.specs.Promises.{IsOrderly}
use Rattle.promise_examples.specs.Reading.{Reads, HasNoStatus, NeverFailed, signed_body}
use Rattle.promise_examples.specs.Refused.{path, setting}

-- a piece of 2^35 bytes, where `IsValidConfig` lets a run be given 2^30 at most
abbrev pub config : Config
config = record { threshold = 1; chunk = 2 ^ 35; lanes = 1; queue = 1; buffers = 1; attempts = 2 }

abbrev pub limits : Limits
limits = record { min_part = 1; max_part = 2 ^ 35; max_parts = 2; max_object = 2 ^ 36 }

-- a file of two such pieces
abbrev pub large : Task
large = tasks.upload (98 ∷ []) (117 ∷ []) path (2 ^ 36) false

-- the run was cancelled before it gave a job
abbrev pub large_run : Shown
large_run = record {
  setting = record setting { config = config; limits = limits; tasks = large ∷ []; cancelled_at = Some 0 };
  status = 1;
  outcomes = outcome.Failed (cause.Cancelled reason.OutputFailed) ∷ [];
  journal = [];
  logs = λ lane. [];
  notes = λ lane. [];
  held_after = setting.held;
  excused = record { left = []; untimed = []; wanted_memory = false };
  file_calls = [];
  refused_page = None;
}

module _ (page_of : List ℕ → Listed) where
  -- No valid configuration has such pieces. They make what the laws ask of a run all the same.
  pub record IsMetByLarge : Type 0 where
    pub not_valid : ¬ (IsValidConfig config)
    pub pieces : HasPieces config limits kind.Upload large.size (2 ^ 35) 2
    pub orderly : IsOrderly (Reads page_of) HasNoStatus (λ planning. planning ≡ []) NeverFailed signed_body [] 80
        large_run [] []

abbrev pub LargePiecesAreMet : Type 0
LargePiecesAreMet = (page_of : List ℕ → Listed) → IsMetByLarge page_of
