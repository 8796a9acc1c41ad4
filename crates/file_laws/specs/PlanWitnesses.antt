-- A run of a plan that meets the law on both kinds of task, and one that counts its calls otherwise and does not.
use Rattle.std.specs.Prelude.{ℕ, Bool, true, false, List, [], ◌∷◌, None}
use Rattle.std.specs.FinMap.{empty, insert}
use Rattle.s3_model.specs.declared.outcomes.Cause.TheVariants as cause
use Rattle.s3_model.specs.declared.outcomes.FileCall.TheVariants as call
use Rattle.s3_model.specs.declared.outcomes.Outcome.TheVariants as outcome
use Rattle.s3_model.specs.Files.{HeldFile}
use Rattle.s3_model.specs.Maps.{MapOf}
use Rattle.job_terms.specs.Dispatches.{Dispatched}
use Rattle.run_promise.specs.Truthful.{Shown}
use Rattle.local_files.specs.Calls.{Remove}
use Rattle.world_laws.specs.Rounds.{AreNone, Told, ToldStatus, no_text}
use Rattle.file_laws.specs.FileEnds.{HasFailedCall}
use Rattle.run_promise.specs.FileCalls.{TaskCall}
use Rattle.file_laws.specs.FileWitnesses.{file_removal}
use Rattle.file_laws.specs.PlanEnds.{IsPlanCarriedOut}

-- the files with an empty one at that path
abbrev pub one_file : List ℕ → MapOf HeldFile
one_file path = insert empty path (record { bytes = []; micros = 0 })

-- its removal failed
abbrev pub failed_removal : List ℕ → List TaskCall
failed_removal path =
    record { task = 0; events_before = 0; step = record { call = Remove path false; held = one_file path } } ∷ []

-- what such a run shows, and whether its task counts as one whose file call failed
abbrev pub removal_shown : (counted : Bool) → List ℕ → Shown
removal_shown counted path = record {
  setting = record {
    config = record { threshold = 1; chunk = 1; lanes = 1; queue = 1; buffers = 1; attempts = 1 };
    limits = record { min_part = 1; max_part = 64; max_parts = 4; max_object = 64 };
    lanes = 1;
    tasks = file_removal path ∷ [];
    dryrun = false;
    held = one_file path;
    others = [];
    file_failed = λ n. counted;
    cancelled_at = None;
    wanted_memory = λ task. false;
  };
  status = 1;
  outcomes = outcome.Failed (cause.Files call.Remove) ∷ [];
  journal = [];
  logs = λ lane. [];
  notes = λ lane. [];
  held_after = one_file path;
  excused = record { left = []; untimed = []; wanted_memory = false };
  file_calls = Remove path false ∷ [];
  refused_page = None;
}

abbrev pub IsRemovalCarriedOut : (counted : Bool) → List ℕ → (dispatched coming : List Dispatched) → Type 0
IsRemovalCarriedOut counted path dispatched coming =
    IsPlanCarriedOut Told ToldStatus AreNone (HasFailedCall (failed_removal path)) no_text [] 80
    (removal_shown counted path) dispatched coming (failed_removal path)

abbrev pub PlanIsMet : Type 0
PlanIsMet = (path : List ℕ) → IsRemovalCarriedOut true path [] []

-- A call that failed is counted.
abbrev pub UncountedIsRefused : Type 0
UncountedIsRefused = (path : List ℕ) (dispatched coming : List Dispatched)
    → ¬ (IsRemovalCarriedOut false path dispatched coming)
