-- A run whose setting follows from what it came to, and its neighbours with one field changed.
use Rattle.std.specs.Prelude.{◌==◌, ◌||◌, ℕ, Bool, true, false, List, [], ◌∷◌, Option, Some, None, codes}
use Rattle.std.specs.FinMap.{empty}
use Rattle.s3_model.specs.declared.outcomes.Cause.TheVariants as cause
use Rattle.s3_model.specs.declared.outcomes.Outcome.{Outcome}
use Rattle.s3_model.specs.declared.outcomes.Outcome.TheVariants as outcome
use Rattle.s3_model.specs.declared.outcomes.Reason.{Reason}
use Rattle.s3_model.specs.declared.outcomes.Reason.TheVariants as reason
use Rattle.s3_model.specs.declared.settings.Config.{Config}
use Rattle.s3_model.specs.declared.settings.Limits.{Limits}
use Rattle.s3_model.specs.declared.tasks.Task.{Task}
use Rattle.s3_model.specs.declared.tasks.Warning.{Warning}
use Rattle.s3_model.specs.declared.tasks.Warning.TheVariants as warning
use Rattle.run_promise.specs.Endings.{Excused}
use Rattle.run_promise.specs.Schedule.{Setting}
use Rattle.run_promise.specs.Settled.{IsSettingOf}
use Rattle.run_promise.specs.Truthful.{Shown}
use Rattle.world_laws.specs.ExampleTasks as tasks

-- ---- the run

abbrev pub config : Config
config = record { threshold = 3; chunk = 1; lanes = 2; queue = 1; buffers = 1; attempts = 2 }

abbrev pub limits : Limits
limits = record { min_part = 1; max_part = 1; max_parts = 2; max_object = 2 }

-- the file of that name, to the key of that name
abbrev pub upload : ℕ → Task
upload name = tasks.upload (codes "b") (name ∷ []) (name ∷ []) 2 false

-- memory ran out for the second task
abbrev pub wants_second : Option ℕ → Bool
wants_second None = false
wants_second (Some n) = n == 1

-- the file of the third one had changed
abbrev pub failed_by_file : ℕ → Bool
failed_by_file n = n == 1 || n == 2

-- three tasks, and a fourth one that ended so
abbrev pub outcomes : Outcome → List Outcome
outcomes last =
    outcome.Done ∷ outcome.Failed cause.Memory ∷ outcome.Failed cause.Changed ∷ last ∷ []

-- it was not begun, since an output had failed
abbrev pub cancelled : Reason → Outcome
cancelled why = outcome.Failed (cause.Cancelled why)

abbrev pub temp : List ℕ
temp = codes "k.0a1b2c3d.s3part"

abbrev pub file : List ℕ
file = codes "k"

abbrev pub warnings : List Warning
warnings = warning.TempLeft temp ∷ warning.TimeNotSet file ∷ []

abbrev pub setting : Setting
setting = record {
  config = config;
  limits = limits;
  lanes = 1;
  tasks = upload 1 ∷ upload 2 ∷ upload 3 ∷ upload 4 ∷ [];
  dryrun = false;
  held = empty;
  others = [];
  file_failed = failed_by_file;
  cancelled_at = Some 2;
  wanted_memory = wants_second;
}

abbrev pub excused : Excused
excused = record { left = temp ∷ []; untimed = file ∷ []; wanted_memory = false }

-- what it shows, with that setting, these exceptions, and its fourth task ended so
abbrev pub shown_with : Setting → Excused → Outcome → Shown
shown_with s except last = record {
  setting = s;
  status = 1;
  outcomes = outcomes last;
  journal = [];
  logs = λ lane. [];
  notes = λ lane. [];
  held_after = empty;
  excused = except;
  file_calls = [];
  refused_page = None;
}

-- over one wire, where an output failed or did not, and no listing ended early
abbrev pub IsSettled : (OutputFailed : Type 0) → Shown → Type 0
IsSettled OutputFailed shown = IsSettingOf shown 1 warnings OutputFailed ⊥

abbrev pub SettingIsMet : Type 0
SettingIsMet = IsSettled (Unit {0}) (shown_with setting excused (cancelled reason.OutputFailed))

-- ---- its neighbours

-- the same with another setting, or with other exceptions
abbrev pub with_setting : Setting → Shown
with_setting s = shown_with s excused (cancelled reason.OutputFailed)

abbrev pub with_excused : Excused → Shown
with_excused except = shown_with setting except (cancelled reason.OutputFailed)

abbrev pub IsUnsettled : Shown → Type 0
IsUnsettled shown = ¬ (IsSettled (Unit {0}) shown)

-- memory ran out for the planning, and for the second task
abbrev pub wants_planning : Option ℕ → Bool
wants_planning None = true
wants_planning (Some n) = n == 1

pub record SettingsAreRefused : Type 0 where
  -- memory did not run out for the task with that cause, or ran out for all
  pub memory : IsUnsettled (with_setting (record setting { wanted_memory = λ task. false }))
  pub more_memory : IsUnsettled (with_setting (record setting { wanted_memory = λ task. true }))
  -- it ran out for the planning, or for a warning, and the status is 1
  pub planning_memory : IsUnsettled (with_setting (record setting { wanted_memory = wants_planning }))
  pub warning_memory : IsUnsettled (with_excused (record excused { wanted_memory = true }))
  -- more lanes are used than there are wires, or fewer
  pub more_lanes : IsUnsettled (with_setting (record setting { lanes = 2 }))
  pub no_lane : IsUnsettled (with_setting (record setting { lanes = 0 }))
  -- what a warning names is not excused, or what none names is
  pub left : IsUnsettled (with_excused (record excused { left = [] }))
  pub more_left : IsUnsettled (with_excused (record excused { left = temp ∷ codes "l.0a1b2c3d.s3part" ∷ [] }))
  pub untimed : IsUnsettled (with_excused (record excused { untimed = [] }))
  pub more_untimed : IsUnsettled (with_excused (record excused { untimed = file ∷ codes "l" ∷ [] }))
  -- the file call that failed is not counted, or one of the task that is done is
  pub files : IsUnsettled (with_setting (record setting { file_failed = λ n. n == 1 }))
  pub more_files : IsUnsettled (with_setting (record setting { file_failed = λ n. true }))
  -- the run was cancelled, though no output failed, no listing ended early, and memory did not run out
  pub no_reason : ¬ (IsSettled ⊥ (shown_with setting excused outcome.Done))
  -- a task was cancelled, and the run was not, or for a reason that there was not
  pub never_cancelled : IsUnsettled (with_setting (record setting { cancelled_at = None }))
  pub other_reason : IsUnsettled (shown_with setting excused (cancelled reason.ListingEnded))
  pub out_of_memory : IsUnsettled (shown_with setting excused (cancelled reason.OutOfMemory))
  pub for_failure : IsUnsettled (shown_with setting excused (cancelled reason.TaskFailed))
  -- a dry run whose tasks were carried out, and a task that was shown alone in a run that was not dry
  pub dry : IsUnsettled (with_setting (record setting { dryrun = true }))
  pub shown_alone : IsUnsettled (shown_with setting excused outcome.Dry)

abbrev pub EachSettingIsRefused : Type 0
EachSettingIsRefused = SettingsAreRefused
