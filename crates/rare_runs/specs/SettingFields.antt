-- Each field of a run's setting, and runs in which it alone is wrong.
use Rattle.std.specs.Prelude.{◌≡◌, ◌≢◌, ◌==◌, ℕ, true, false, [], ◌∷◌, Some, None, IsSome, codes, filter_map, slice_get}
use Rattle.s3_model.specs.declared.outcomes.Cause.TheVariants as cause
use Rattle.s3_model.specs.declared.outcomes.Outcome.{Outcome}
use Rattle.s3_model.specs.declared.outcomes.Outcome.TheVariants as outcome
use Rattle.s3_model.specs.declared.outcomes.Reason.{Reason}
use Rattle.s3_model.specs.declared.outcomes.Reason.TheVariants as reason
use Rattle.run_promise.specs.Settled.{MayCancel, cause_of, is_dry, is_memory, lanes_of, left_by, tells_file_failed}
use Rattle.run_promise.specs.Settled.{untimed_by}
use Rattle.run_promise.specs.Truthful.{Shown}
use Rattle.rare_runs.specs.Settings.{IsSettled, cancelled, excused, file, setting, shown_with, temp, wants_planning}
use Rattle.rare_runs.specs.Settings.{warnings, with_excused, with_setting}

-- the fields of what a setting is to be (`IsSettingOf` of run_promise), by their names there
pub data Field : Type 0 where
  Memory : Field
  PlanningMemory : Field
  WarningMemory : Field
  Lanes : Field
  Left : Field
  Untimed : Field
  Files : Field
  Cancelled : Field
  Cancels : Field
  Dry : Field

module _ (OutputFailed : Type 0) (shown : Shown) where
  -- what a field says of this run over one wire, where no listing ended early
  abbrev pub SaysOf : Field → Type 0
  SaysOf Memory =
      (n : ℕ) → shown.setting.wanted_memory (Some n) ≡ is_memory (cause_of (slice_get shown.outcomes n))
  SaysOf PlanningMemory = shown.setting.wanted_memory None ≡ true → shown.status ≡ 70
  SaysOf WarningMemory = shown.excused.wanted_memory ≡ true → shown.status ≡ 70
  SaysOf Lanes = shown.setting.lanes ≡ lanes_of shown.setting.config 1
  SaysOf Left = shown.excused.left ≡ filter_map left_by warnings
  SaysOf Untimed = shown.excused.untimed ≡ filter_map untimed_by warnings
  SaysOf Files = (n : ℕ) → shown.setting.file_failed n
      ≡ tells_file_failed (slice_get shown.setting.tasks n) (slice_get shown.outcomes n)
  SaysOf Cancelled = IsSome shown.setting.cancelled_at → (why : Reason) × MayCancel shown.status OutputFailed ⊥ why
  SaysOf Cancels = (n : ℕ) (why : Reason) → cause_of (slice_get shown.outcomes n) ≡ Some (cause.Cancelled why)
      → IsSome shown.setting.cancelled_at × MayCancel shown.status OutputFailed ⊥ why
  SaysOf Dry = (n : ℕ) (how : Outcome) → slice_get shown.outcomes n ≡ Some how → is_dry how ≡ shown.setting.dryrun

  -- every field holds but this one, and this one does not
  abbrev pub BreaksField : Field → Type 0
  BreaksField broken = ((of_field : Field) → of_field ≢ broken → SaysOf of_field) × ¬ (SaysOf broken)

-- the fields together say what the setting is, no more and no less
abbrev pub FieldsAreAll : Type 0 → Type 0
FieldsAreAll OutputFailed = (shown : Shown)
    → (((of_field : Field) → SaysOf OutputFailed shown of_field) → IsSettled OutputFailed shown)
    × (IsSettled OutputFailed shown → (of_field : Field) → SaysOf OutputFailed shown of_field)

-- where an output failed
abbrev pub Breaks : Field → Shown → Type 0
Breaks broken shown = BreaksField (Unit {0}) shown broken

pub record FieldsBreakAlone : Type 0 where
  pub all_fields : FieldsAreAll (Unit {0})
  pub all_without : FieldsAreAll ⊥
  pub memory : Breaks Memory (with_setting (record setting { wanted_memory = λ task. false }))
  pub planning_memory : Breaks PlanningMemory (with_setting (record setting { wanted_memory = wants_planning }))
  pub warning_memory : Breaks WarningMemory (with_excused (record excused { wanted_memory = true }))
  pub lanes : Breaks Lanes (with_setting (record setting { lanes = 2 }))
  pub left : Breaks Left (with_excused (record excused { left = [] }))
  pub more_left : Breaks Left (with_excused (record excused { left = temp ∷ codes "l.0a1b2c3d.s3part" ∷ [] }))
  pub untimed : Breaks Untimed (with_excused (record excused { untimed = [] }))
  pub more_untimed : Breaks Untimed (with_excused (record excused { untimed = file ∷ codes "l" ∷ [] }))
  pub files : Breaks Files (with_setting (record setting { file_failed = λ n. n == 1 }))
  -- where none did
  pub no_reason : BreaksField ⊥ (shown_with setting excused outcome.Done) Cancelled
  pub never_cancelled : Breaks Cancels (with_setting (record setting { cancelled_at = None }))
  pub other_reason : Breaks Cancels (shown_with setting excused (cancelled reason.ListingEnded))
  pub dry : Breaks Dry (with_setting (record setting { dryrun = true }))
  pub shown_alone : Breaks Dry (shown_with setting excused outcome.Dry)

abbrev pub EachFieldBreaksAlone : Type 0
EachFieldBreaksAlone = FieldsBreakAlone
