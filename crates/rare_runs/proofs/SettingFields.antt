-- Fields of a setting of which one is wrong, and no other.
use Rattle.std.proofs.Common.{◌≡◌, ◌≢◌, ◌∙◌, ◌==◌, ℕ, zero, suc, true, false, [], ◌∷◌, Some, None, refl, sym, ap, subst, slice_get, arith}
use Rattle.std.specs.Prelude.{IsSome, codes}
use Rattle.s3_model.specs.declared.outcomes.Cause.TheVariants as cause
use Rattle.s3_model.specs.declared.outcomes.Outcome.{Outcome}
use Rattle.s3_model.specs.declared.outcomes.Outcome.TheVariants as outcome
use Rattle.s3_model.specs.declared.outcomes.Reason.{Reason}
use Rattle.s3_model.specs.declared.outcomes.Reason.TheVariants as reason
use Rattle.run_promise.specs.Settled.{MayCancel, cause_of, is_dry, is_memory, tells_file_failed}
use Rattle.run_promise.specs.Truthful.{Shown}
use Rattle.shared_lemmas.proofs.Clashes.{false_true, none_is_some, some_is, true_is_false}
use Rattle.rare_runs.specs.SettingFields.{Cancelled, Cancels, Dry, EachFieldBreaksAlone, Field, FieldsAreAll, Files, Lanes, Left, Memory, PlanningMemory, SaysOf, Untimed, WarningMemory}
use Rattle.rare_runs.specs.Settings.{IsSettled, cancelled, excused, failed_by_file, outcomes, setting, shown_with, with_excused, with_setting, wants_planning, wants_second, temp, file}
use Rattle.rare_runs.proofs.Settings.{by_length, cancels, changed_cancelled, memory_cancelled, none_given}

memory_of : (last : Outcome) → false ≡ is_memory (cause_of (Some last)) → (n : ℕ) → wants_second (Some n) ≡ is_memory (cause_of (slice_get (outcomes last) n))
memory_of last e zero = refl
memory_of last e (suc zero) = refl
memory_of last e (suc (suc zero)) = refl
memory_of last e (suc (suc (suc zero))) = e
memory_of last e (suc (suc (suc (suc n)))) = other
  where
    other : (suc (suc (suc (suc n))) == 1) ≡ false
    other = grind arith

files_of : (last : Outcome) → false ≡ tells_file_failed (slice_get setting.tasks 3) (Some last) → (n : ℕ) → failed_by_file n ≡ tells_file_failed (slice_get setting.tasks n) (slice_get (outcomes last) n)
files_of last e zero = refl
files_of last e (suc zero) = refl
files_of last e (suc (suc zero)) = refl
files_of last e (suc (suc (suc zero))) = e
files_of last e (suc (suc (suc (suc n)))) =
    let one : (suc (suc (suc (suc n))) == 1) ≡ false = grind arith in
    let two : (suc (suc (suc (suc n))) == 2) ≡ false = grind arith in
    rw (one, two) refl

dry_of : (last : Outcome) → is_dry last ≡ false → (n : ℕ) (how : Outcome) → slice_get (outcomes last) n ≡ Some how → is_dry how ≡ false
dry_of last e zero how is = sym (ap is_dry (some_is outcome.Done how is))
dry_of last e (suc zero) how is = sym (ap is_dry (some_is (outcome.Failed cause.Memory) how is))
dry_of last e (suc (suc zero)) how is = sym (ap is_dry (some_is (outcome.Failed cause.Changed) how is))
dry_of last e (suc (suc (suc zero))) how is = subst (λ (o : Outcome). is_dry o ≡ false) (some_is last how is) e
dry_of last e (suc (suc (suc (suc n)))) how is = absurd (none_is_some how is)

-- where the last task ended for no cause
uncancelled : (O : Type 0) (last : Outcome) → cause_of (Some last) ≡ None → (n : ℕ) (why : Reason) → cause_of (slice_get (outcomes last) n) ≡ Some (cause.Cancelled why) → IsSome {T = ℕ} (Some 2) × MayCancel 1 O ⊥ why
uncancelled O last e zero why is = absurd (none_is_some (cause.Cancelled why) is)
uncancelled O last e (suc zero) why is = absurd (memory_cancelled why is)
uncancelled O last e (suc (suc zero)) why is = absurd (changed_cancelled why is)
uncancelled O last e (suc (suc (suc zero))) why is = absurd (none_is_some (cause.Cancelled why) (sym e ∙ is))
uncancelled O last e (suc (suc (suc (suc n)))) why is = absurd (none_is_some (cause.Cancelled why) is)

-- ---- the fields

fields_are_all : (O : Type 0) → FieldsAreAll O
fields_are_all O shown = (
  (λ all. record {
    memory = all Memory;
    planning_memory = all PlanningMemory;
    warning_memory = all WarningMemory;
    lanes = all Lanes;
    left = all Left;
    untimed = all Untimed;
    files = all Files;
    cancelled = all Cancelled;
    cancels = all Cancels;
    dry = all Dry;
  }),
  of_setting,
)
  where
    of_setting : IsSettled O shown → (of_field : Field) → SaysOf O shown of_field
    of_setting is Memory = is.memory
    of_setting is PlanningMemory = is.planning_memory
    of_setting is WarningMemory = is.warning_memory
    of_setting is Lanes = is.lanes
    of_setting is Left = is.left
    of_setting is Untimed = is.untimed
    of_setting is Files = is.files
    of_setting is Cancelled = is.cancelled
    of_setting is Cancels = is.cancels
    of_setting is Dry = is.dry

-- what is to be shown of each field but the broken one
record Parts (O : Type 0) (shown : Shown) (broken : Field) : Type 0 where
  memory : Memory ≢ broken → SaysOf O shown Memory
  planning_memory : PlanningMemory ≢ broken → SaysOf O shown PlanningMemory
  warning_memory : WarningMemory ≢ broken → SaysOf O shown WarningMemory
  lanes : Lanes ≢ broken → SaysOf O shown Lanes
  left : Left ≢ broken → SaysOf O shown Left
  untimed : Untimed ≢ broken → SaysOf O shown Untimed
  files : Files ≢ broken → SaysOf O shown Files
  was_cancelled : Cancelled ≢ broken → SaysOf O shown Cancelled
  cancels_each : Cancels ≢ broken → SaysOf O shown Cancels
  dry : Dry ≢ broken → SaysOf O shown Dry

holds : (O : Type 0) (shown : Shown) (broken : Field) → Parts O shown broken → (of_field : Field) → of_field ≢ broken → SaysOf O shown of_field
holds O shown broken parts Memory other = parts.memory other
holds O shown broken parts PlanningMemory other = parts.planning_memory other
holds O shown broken parts WarningMemory other = parts.warning_memory other
holds O shown broken parts Lanes other = parts.lanes other
holds O shown broken parts Left other = parts.left other
holds O shown broken parts Untimed other = parts.untimed other
holds O shown broken parts Files other = parts.files other
holds O shown broken parts Cancelled other = parts.was_cancelled other
holds O shown broken parts Cancels other = parts.cancels_each other
holds O shown broken parts Dry other = parts.dry other

-- ---- each neighbour

pub each_field_breaks_alone : EachFieldBreaksAlone
each_field_breaks_alone = record {
  all_fields = fields_are_all (Unit {0});
  all_without = fields_are_all ⊥;
  memory = (
    holds (Unit {0}) (with_setting (record setting { wanted_memory = λ task. false })) Memory (record {
      memory = λ other. absurd (other refl);
      planning_memory = λ other. (λ wanted. absurd (false_true wanted));
      warning_memory = λ other. (λ wanted. absurd (false_true wanted));
      lanes = λ other. (refl);
      left = λ other. (refl);
      untimed = λ other. (refl);
      files = λ other. (files_of (cancelled reason.OutputFailed) refl);
      was_cancelled = λ other. (λ was. (reason.OutputFailed, tt));
      cancels_each = λ other. (cancels);
      dry = λ other. (dry_of (cancelled reason.OutputFailed) refl);
    }),
    λ says. false_true (says 1),
  );
  planning_memory = (
    holds (Unit {0}) (with_setting (record setting { wanted_memory = wants_planning })) PlanningMemory (record {
      memory = λ other. (memory_of (cancelled reason.OutputFailed) refl);
      planning_memory = λ other. absurd (other refl);
      warning_memory = λ other. (λ wanted. absurd (false_true wanted));
      lanes = λ other. (refl);
      left = λ other. (refl);
      untimed = λ other. (refl);
      files = λ other. (files_of (cancelled reason.OutputFailed) refl);
      was_cancelled = λ other. (λ was. (reason.OutputFailed, tt));
      cancels_each = λ other. (cancels);
      dry = λ other. (dry_of (cancelled reason.OutputFailed) refl);
    }),
    λ says. let seventy : 1 ≡ 70 = says refl in omega arith,
  );
  warning_memory = (
    holds (Unit {0}) (with_excused (record excused { wanted_memory = true })) WarningMemory (record {
      memory = λ other. (memory_of (cancelled reason.OutputFailed) refl);
      planning_memory = λ other. (λ wanted. absurd (false_true wanted));
      warning_memory = λ other. absurd (other refl);
      lanes = λ other. (refl);
      left = λ other. (refl);
      untimed = λ other. (refl);
      files = λ other. (files_of (cancelled reason.OutputFailed) refl);
      was_cancelled = λ other. (λ was. (reason.OutputFailed, tt));
      cancels_each = λ other. (cancels);
      dry = λ other. (dry_of (cancelled reason.OutputFailed) refl);
    }),
    λ says. let seventy : 1 ≡ 70 = says refl in omega arith,
  );
  lanes = (
    holds (Unit {0}) (with_setting (record setting { lanes = 2 })) Lanes (record {
      memory = λ other. (memory_of (cancelled reason.OutputFailed) refl);
      planning_memory = λ other. (λ wanted. absurd (false_true wanted));
      warning_memory = λ other. (λ wanted. absurd (false_true wanted));
      lanes = λ other. absurd (other refl);
      left = λ other. (refl);
      untimed = λ other. (refl);
      files = λ other. (files_of (cancelled reason.OutputFailed) refl);
      was_cancelled = λ other. (λ was. (reason.OutputFailed, tt));
      cancels_each = λ other. (cancels);
      dry = λ other. (dry_of (cancelled reason.OutputFailed) refl);
    }),
    λ says. let same : 2 ≡ 1 = says in omega arith,
  );
  left = (
    holds (Unit {0}) (with_excused (record excused { left = [] })) Left (record {
      memory = λ other. (memory_of (cancelled reason.OutputFailed) refl);
      planning_memory = λ other. (λ wanted. absurd (false_true wanted));
      warning_memory = λ other. (λ wanted. absurd (false_true wanted));
      lanes = λ other. (refl);
      left = λ other. absurd (other refl);
      untimed = λ other. (refl);
      files = λ other. (files_of (cancelled reason.OutputFailed) refl);
      was_cancelled = λ other. (λ was. (reason.OutputFailed, tt));
      cancels_each = λ other. (cancels);
      dry = λ other. (dry_of (cancelled reason.OutputFailed) refl);
    }),
    λ says. by_length _ _ 0 1 refl refl (λ e. omega arith) says,
  );
  more_left = (
    holds (Unit {0}) (with_excused (record excused { left = temp ∷ codes "l.0a1b2c3d.s3part" ∷ [] })) Left (record {
      memory = λ other. (memory_of (cancelled reason.OutputFailed) refl);
      planning_memory = λ other. (λ wanted. absurd (false_true wanted));
      warning_memory = λ other. (λ wanted. absurd (false_true wanted));
      lanes = λ other. (refl);
      left = λ other. absurd (other refl);
      untimed = λ other. (refl);
      files = λ other. (files_of (cancelled reason.OutputFailed) refl);
      was_cancelled = λ other. (λ was. (reason.OutputFailed, tt));
      cancels_each = λ other. (cancels);
      dry = λ other. (dry_of (cancelled reason.OutputFailed) refl);
    }),
    λ says. by_length _ _ 2 1 refl refl (λ e. omega arith) says,
  );
  untimed = (
    holds (Unit {0}) (with_excused (record excused { untimed = [] })) Untimed (record {
      memory = λ other. (memory_of (cancelled reason.OutputFailed) refl);
      planning_memory = λ other. (λ wanted. absurd (false_true wanted));
      warning_memory = λ other. (λ wanted. absurd (false_true wanted));
      lanes = λ other. (refl);
      left = λ other. (refl);
      untimed = λ other. absurd (other refl);
      files = λ other. (files_of (cancelled reason.OutputFailed) refl);
      was_cancelled = λ other. (λ was. (reason.OutputFailed, tt));
      cancels_each = λ other. (cancels);
      dry = λ other. (dry_of (cancelled reason.OutputFailed) refl);
    }),
    λ says. by_length _ _ 0 1 refl refl (λ e. omega arith) says,
  );
  more_untimed = (
    holds (Unit {0}) (with_excused (record excused { untimed = file ∷ codes "l" ∷ [] })) Untimed (record {
      memory = λ other. (memory_of (cancelled reason.OutputFailed) refl);
      planning_memory = λ other. (λ wanted. absurd (false_true wanted));
      warning_memory = λ other. (λ wanted. absurd (false_true wanted));
      lanes = λ other. (refl);
      left = λ other. (refl);
      untimed = λ other. absurd (other refl);
      files = λ other. (files_of (cancelled reason.OutputFailed) refl);
      was_cancelled = λ other. (λ was. (reason.OutputFailed, tt));
      cancels_each = λ other. (cancels);
      dry = λ other. (dry_of (cancelled reason.OutputFailed) refl);
    }),
    λ says. by_length _ _ 2 1 refl refl (λ e. omega arith) says,
  );
  files = (
    holds (Unit {0}) (with_setting (record setting { file_failed = λ n. n == 1 })) Files (record {
      memory = λ other. (memory_of (cancelled reason.OutputFailed) refl);
      planning_memory = λ other. (λ wanted. absurd (false_true wanted));
      warning_memory = λ other. (λ wanted. absurd (false_true wanted));
      lanes = λ other. (refl);
      left = λ other. (refl);
      untimed = λ other. (refl);
      files = λ other. absurd (other refl);
      was_cancelled = λ other. (λ was. (reason.OutputFailed, tt));
      cancels_each = λ other. (cancels);
      dry = λ other. (dry_of (cancelled reason.OutputFailed) refl);
    }),
    λ says. false_true (says 2),
  );
  no_reason = (
    holds ⊥ (shown_with setting excused outcome.Done) Cancelled (record {
      memory = λ other. (memory_of outcome.Done refl);
      planning_memory = λ other. (λ wanted. absurd (false_true wanted));
      warning_memory = λ other. (λ wanted. absurd (false_true wanted));
      lanes = λ other. (refl);
      left = λ other. (refl);
      untimed = λ other. (refl);
      files = λ other. (files_of outcome.Done refl);
      was_cancelled = λ other. absurd (other refl);
      cancels_each = λ other. (uncancelled ⊥ outcome.Done refl);
      dry = λ other. (dry_of outcome.Done refl);
    }),
    λ says. let why = says refl in none_given why.0 why.1,
  );
  never_cancelled = (
    holds (Unit {0}) (with_setting (record setting { cancelled_at = None })) Cancels (record {
      memory = λ other. (memory_of (cancelled reason.OutputFailed) refl);
      planning_memory = λ other. (λ wanted. absurd (false_true wanted));
      warning_memory = λ other. (λ wanted. absurd (false_true wanted));
      lanes = λ other. (refl);
      left = λ other. (refl);
      untimed = λ other. (refl);
      files = λ other. (files_of (cancelled reason.OutputFailed) refl);
      was_cancelled = λ other. (λ was. absurd (false_true was));
      cancels_each = λ other. absurd (other refl);
      dry = λ other. (dry_of (cancelled reason.OutputFailed) refl);
    }),
    λ says. false_true (says 3 reason.OutputFailed refl).0,
  );
  other_reason = (
    holds (Unit {0}) (shown_with setting excused (cancelled reason.ListingEnded)) Cancels (record {
      memory = λ other. (memory_of (cancelled reason.ListingEnded) refl);
      planning_memory = λ other. (λ wanted. absurd (false_true wanted));
      warning_memory = λ other. (λ wanted. absurd (false_true wanted));
      lanes = λ other. (refl);
      left = λ other. (refl);
      untimed = λ other. (refl);
      files = λ other. (files_of (cancelled reason.ListingEnded) refl);
      was_cancelled = λ other. (λ was. (reason.OutputFailed, tt));
      cancels_each = λ other. absurd (other refl);
      dry = λ other. (dry_of (cancelled reason.ListingEnded) refl);
    }),
    λ says. (says 3 reason.ListingEnded refl).1,
  );
  dry = (
    holds (Unit {0}) (with_setting (record setting { dryrun = true })) Dry (record {
      memory = λ other. (memory_of (cancelled reason.OutputFailed) refl);
      planning_memory = λ other. (λ wanted. absurd (false_true wanted));
      warning_memory = λ other. (λ wanted. absurd (false_true wanted));
      lanes = λ other. (refl);
      left = λ other. (refl);
      untimed = λ other. (refl);
      files = λ other. (files_of (cancelled reason.OutputFailed) refl);
      was_cancelled = λ other. (λ was. (reason.OutputFailed, tt));
      cancels_each = λ other. (cancels);
      dry = λ other. absurd (other refl);
    }),
    λ says. false_true (says 0 outcome.Done refl),
  );
  shown_alone = (
    holds (Unit {0}) (shown_with setting excused outcome.Dry) Dry (record {
      memory = λ other. (memory_of outcome.Dry refl);
      planning_memory = λ other. (λ wanted. absurd (false_true wanted));
      warning_memory = λ other. (λ wanted. absurd (false_true wanted));
      lanes = λ other. (refl);
      left = λ other. (refl);
      untimed = λ other. (refl);
      files = λ other. (files_of outcome.Dry refl);
      was_cancelled = λ other. (λ was. (reason.OutputFailed, tt));
      cancels_each = λ other. (uncancelled (Unit {0}) outcome.Dry refl);
      dry = λ other. absurd (other refl);
    }),
    λ says. true_is_false (says 3 outcome.Dry refl),
  );
}
