-- The setting that follows from what its run came to, and its neighbours that do not.
use Rattle.std.proofs.Common.{◌≡◌, ◌==◌, ℕ, zero, suc, false, List, Some, refl, sym, ap, subst, slice_get, arith}
use Rattle.std.specs.Prelude.{IsSome, length}
use Rattle.s3_model.specs.declared.outcomes.Cause.TheVariants as cause
use Rattle.s3_model.specs.declared.outcomes.Outcome.{Outcome}
use Rattle.s3_model.specs.declared.outcomes.Outcome.TheVariants as outcome
use Rattle.s3_model.specs.declared.outcomes.Reason.{Reason}
use Rattle.s3_model.specs.declared.outcomes.Reason.TheVariants as reason
use Rattle.run_promise.specs.Settled.{MayCancel, cause_of, is_dry, is_memory, tells_file_failed}
use Rattle.shared_lemmas.proofs.Clashes.{false_true, none_is_some, true_is_false, some_is}
use Rattle.rare_runs.specs.Settings.{EachSettingIsRefused, SettingIsMet, cancelled, failed_by_file, outcomes, setting, wants_second}

-- ---- the run

abbrev last : Outcome
last = cancelled reason.OutputFailed

memory_is : (n : ℕ) → wants_second (Some n) ≡ is_memory (cause_of (slice_get (outcomes last) n))
memory_is zero = refl
memory_is (suc zero) = refl
memory_is (suc (suc zero)) = refl
memory_is (suc (suc (suc zero))) = refl
memory_is (suc (suc (suc (suc n)))) = other
  where
    other : (suc (suc (suc (suc n))) == 1) ≡ false
    other = grind arith

files_are : (n : ℕ) → failed_by_file n ≡ tells_file_failed (slice_get setting.tasks n) (slice_get (outcomes last) n)
files_are zero = refl
files_are (suc zero) = refl
files_are (suc (suc zero)) = refl
files_are (suc (suc (suc zero))) = refl
files_are (suc (suc (suc (suc n)))) =
    let one : (suc (suc (suc (suc n))) == 1) ≡ false = grind arith in
    let two : (suc (suc (suc (suc n))) == 2) ≡ false = grind arith in
    rw (one, two) refl

pub memory_cancelled : (why : Reason) → Some cause.Memory ≡ Some (cause.Cancelled why) → ⊥
memory_cancelled why e = cc

pub changed_cancelled : (why : Reason) → Some cause.Changed ≡ Some (cause.Cancelled why) → ⊥
changed_cancelled why e = cc

same_reason : (a b : Reason) → Some (cause.Cancelled a) ≡ Some (cause.Cancelled b) → a ≡ b
same_reason a b e = cc

pub cancels : (n : ℕ) (why : Reason) → cause_of (slice_get (outcomes last) n) ≡ Some (cause.Cancelled why) → IsSome {T = ℕ} (Some 2) × MayCancel 1 (Unit {0}) ⊥ why
cancels zero why e = absurd (none_is_some (cause.Cancelled why) e)
cancels (suc zero) why e = absurd (memory_cancelled why e)
cancels (suc (suc zero)) why e = absurd (changed_cancelled why e)
cancels (suc (suc (suc zero))) why e = (refl, subst (MayCancel 1 (Unit {0}) ⊥) (same_reason reason.OutputFailed why e) tt)
cancels (suc (suc (suc (suc n)))) why e = absurd (none_is_some (cause.Cancelled why) e)

none_dry : (n : ℕ) (how : Outcome) → slice_get (outcomes last) n ≡ Some how → is_dry how ≡ false
none_dry zero how e = sym (ap is_dry (some_is outcome.Done how e))
none_dry (suc zero) how e = sym (ap is_dry (some_is (outcome.Failed cause.Memory) how e))
none_dry (suc (suc zero)) how e = sym (ap is_dry (some_is (outcome.Failed cause.Changed) how e))
none_dry (suc (suc (suc zero))) how e = sym (ap is_dry (some_is last how e))
none_dry (suc (suc (suc (suc n)))) how e = absurd (none_is_some how e)

pub setting_is_met : SettingIsMet
setting_is_met = record {
  memory = memory_is;
  planning_memory = λ wanted. absurd (false_true wanted);
  warning_memory = λ wanted. absurd (false_true wanted);
  lanes = refl;
  left = refl;
  untimed = refl;
  files = files_are;
  cancelled = λ was. (reason.OutputFailed, tt);
  cancels = cancels;
  dry = none_dry;
}

-- ---- its neighbours

pub none_given : (why : Reason) → MayCancel 1 ⊥ ⊥ why → ⊥
none_given reason.OutputFailed may = may
none_given reason.ListingEnded may = may
none_given reason.OutOfMemory may = omega arith
none_given reason.TaskFailed may = may

pub by_length : {A : Type 0} (xs ys : List A) (m n : ℕ) → length xs ≡ m → length ys ≡ n → (m ≡ n → ⊥) → xs ≡ ys → ⊥
by_length xs ys m n of_xs of_ys apart e = apart (let same : length xs ≡ length ys = ap length e in omega arith)

pub each_setting_is_refused : EachSettingIsRefused
each_setting_is_refused = record {
  memory = λ is. false_true (is.memory 1);
  more_memory = λ is. true_is_false (is.memory 0);
  planning_memory = λ is. let seventy : 1 ≡ 70 = is.planning_memory refl in omega arith;
  warning_memory = λ is. let seventy : 1 ≡ 70 = is.warning_memory refl in omega arith;
  more_lanes = λ is. let same : 2 ≡ 1 = is.lanes in omega arith;
  no_lane = λ is. let same : 0 ≡ 1 = is.lanes in omega arith;
  left = λ is. by_length _ _ 0 1 refl refl (λ e. omega arith) is.left;
  more_left = λ is. by_length _ _ 2 1 refl refl (λ e. omega arith) is.left;
  untimed = λ is. by_length _ _ 0 1 refl refl (λ e. omega arith) is.untimed;
  more_untimed = λ is. by_length _ _ 2 1 refl refl (λ e. omega arith) is.untimed;
  files = λ is. false_true (is.files 2);
  more_files = λ is. true_is_false (is.files 0);
  no_reason = λ is. let why = is.cancelled refl in none_given why.0 why.1;
  never_cancelled = λ is. false_true (is.cancels 3 reason.OutputFailed refl).0;
  other_reason = λ is. (is.cancels 3 reason.ListingEnded refl).1;
  out_of_memory = λ is. let seventy : 1 ≡ 70 = (is.cancels 3 reason.OutOfMemory refl).1 in omega arith;
  for_failure = λ is. (is.cancels 3 reason.TaskFailed refl).1;
  dry = λ is. false_true (is.dry 0 outcome.Done refl);
  shown_alone = λ is. true_is_false (is.dry 3 outcome.Dry refl);
}
