-- The outcomes of a task of which no job was given.
use Rattle.std.proofs.Common.{◌≡◌, ◌∙◌, ◌++◌, ℕ, false, List, [], ◌∷◌, refl, sym, subst, inl, inr, Contains, arith}
use Rattle.std.specs.Prelude.{IsPermutation, IsSome}
use Rattle.std.specs.Cmp.Lexicographic.{nat_list_cmp_total, slice_cmp}
use Rattle.std.specs.Ordering.{nat_cmp}
use Rattle.std.specs.FinMap.{empty, get, get-empty}
use Rattle.std.proofs.lemmas.List.Sorted.{IsPermutation-refl, IsPermutation-sym, Contains-permutation}
use Rattle.s3_model.specs.declared.answers.Class.{Class}
use Rattle.s3_model.specs.declared.answers.Listed.{Listed}
use Rattle.s3_model.specs.declared.outcomes.Cause.{Cause}
use Rattle.s3_model.specs.declared.outcomes.Cause.TheVariants as cause
use Rattle.s3_model.specs.declared.outcomes.Outcome.{Outcome}
use Rattle.s3_model.specs.declared.outcomes.Outcome.TheVariants as outcome
use Rattle.s3_model.specs.declared.outcomes.Reason.{Reason}
use Rattle.s3_model.specs.declared.requests.Ask.{Ask}
use Rattle.s3_model.specs.declared.tasks.Kind.TheVariants as kind
use Rattle.s3_model.specs.declared.tasks.Task.{Task}
use Rattle.s3_model.specs.declared.tries.Mark.{Mark}
use Rattle.s3_model.specs.Talks.{Talk, Began}
use Rattle.job_terms.specs.Dispatches.{Dispatched}
use Rattle.run_promise.specs.Carried.{IsCarried}
use Rattle.run_promise.specs.Outcomes.{FailsFor, HasDeciding, HasNoFailure, HasOutcome}
use Rattle.run_promise.specs.Schedule.{IsBefore, IsBeforeAny, IsSchedule, Setting}
use Rattle.shared_lemmas.proofs.Clashes.{false_true as never}
use Rattle.shared_lemmas.proofs.Lists.{no_middle}
use Rattle.shared_lemmas.proofs.Maps.{get-insert_same, text_exact}
use Rattle.promise_examples.specs.GivenAgain.{bytes}
use Rattle.promise_examples.specs.Reading.{Reads, HasNoStatus, NeverFailed, signed_body}
use Rattle.promise_examples.specs.Refused.{path, setting, task}
use Rattle.promise_examples.proofs.Carrying as carrying
use Rattle.promise_examples.proofs.Concrete.{contains_of, has, has_middle, none_is_some, pairs}
use Rattle.promise_examples.proofs.Repeats.{all_repeats}
use Rattle.promise_examples.proofs.Scheduling as scheduling
use Rattle.promise_examples.proofs.Shown.{of_shown}
use Rattle.refused_outcomes.specs.Told.{IsReading, IsTold}
use Rattle.refused_outcomes.specs.Untried as specs
use Rattle.refused_outcomes.specs.Untried.{FailedBy, UntriedCausesAreRefused, EachUntriedCauseIsRefused, fresh_load, load, untried, with_no_file, with_task}

download_upload : kind.Download ≡ kind.Upload → ⊥
download_upload e = cc

upload_download : kind.Upload ≡ kind.Download → ⊥
upload_download e = cc

lengths : (a b : ℕ) → cause.Blocked a ≡ cause.Blocked b → a ≡ b
lengths a b e = cc

-- nothing comes where nothing was given
none_came : (coming : List Dispatched) → IsPermutation [] coming → (front : List Dispatched) (c : Dispatched) (later : List Dispatched) → coming ≡ front ++ c ∷ later → ⊥
none_came coming shuffled front c later e =
    has [] c (Contains-permutation coming [] c (IsPermutation-sym [] coming shuffled) (subst (λ (xs : List Dispatched). Contains xs c) (sym e) (contains_of (front ++ c ∷ later) c (has_middle front c later))))

module _ (page_of : List ℕ → Listed) where
  abbrev Shows : Ask → ℕ → Talk → Class → List ℕ → Type 0
  Shows = Reads page_of

  abbrev Plans : List Dispatched → Type 0
  Plans planning = planning ≡ []

  no_jobs : (s : Setting) → IsSchedule Shows s Plans [] []
  no_jobs s = record {
    is_coming = IsPermutation-refl [];
    in_order = pairs (λ (a b : Dispatched). IsBeforeAny a.dispatch.came_at b.dispatch.came_at) [] tt;
    asks = λ c n known of_task. absurd (has [] c known);
    plans = refl;
    planned = λ c known of_none. absurd (has [] c known);
    numbered = λ k c at. absurd (none_is_some c at);
    one_by_one = pairs (λ (a b : Dispatched). IsBefore a.dispatch.came_at b.dispatch.given_at) [] tt;
    dry = λ c dry known. absurd (has [] c known);
    twice = all_repeats (scheduling.TwiceRule Shows s Plans [] []) [] tt;
    no_third = λ a b c i j k ij jk at_i at_j at_k same also. none_is_some a at_i;
    stops = λ failed c is_failed of_task no_abort known same late. absurd (has [] c known);
    abort_last = λ a c known also is_abort same other. absurd (has [] a known);
    aborts = λ n id end ended created. absurd (has [] created.0 created.1);
    completed_stays = λ n end a known is_abort completed. has [] a known;
    moves_last = λ c n of_task known is at moves deletes. absurd (has [] c known);
  }

  nothing_carried : (s : Setting) → IsCarried Shows signed_body [] 80 s [] (λ lane. []) (λ lane. []) [] []
  nothing_carried s = carrying.carried page_of s [] [] (λ lane. []) (λ lane. []) [] (record {
    shown = refl;
    comes = tt;
    inside = tt;
    unused = λ lane beyond. (refl, refl);
    known = tt;
    lanes = λ lane used. record { in_turn = tt; gained = refl; noted = ((λ h. has [] Began h), inl refl) };
    marks = tt;
    again = tt;
    given_again = tt;
    at_most = tt;
    ends = tt;
  })

  module _ (CallFailed : ℕ → Cause → Type 0) (s : Setting) (t : Task) where
    abbrev Has : Outcome → Type 0
    Has how = HasOutcome Shows HasNoStatus CallFailed s [] [] 0 t how

    told : (how : Outcome) → Has how → IsTold page_of CallFailed (untried s) t how
    told how has_outcome = record { dispatched = []; coming = []; reading = record { schedule = no_jobs s; carried = nothing_carried s }; has_outcome = has_outcome }

    none_decides : (of_mark : Mark) → HasDeciding Shows HasNoStatus CallFailed s [] [] 0 t of_mark → ⊥
    none_decides of_mark decides = has [] decides.0 decides.1

    fails : (why : Cause) → t.fresh ≡ false → FailsFor Shows HasNoStatus CallFailed s [] [] 0 t why → IsTold page_of CallFailed (untried s) t (outcome.Failed why)
    fails why replaces cause = told (outcome.Failed why) (none_decides _, (λ left. none_decides _ left.0), cause, (λ fresh. absurd (never (sym replaces ∙ fresh))))

    quiet : HasNoFailure Shows HasNoStatus CallFailed s [] [] 0
    quiet c failure = no_middle failure.0.0 c failure.0.1 failure.0.2

  -- a cancel that comes first
  pub cancelled_untried : (s : Setting) (t : Task) (why : Reason) → IsSome s.cancelled_at → t.fresh ≡ false → HasOutcome Shows HasNoStatus NeverFailed s [] [] 0 t (outcome.Failed (cause.Cancelled why))
  cancelled_untried s t why is replaces = (none_decides NeverFailed s t _, (λ left. none_decides NeverFailed s t _ left.0), (is, quiet NeverFailed s t), (λ fresh. absurd (never (sym replaces ∙ fresh))))

  -- however it is read, nothing came
  nothing : (s : Setting) (CallFailed : ℕ → Cause → Type 0) (t : Task) (dispatched coming : List Dispatched) → IsReading page_of CallFailed (untried s) t dispatched coming
      → (front : List Dispatched) (c : Dispatched) (later : List Dispatched) → coming ≡ front ++ c ∷ later → ⊥
  nothing s CallFailed t dispatched coming reading =
      of_shown [] (λ xs. (came : List Dispatched) → IsPermutation xs came → (front : List Dispatched) (c : Dispatched) (later : List Dispatched) → came ≡ front ++ c ∷ later → ⊥) none_came dispatched reading.carried.shown coming
      reading.schedule.is_coming

  stands : IsSome (get setting.held path)
  stands = subst (λ o. IsSome o) (sym (get-insert_same nat_list_cmp_total text_exact empty path (record { bytes = bytes; micros = 0 }))) refl

  causes : UntriedCausesAreRefused page_of
  causes = record {
    cancelled = λ why. fails NeverFailed specs.cancelled task (cause.Cancelled why) refl (refl, quiet NeverFailed specs.cancelled task);
    not_cancelled = λ why dispatched coming reading how. never how.2.0;
    memory = fails NeverFailed specs.without_memory task cause.Memory refl refl;
    no_memory = λ dispatched coming reading how. never how.2;
    read = fails (FailedBy _) setting task _ refl (tt, (refl, refl));
    no_read = λ dispatched coming reading how. how.2.1;
    no_rename = λ dispatched coming reading how. how.2.0;
    changed = fails (FailedBy cause.Changed) setting task cause.Changed refl (inl (refl, (refl, refl)));
    not_changed = λ dispatched coming reading how. elim how.2 [
      | inl by_call ↦ by_call.1
      | inr first ↦ nothing setting NeverFailed task dispatched coming reading first.1.0.0.0 first.0 first.1.0.0.1 first.1.0.0.2
    ];
    blocked = λ length. fails (FailedBy (cause.Blocked length)) (with_task load) load (cause.Blocked length) refl (refl, (refl, refl));
    not_blocked = λ length dispatched coming reading how. how.2.1;
    other_length = λ dispatched coming reading how. let same : ◌≡◌ {A = ℕ} 2 1 = lengths 2 1 how.2.1.1 in omega arith;
    upload_blocked = λ length dispatched coming reading how. upload_download how.2.0;
    dry = told NeverFailed specs.dry task outcome.Dry refl;
    not_dry = λ dispatched coming reading how. never how;
    skipped = told NeverFailed (with_task fresh_load) fresh_load outcome.Skipped (refl, inr (refl, refl, inl stands, (λ c known. absurd (has [] c known))));
    free_place = λ dispatched coming reading how. elim how.1 [
      | inl by_request ↦ download_upload by_request.1
      | inr by_file ↦ elim by_file.2 [ inl there ↦ never (subst (λ o. IsSome o) (get-empty (slice_cmp nat_cmp) path) there) | inr other ↦ never other ]
    ];
    may_replace = λ dispatched coming reading how. elim how.1 [ inl by_request ↦ never by_request.0 | inr by_file ↦ never by_file.0 ];
    dry_skipped = λ dispatched coming reading how. never (sym how.0);
  }

pub each_untried_cause_is_refused : EachUntriedCauseIsRefused
each_untried_cause_is_refused page_of = causes page_of
