-- A Put that came without an attempt, since memory ran out for it or the run was cancelled.
use Rattle.std.proofs.Common.{◌≡◌, ◌⊎◌, ◌==◌, ◌<◌, ◌≤◌, ℕ, zero, suc, Bool, false, List, [], ◌∷◌, Option, Some, None, refl, ap, subst, inl, inr, filter, filter_map, slice_get, Contains, arith}
use Rattle.std.specs.Prelude.{flat_map}
use Rattle.std.proofs.lemmas.List.Sorted.{IsPermutation-refl}
use Rattle.s3_model.specs.declared.answers.Listed.{Listed}
use Rattle.s3_model.specs.declared.outcomes.Cause.TheVariants as cause
use Rattle.s3_model.specs.declared.outcomes.Event.{Event}
use Rattle.s3_model.specs.declared.outcomes.JobId.{JobId}
use Rattle.s3_model.specs.declared.outcomes.Outcome.{Outcome}
use Rattle.s3_model.specs.declared.outcomes.Outcome.TheVariants as outcome
use Rattle.s3_model.specs.declared.outcomes.Reason.{Reason}
use Rattle.s3_model.specs.declared.requests.Op.TheVariants as op
use Rattle.s3_model.specs.declared.tasks.Task.{Task}
use Rattle.s3_model.specs.declared.tries.Mark.{Mark}
use Rattle.job_terms.specs.Buffers.{KeepsBuffers, buffers_out}
use Rattle.job_terms.specs.Dispatches.{Dispatched}
use Rattle.job_terms.specs.Jobs.{job_of}
use Rattle.run_promise.specs.Carried.{IsWanting, MayStop}
use Rattle.run_promise.specs.Dispatches.{IsCut, IsFailing}
use Rattle.run_promise.specs.Fits.{Fits, requests_of}
use Rattle.run_promise.specs.Outcomes.{HasDeciding, HasMark, HasOutcome}
use Rattle.run_promise.specs.Schedule.{IsBefore, IsFailed, IsSchedule, IsStopped, Setting, gained_before}
use Rattle.run_promise.specs.Traces.{begun_in, events_of}
use Rattle.run_promise.specs.Truthful.{IsDest}
use Rattle.shared_lemmas.proofs.Clashes.{false_true as never}
use Rattle.world_laws.proofs.Faithful.{IsFaithful}
use Rattle.promise_examples.specs.Misfits.{before, bucket, key}
use Rattle.promise_examples.specs.Reading.{HasNoStatus, NeverFailed, Reads, signed_body}
use Rattle.promise_examples.specs.Refused.{path, task}
use Rattle.promise_examples.specs.Runs.{Example}
use Rattle.promise_examples.proofs.Carrying as carrying
use Rattle.promise_examples.proofs.Concrete.{at, each, front_of, none_is_some, some_is}
use Rattle.promise_examples.proofs.Fitting as fitting
use Rattle.promise_examples.proofs.Honest.{honest, one_bucket_is_faithful}
use Rattle.promise_examples.proofs.Noting as noting
use Rattle.promise_examples.proofs.Scheduling as scheduling
use Rattle.promise_examples.proofs.SmallPut as small
use Rattle.rare_runs.specs.ShortRuns.{CancelledIsMet, IsMetUnplanned, MemoryIsMet, cancelled, untried, untried_trace, wants_first}

abbrev silent : Dispatched
silent = small.put_with []

abbrev jobs : List Dispatched
jobs = silent ∷ []

abbrev Plans : List Dispatched → Type 0
Plans planning = planning ≡ []

put_abort : op.Put ≡ op.Abort → ⊥
put_abort = scheduling.other_op op.Put op.Abort refl

module _ (page_of : List ℕ → Listed) (wanted_memory : Option ℕ → Bool) (cancelled_at : Option ℕ) (how : Outcome) where
  abbrev e : Example
  e = untried wanted_memory cancelled_at how

  abbrev s : Setting
  s = e.setting

  not_created : (n : ℕ) (c : Dispatched) → Contains jobs c → c.dispatch.job ≡ job_of n op.Create 0 → ⊥
  not_created n c known is = each (λ (d : Dispatched). d.dispatch.job ≡ job_of n op.Create 0 → ⊥) jobs ((λ same. scheduling.other_op op.Put op.Create refl (ap (λ (job : JobId). job.op) same)), tt) c known is

  scheduled : IsSchedule (Reads page_of) s Plans jobs jobs
  scheduled = scheduling.scheduled (Reads page_of) s Plans jobs jobs (record {
    is_coming = IsPermutation-refl jobs;
    in_order = (tt, tt);
    asks = ((task, 2, 1, refl, inl (omega arith, refl, refl), refl, refl, small.asks bucket key path (gained_before (Reads page_of) jobs 0)), tt);
    plans = refl;
    numbered = tt;
    one_by_one = tt;
    carried_out = refl;
    twice = (tt, tt);
    seconds = (omega arith, tt);
    stops = λ failed c is_failed of_task no_abort known same late. absurd (each (λ (d : Dispatched). IsBefore failed.dispatch.came_at d.dispatch.given_at → ⊥) jobs (small.never_before failed.dispatch.came_at, tt) c known late);
    no_abort = (refl, tt);
    completes = λ n id end ended created. absurd (not_created n created.0 created.1 created.2);
    moves_last = ((λ n t of_task at_n moves deletes. absurd (scheduling.other_op op.Put op.Delete refl deletes)), tt);
  })

  lane_is : (lane : ℕ) → lane < 1 → carrying.IsLane page_of s jobs e.logs e.notes jobs lane
  lane_is zero used = record { in_turn = (tt, tt); gained = refl; noted = noting.done page_of }
  lane_is (suc lane) used = absurd (omega arith)

  begins : (lane : ℕ) → filter_map (begun_in lane) (events_of untried_trace) ≡ flat_map requests_of (filter (λ (c : Dispatched). c.dispatch.lane == lane) jobs)
  begins zero = refl
  begins (suc lane) =
      let b : (0 == suc lane) ≡ false = grind arith in
      rw b refl

  fits : Fits (Reads page_of) None (events_of untried_trace) e.journal jobs
  fits = fitting.fits (Reads page_of) jobs (events_of untried_trace) e.journal refl begins (refl, (tt, tt)) (tt, (refl, tt)) tt (tt, (tt, tt)) (tt, ((tt, tt), tt))

  keeps : KeepsBuffers 1 e.journal
  keeps front back is = front_of (λ (f : List Event). buffers_out f ≤ 1) e.journal (omega arith, (omega arith, omega arith)) front back is

  still : IsFaithful before
  still = one_bucket_is_faithful bucket

  -- no attempt has a mark
  no_mark : (of_mark : Mark) → HasDeciding (Reads page_of) HasNoStatus NeverFailed s jobs jobs 0 task of_mark → ⊥
  no_mark of_mark decided = each (λ (d : Dispatched). HasMark d of_mark → ⊥) jobs ((λ h. none_is_some h.1 h.2), tt) decided.0 decided.1 decided.3

  met : IsWanting (Reads page_of) signed_body [] 80 s silent ⊎ MayStop (Reads page_of) signed_body [] 80 s jobs silent → HasOutcome (Reads page_of) HasNoStatus NeverFailed s jobs jobs 0 task how → IsMetUnplanned page_of e before untried_trace
  met excused ended = record {
    dispatched = jobs;
    coming = jobs;
    schedule = scheduled;
    carried = carrying.carried page_of s jobs e.journal e.logs e.notes jobs (record {
      shown = refl;
      comes = ((1, [], refl, refl, refl), tt);
      inside = (omega arith, tt);
      unused = λ lane beyond. (carrying.none_in _ lane beyond, carrying.none_in _ lane beyond);
      known = (tt, ((silent, at jobs 0 silent refl, refl), tt));
      lanes = lane_is;
      marks = (tt, tt);
      again = (tt, tt);
      given_again = (tt, tt);
      at_most = (omega arith, tt);
      ends = (excused, tt);
    });
    buffers = keeps;
    runs = (refl, (refl, tt));
    honest = honest before untried_trace (still, (still, (still, tt))) (tt, (tt, tt)) (IsDest s.tasks);
    fits = fits;
    whole = ([], refl, refl);
    causes = cause_is;
  }
    where
      cause_is : (n : ℕ) (t : Task) (ends : Outcome) → slice_get s.tasks n ≡ Some t → slice_get e.outcomes n ≡ Some ends → HasOutcome (Reads page_of) HasNoStatus NeverFailed s jobs jobs n t ends
      cause_is zero t ends at_task at_how = subst (HasOutcome (Reads page_of) HasNoStatus NeverFailed s jobs jobs 0 t) (some_is how ends at_how)
          (subst (λ (x : Task). HasOutcome (Reads page_of) HasNoStatus NeverFailed s jobs jobs 0 x how) (some_is task t at_task) ended)
      cause_is (suc n) t ends at_task at_how = absurd (none_is_some t at_task)

-- ---- memory ran out

pub memory_is_met : MemoryIsMet
memory_is_met page_of = met page_of wants_first None (outcome.Failed cause.Memory) (inl refl) (
  no_mark page_of wants_first None (outcome.Failed cause.Memory) _,
  (λ left_open. no_mark page_of wants_first None (outcome.Failed cause.Memory) _ left_open.0),
  refl,
  (λ fresh. absurd (never fresh)),
)

-- ---- the run was cancelled

module _ (page_of : List ℕ → Listed) (why : Reason) where
  abbrev stopped : Setting
  stopped = (cancelled why).setting

  is_cut : IsCut (Reads page_of) 2 silent [] (IsStopped stopped (Some 0) ⊎ IsFailing (Reads page_of) 2 (Some 0) (IsStopped stopped (Some 0)) [])
  is_cut = inr (refl, put_abort, refl, tt, inl refl)

  none_failed : (failed : Dispatched) → IsFailed (Reads page_of) stopped jobs failed → ⊥
  none_failed failed is_failed = scheduling.failures (Reads page_of) stopped (λ c. ⊥) jobs (inl is_cut, tt) failed is_failed

pub cancelled_is_met : CancelledIsMet
cancelled_is_met page_of why = met page_of (λ n. false) (Some 1) (outcome.Failed (cause.Cancelled why)) (inr (refl, put_abort, inl ([], [], refl, is_cut page_of why))) (
  no_mark page_of (λ n. false) (Some 1) (outcome.Failed (cause.Cancelled why)) _,
  (λ left_open. no_mark page_of (λ n. false) (Some 1) (outcome.Failed (cause.Cancelled why)) _ left_open.0),
  (refl, λ c failing. none_failed page_of why c failing.0),
  (λ fresh. absurd (never fresh)),
)
