-- A planning whose one request is refused.
use Rattle.std.proofs.Common.{◌≡◌, ◌==◌, ◌<◌, ◌≤◌, ℕ, zero, suc, false, List, [], ◌∷◌, Some, None, refl, sym, subst, inr, filter, filter_map, take, Contains, arith}
use Rattle.std.specs.Prelude.{flat_map, IsSome}
use Rattle.std.proofs.lemmas.List.Sorted.{IsPermutation-refl}
use Rattle.s3_model.specs.declared.answers.Class.{Class}
use Rattle.s3_model.specs.declared.answers.Listed.{Listed}
use Rattle.s3_model.specs.declared.outcomes.Event.{Event}
use Rattle.s3_model.specs.declared.requests.Op.TheVariants as op
use Rattle.s3_model.specs.declared.tries.Mark.TheVariants as mark
use Rattle.s3_service.specs.Serves.{Refused}
use Rattle.job_terms.specs.Buffers.{KeepsBuffers, buffers_out}
use Rattle.job_terms.specs.Dispatches.{Attempt, Dispatched}
use Rattle.job_terms.specs.Jobs.{job_of}
use Rattle.run_promise.specs.Fits.{Fits, IsAnswered, Names, requests_of}
use Rattle.run_promise.specs.Schedule.{IsFailed, IsSchedule, most_body}
use Rattle.run_promise.specs.Traces.{begun_in, events_of}
use Rattle.run_promise.specs.Truthful.{IsDest}
use Rattle.shared_lemmas.proofs.Clashes.{false_true as never}
use Rattle.world_laws.proofs.Faithful.{IsFaithful}
use Rattle.promise_examples.specs.Misfits.{before, bucket}
use Rattle.promise_examples.specs.Reading.{Reads}
use Rattle.promise_examples.proofs.Carrying as carrying
use Rattle.promise_examples.proofs.Concrete.{Has, at, each, each_has, front_of, has_middle, none_is_some}
use Rattle.promise_examples.proofs.Fitting as fitting
use Rattle.promise_examples.proofs.Honest.{honest, one_bucket_is_faithful}
use Rattle.promise_examples.proofs.Noting as noting
use Rattle.promise_examples.proofs.Readings.{names, refusal_success}
use Rattle.promise_examples.proofs.Repeats.{other_job}
use Rattle.promise_examples.proofs.Scheduling as scheduling
use Rattle.rare_runs.specs.ShortRuns.{NeedsHead, RefusedHeadIsMet, denied, head, head_job, head_talk, head_trace, refused_head, sent_head}

module _ (page_of : List ℕ → Listed) where
  abbrev attempt : Attempt
  attempt = record { mark = mark.Refusal; talk = head_talk }

  abbrev asked : Dispatched
  asked = record {
    dispatch = record { job = head_job; lane = 0; given_at = 0; came_at = Some 1; earlier = 0; is_second = false; attempts = attempt ∷ [] };
    ask = head;
    body = [];
    limit = most_body;
    size = 0;
  }

  abbrev jobs : List Dispatched
  jobs = asked ∷ []

  no_task : (failed : Dispatched) → IsFailed (Reads page_of) refused_head.setting jobs failed → IsSome failed.dispatch.job.task → ⊥
  no_task failed is_failed of_task =
      each_has (λ (d : Dispatched). IsSome d.dispatch.job.task → ⊥) jobs (never, tt) failed (subst (λ (xs : List Dispatched). Has xs failed) (sym is_failed.2) (has_middle is_failed.0 failed is_failed.1)) of_task

  not_created : (n : ℕ) (c : Dispatched) → Contains jobs c → c.dispatch.job ≡ job_of n op.Create 0 → ⊥
  not_created n c known is = each (λ (d : Dispatched). d.dispatch.job ≡ job_of n op.Create 0 → ⊥) jobs (other_job head_job (job_of n op.Create 0) refl, tt) c known is

  scheduled : IsSchedule (Reads page_of) refused_head.setting (NeedsHead page_of) jobs jobs
  scheduled = scheduling.scheduled (Reads page_of) refused_head.setting (NeedsHead page_of) jobs jobs (record {
    is_coming = IsPermutation-refl jobs;
    in_order = (tt, tt);
    asks = ((refl, refl), tt);
    plans = (refl, inr ((λ answered replied. refusal_success replied.0), refl, refl));
    numbered = ((refl, refl), tt);
    one_by_one = (tt, tt);
    carried_out = refl;
    twice = (tt, tt);
    seconds = (omega arith, tt);
    stops = λ failed c is_failed of_task no_abort known same late. absurd (no_task failed is_failed of_task);
    no_abort = (refl, tt);
    completes = λ n id end ended created. absurd (not_created n created.0 created.1 created.2);
    moves_last = ((λ n task of_task. absurd (none_is_some n of_task)), tt);
  })

  lane_is : (lane : ℕ) → lane < 1 → carrying.IsLane page_of refused_head.setting jobs refused_head.logs refused_head.notes jobs lane
  lane_is zero used = record { in_turn = (tt, tt); gained = refl; noted = noting.first page_of (noting.nth 1 asked attempt) 5 [] _ refl (refl, refl, refl) (noting.done page_of) }
  lane_is (suc lane) used = absurd (omega arith)

  written : carrying.IsWritten page_of refused_head.setting jobs refused_head.journal refused_head.logs refused_head.notes jobs
  written = record {
    shown = refl;
    comes = ((1, mark.Refusal ∷ [], refl, refl, refl), tt);
    inside = (omega arith, tt);
    unused = λ lane beyond. (carrying.none_in _ lane beyond, carrying.none_in _ lane beyond);
    known = (tt, ((asked, at jobs 0 asked refl, refl), tt));
    lanes = lane_is;
    marks = ((refl, tt), tt);
    again = (((λ more. absurd (omega arith)), tt), tt);
    given_again = (tt, tt);
    at_most = (omega arith, tt);
    ends = ((λ goes. absurd (never goes)), tt);
  }

  -- ---- the trace

  named : (shown : Class) (b : List ℕ) → Reads page_of head most_body head_talk shown b → Names shown b (Refused denied)
  named = names page_of head most_body head_talk (Refused denied) refl

  answered : IsAnswered (Reads page_of) None jobs sent_head (Refused denied)
  answered = record { of = asked; known = at jobs 0 asked refl; place = 0; attempt = attempt; is_attempt = refl; is_sent = refl; names = λ shown b shows certain. named shown b shows }

  begins : (lane : ℕ) → filter_map (begun_in lane) (events_of head_trace) ≡ flat_map requests_of (filter (λ (c : Dispatched). c.dispatch.lane == lane) jobs)
  begins zero = refl
  begins (suc lane) =
      let a : (suc lane == 0) ≡ false = grind arith in
      let b : (0 == suc lane) ≡ false = grind arith in
      rw (a, b) refl

  fits : Fits (Reads page_of) None (events_of head_trace) refused_head.journal jobs
  fits = fitting.fits (Reads page_of) jobs (events_of head_trace) refused_head.journal refl begins (refl, (tt, (tt, (tt, tt)))) (tt, (tt, (tt, (refl, tt)))) (tt, tt) (tt, (tt, (answered, (tt, tt)))) (tt, (tt, (tt, (((served, tt), tt), tt))))
    where
      served : fitting.IsServed (Reads page_of) jobs (take 3 (events_of head_trace)) asked 0 attempt
      served shown b shows certain = (Refused denied, at (take 3 (events_of head_trace)) 2 _ refl, named shown b shows)

  keeps : KeepsBuffers 1 refused_head.journal
  keeps front back is = front_of (λ (f : List Event). buffers_out f ≤ 1) refused_head.journal (omega arith, (omega arith, omega arith)) front back is

  still : IsFaithful before
  still = one_bucket_is_faithful bucket

pub refused_head_is_met : RefusedHeadIsMet
refused_head_is_met page_of = record {
  dispatched = jobs page_of;
  coming = jobs page_of;
  schedule = scheduled page_of;
  carried = carrying.carried page_of refused_head.setting (jobs page_of) refused_head.journal refused_head.logs refused_head.notes (jobs page_of) (written page_of);
  buffers = keeps page_of;
  runs = (refl, (refl, (((0, omega arith, refl), (refl, tt)), (refl, tt))));
  honest = honest before head_trace (still page_of, (still page_of, (still page_of, (still page_of, (still page_of, tt))))) (tt, (tt, (tt, (tt, tt)))) (IsDest refused_head.setting.tasks);
  fits = fits page_of;
  whole = ([], refl, refl);
  causes = λ n task how at_task at_how. absurd (none_is_some task at_task);
}
