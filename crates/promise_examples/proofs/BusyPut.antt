-- A Put that met a busy service is given again and stored.
use Rattle.std.proofs.Common.{◌≡◌, ◌==◌, ◌<◌, ◌≤◌, ℕ, zero, suc, true, false, List, [], ◌∷◌, Some, refl, ap, subst, inl, inr, filter, filter_map, take, Contains, slice_get, arith, None}
use Rattle.std.specs.Prelude.{flat_map}
use Rattle.std.specs.FinMap.{empty}
use Rattle.std.proofs.lemmas.List.Sorted.{IsPermutation-refl}
use Rattle.s3_model.specs.declared.requests.Ask.{Ask}
use Rattle.s3_model.specs.declared.requests.Op.TheVariants as op
use Rattle.s3_model.specs.declared.answers.Class.{Class}
use Rattle.s3_model.specs.declared.answers.Reply.TheVariants as reply
use Rattle.s3_model.specs.declared.answers.Listed.{Listed}
use Rattle.s3_model.specs.declared.outcomes.Event.{Event}
use Rattle.s3_model.specs.declared.outcomes.JobId.{JobId}
use Rattle.s3_model.specs.declared.outcomes.Outcome.{Outcome}
use Rattle.s3_model.specs.declared.outcomes.Outcome.TheVariants as outcome
use Rattle.s3_model.specs.declared.settings.Limits.{Limits}
use Rattle.s3_model.specs.declared.tasks.Task.{Task}
use Rattle.s3_model.specs.declared.tries.Mark.TheVariants as mark
use Rattle.s3_model.specs.Talks.{Talk, Moment, Pause, Began, Closed, Finished}
use Rattle.s3_service.specs.ServiceState.{State, HasBucket}
use Rattle.s3_service.specs.Serves.{Replied, Refused}
use Rattle.job_terms.specs.Buffers.{KeepsBuffers, buffers_out}
use Rattle.run_promise.specs.Carried.{MayStop}
use Rattle.job_terms.specs.Attempts.{IsSaid}
use Rattle.run_promise.specs.Dispatches.{IsCompletedWell}
use Rattle.job_terms.specs.Dispatches.{Attempt, Dispatched}
use Rattle.run_promise.specs.Fits.{Fits, IsAnswered, Names, requests_of}
use Rattle.run_promise.specs.Outcomes.{HasOutcome}
use Rattle.run_promise.specs.Schedule.{most_body, IsSchedule, IsFailed, gained_before}
use Rattle.job_terms.specs.Jobs.{job_of}
use Rattle.run_promise.specs.Traces.{Step, IsTrace, begun_in, events_of}
use Rattle.run_promise.specs.Truthful.{IsDest}
use Rattle.shared_lemmas.proofs.Clashes.{false_true as never}
use Rattle.promise_examples.specs.Reading.{Reads, HasNoStatus, NeverFailed, signed_body}
use Rattle.promise_examples.specs.Services.{object_of, one_bucket}
use Rattle.promise_examples.specs.Runs.{Example, IsMet}
use Rattle.promise_examples.specs.GivenAgain.{put_job, busy, bytes, upload, put, request, busy_run, stored, busy_trace, BusyIsGivenAgain}
use Rattle.promise_examples.proofs.Concrete.{at, each, front_of, none_is_some, some_is}
use Rattle.promise_examples.proofs.Carrying as carrying
use Rattle.promise_examples.proofs.Fitting as fitting
use Rattle.promise_examples.proofs.Honest.{one_bucket_is_faithful, has_bucket, honest}
use Rattle.world_laws.proofs.Faithful.{IsFaithful, faithful_with}
use Rattle.promise_examples.proofs.Readings.{names, says_whole, refusal_success}
use Rattle.promise_examples.proofs.Scheduling as scheduling
use Rattle.promise_examples.proofs.SmallPut as small
use Rattle.promise_examples.proofs.Noting.{only_pause}

module _ (limits : Limits) (page_of : List ℕ → Listed) (bucket key path : List ℕ) where
  abbrev e : Example
  e = busy_run bucket key path limits

  abbrev Shows : Ask → ℕ → Talk → Class → List ℕ → Type 0
  Shows = Reads page_of

  abbrev refused : Attempt
  refused = record { mark = mark.Refusal; talk = record { host = []; port = 80; sent = 5 ∷ bytes; got = busy; ending = Closed } }

  abbrev well : Attempt
  well = record { mark = mark.Success; talk = record { host = []; port = 80; sent = 7 ∷ bytes; got = []; ending = Finished } }

  abbrev first : Dispatched
  first = record {
    dispatch = record { job = put_job; lane = 0; given_at = 0; came_at = Some 1; earlier = 0; is_second = false; attempts = refused ∷ [] };
    ask = put bucket key path;
    body = bytes;
    limit = most_body;
    size = 2;
  }

  abbrev last : Dispatched
  last = record {
    dispatch = record { job = put_job; lane = 0; given_at = 2; came_at = Some 3; earlier = 1; is_second = true; attempts = well ∷ [] };
    ask = put bucket key path;
    body = bytes;
    limit = most_body;
    size = 2;
  }

  abbrev jobs : List Dispatched
  jobs = first ∷ last ∷ []

  abbrev start : State
  start = one_bucket bucket

  abbrev trace : List Step
  trace = busy_trace bucket key path

  -- ---- the trace

  there : HasBucket start bucket
  there = has_bucket (record { objects = empty; uploads = empty; ended = empty; tokens = empty }) bucket empty

  runs : IsTrace limits [] start trace
  runs = (refl, (refl, (((0, omega arith, refl), (refl, (λ fresh taken. absurd (never fresh)))), (refl, (refl, (refl, (((0, omega arith, refl), (there, (λ fresh. absurd (never fresh)), (object_of bytes, refl, refl))), (refl, tt))))))))

  still : IsFaithful start
  still = one_bucket_is_faithful bucket

  now : IsFaithful (stored bucket key path)
  now = faithful_with start bucket key bytes still

  -- ---- it fits

  refused_named : (shown : Class) (b : List ℕ) → Shows first.ask most_body refused.talk shown b → Names shown b (Refused busy)
  refused_named = names page_of first.ask most_body refused.talk (Refused busy) refl

  well_named : (shown : Class) (b : List ℕ) → Shows last.ask most_body well.talk shown b → Names shown b (Replied reply.Stored [])
  well_named = names page_of last.ask most_body well.talk (Replied reply.Stored []) (reply.Stored, refl, refl)

  refused_answered : IsAnswered Shows None jobs (request bucket key path 1) (Refused busy)
  refused_answered = record { of = first; known = at jobs 0 first refl; place = 0; attempt = refused; is_attempt = refl; is_sent = refl; names = λ shown b shows certain. refused_named shown b shows }

  well_answered : IsAnswered Shows None jobs (request bucket key path 2) (Replied reply.Stored [])
  well_answered = record { of = last; known = at jobs 1 last refl; place = 0; attempt = well; is_attempt = refl; is_sent = refl; names = λ shown b shows certain. well_named shown b shows }

  begins : (lane : ℕ) → filter_map (begun_in lane) (events_of trace) ≡ flat_map requests_of (filter (λ (c : Dispatched). c.dispatch.lane == lane) jobs)
  begins zero = refl
  begins (suc lane) =
      let a : (suc lane == 0) ≡ false = grind arith in
      let b : (0 == suc lane) ≡ false = grind arith in
      rw (a, b) refl

  fits : Fits Shows None (events_of trace) e.journal jobs
  fits = fitting.fits Shows jobs (events_of trace) e.journal refl begins (refl, (tt, (tt, (tt, (refl, (tt, (tt, (tt, tt)))))))) (tt, (tt, (tt, (refl, (tt, (tt, (tt, (refl, tt)))))))) (((λ same. apart same.1), tt), (tt, tt))
      (tt, (tt, (refused_answered, (tt, (tt, (tt, (well_answered, (tt, tt))))))))
      (tt, (tt, (tt, (((refused_served, tt), tt), (tt, (tt, (tt, (((well_served, tt), tt), tt))))))))
    where
      apart : ◌≡◌ {A = ℕ} 1 2 → ⊥
      apart same = omega arith

      refused_served : fitting.IsServed Shows jobs (take 3 (events_of trace)) first 0 refused
      refused_served shown b shows certain = (Refused busy, at (take 3 (events_of trace)) 2 _ refl, refused_named shown b shows)

      well_served : fitting.IsServed Shows jobs (take 7 (events_of trace)) last 0 well
      well_served shown b shows certain = (Replied reply.Stored [], at (take 7 (events_of trace)) 6 _ refl, well_named shown b shows)

  -- ---- its wires

  first_said : IsSaid Shows signed_body [] 80 (record { of = first; number = 1; attempt = refused }) 5
  first_said = record { to_host = refl; to_port = refl; text = λ shown b shows. says_whole page_of Shows signed_body [] 80 shown (5 ∷ bytes); beginning = ([], refl) }

  last_said : IsSaid Shows signed_body [] 80 (record { of = last; number = 2; attempt = well }) 7
  last_said = record { to_host = refl; to_port = refl; text = λ shown b shows. says_whole page_of Shows signed_body [] 80 shown (7 ∷ bytes); beginning = ([], refl) }

  lane_is : (lane : ℕ) → lane < 1 → carrying.IsLane page_of e.setting jobs e.logs e.notes jobs lane
  lane_is zero used = record {
    in_turn = (((λ place come. let is : 3 ≡ place = some_is 3 place come in omega arith), tt), (tt, tt));
    gained = refl;
    noted = ([], 5, Pause 1 ∷ Moment 7 ∷ Began ∷ [], [], refl, carrying.nothing_begins, refl, inl refl, first_said, (Pause 1 ∷ [], 7, [], [], refl, only_pause 1, refl, inl refl, last_said, (carrying.nothing_begins, inl refl)));
  }
  lane_is (suc lane) used = absurd (omega arith)

  unused : (lane : ℕ) → 1 ≤ lane → (e.logs lane ≡ []) × (e.notes lane ≡ [])
  unused lane beyond = (carrying.none_in _ lane beyond, carrying.none_in _ lane beyond)

  may_stop : MayStop Shows signed_body [] 80 e.setting jobs first
  may_stop = (refl, (λ same. scheduling.other_op op.Put op.Abort refl same), inl ([], last ∷ [], refl, inl (last, at (last ∷ []) 0 last refl, refl)))

  written : carrying.IsWritten page_of e.setting jobs e.journal e.logs e.notes jobs
  written = record {
    shown = refl;
    comes = ((1, mark.Refusal ∷ [], refl, refl, refl), ((3, mark.Success ∷ [], refl, refl, refl), tt));
    inside = (omega arith, (omega arith, tt));
    unused = unused;
    known = (tt, ((first, at jobs 0 first refl, refl), (tt, ((last, at jobs 1 last refl, refl), tt))));
    lanes = lane_is;
    marks = ((refl, tt), ((refl, tt), tt));
    again = (((λ more. absurd (omega arith)), tt), (((λ more. absurd (omega arith)), tt), tt));
    given_again = (((refl, omega arith), tt), (tt, tt));
    at_most = (omega arith, (omega arith, tt));
    ends = ((λ goes. inr (inr may_stop)), ((λ goes. absurd (never goes)), tt));
  }

  -- ---- its jobs

  well_done : IsCompletedWell Shows last
  well_done = (refl, λ shown b shows. tt)

  no_failure : (failed : Dispatched) → IsFailed Shows e.setting jobs failed → ⊥
  no_failure failed is_failed = scheduling.failures Shows e.setting (λ c. ⊥) jobs (inl (inl (last, at (last ∷ []) 0 last refl, refl)), (inr (inl well_done), tt)) failed is_failed

  scheduled : IsSchedule Shows e.setting (λ planning. planning ≡ []) jobs jobs
  scheduled = scheduling.scheduled Shows e.setting (λ planning. planning ≡ []) jobs jobs (record {
    is_coming = IsPermutation-refl jobs;
    in_order = ((omega arith, tt), (tt, tt));
    asks = ((upload bucket key path, 2, 1, refl, inl (omega arith, refl, refl), refl, refl, small.asks bucket key path (gained_before Shows jobs 0)), ((upload bucket key path, 2, 1, refl, inl (omega arith, refl, refl), refl, refl, small.asks bucket key path (gained_before Shows jobs 2)), tt));
    plans = refl;
    numbered = tt;
    one_by_one = tt;
    carried_out = refl;
    twice = (((omega arith, refusal_success, tt, (λ failed is_failed same. absurd (no_failure failed is_failed)), refl, scheduling.other_op op.Put op.Abort refl), tt), (tt, tt));
    seconds = (omega arith, (omega arith, tt));
    stops = λ failed c is_failed of_task no_abort known same late. absurd (no_failure failed is_failed);
    no_abort = (refl, (refl, tt));
    completes = λ n id end ended created. absurd (not_created n created.0 created.1 created.2);
    moves_last = ((λ n task of_task at_n moves deletes. absurd (scheduling.other_op op.Put op.Delete refl deletes)), ((λ n task of_task at_n moves deletes. absurd (scheduling.other_op op.Put op.Delete refl deletes)), tt));
  })
    where
      not_created : (n : ℕ) (c : Dispatched) → Contains jobs c → c.dispatch.job ≡ job_of n op.Create 0 → ⊥
      not_created n c known is = each (λ (d : Dispatched). d.dispatch.job ≡ job_of n op.Create 0 → ⊥) jobs (created, (created, tt)) c known is
        where
          created : put_job ≡ job_of n op.Create 0 → ⊥
          created same = scheduling.other_op op.Put op.Create refl (ap (λ (job : JobId). job.op) same)

  keeps : KeepsBuffers 1 e.journal
  keeps front back is = front_of (λ (f : List Event). buffers_out f ≤ 1) e.journal (omega arith, (omega arith, (omega arith, (omega arith, omega arith)))) front back is

  is_done : HasOutcome Shows HasNoStatus NeverFailed e.setting jobs jobs 0 (upload bucket key path) outcome.Done
  is_done = ((λ c failure. no_failure c failure.0), (last, at jobs 1 last refl, (tt, refl), (0, well, refl, refl)), (λ moves. absurd (never moves)), (λ fresh. absurd (never fresh)))

  cause : (n : ℕ) (task : Task) (how : Outcome) → slice_get e.setting.tasks n ≡ Some task → slice_get e.outcomes n ≡ Some how → HasOutcome Shows HasNoStatus NeverFailed e.setting jobs jobs n task how
  cause zero task how at_task at_how =
      subst (HasOutcome Shows HasNoStatus NeverFailed e.setting jobs jobs 0 task) (some_is outcome.Done how at_how)
      (subst (λ (t : Task). HasOutcome Shows HasNoStatus NeverFailed e.setting jobs jobs 0 t outcome.Done) (some_is (upload bucket key path) task at_task) is_done)
  cause (suc n) task how at_task at_how = absurd (none_is_some task at_task)

  pub met : IsMet page_of (λ planning. planning ≡ []) e start trace
  met = record {
    dispatched = jobs;
    coming = jobs;
    schedule = scheduled;
    carried = carrying.carried page_of e.setting jobs e.journal e.logs e.notes jobs written;
    buffers = keeps;
    runs = runs;
    honest = honest start trace (still, (still, (still, (still, (still, (still, (still, (now, (now, tt))))))))) (tt, (tt, (tt, (tt, (tt, (tt, (tt, (tt, tt)))))))) (IsDest e.setting.tasks);
    fits = fits;
    whole = ([], refl, refl);
    causes = cause;
  }

pub busy_is_given_again : BusyIsGivenAgain
busy_is_given_again limits page_of bucket key path = met limits page_of bucket key path
