-- The small upload that the examples of what is refused are made of meets every definition.
use Rattle.std.proofs.Common.{◌≡◌, ◌==◌, ◌<◌, ◌≤◌, ℕ, zero, suc, false, List, [], ◌∷◌, Some, refl, subst, inl, inr, filter, filter_map, take, slice_get, arith, None}
use Rattle.std.specs.Prelude.{flat_map}
use Rattle.std.specs.FinMap.{empty}
use Rattle.s3_model.specs.declared.requests.Ask.{Ask}
use Rattle.s3_model.specs.declared.answers.Class.{Class}
use Rattle.s3_model.specs.declared.answers.Reply.TheVariants as reply
use Rattle.s3_model.specs.declared.answers.Listed.{Listed}
use Rattle.s3_model.specs.declared.outcomes.Event.{Event}
use Rattle.s3_model.specs.declared.outcomes.Outcome.{Outcome}
use Rattle.s3_model.specs.declared.outcomes.Outcome.TheVariants as outcome
use Rattle.s3_model.specs.declared.tasks.Task.{Task}
use Rattle.s3_model.specs.declared.tries.Mark.TheVariants as mark
use Rattle.s3_model.specs.Talks.{Talk}
use Rattle.s3_service.specs.ServiceState.{HasBucket}
use Rattle.s3_service.specs.Serves.{Replied}
use Rattle.job_terms.specs.Buffers.{KeepsBuffers, buffers_out}
use Rattle.job_terms.specs.Attempts.{IsSaid}
use Rattle.job_terms.specs.Dispatches.{Attempt, Dispatched}
use Rattle.run_promise.specs.Fits.{Fits, IsAnswered, Names, requests_of}
use Rattle.run_promise.specs.Outcomes.{HasOutcome}
use Rattle.run_promise.specs.Schedule.{most_body, IsFailed}
use Rattle.run_promise.specs.Traces.{IsTrace, begun_in, events_of}
use Rattle.run_promise.specs.Truthful.{IsDest}
use Rattle.shared_lemmas.proofs.Clashes.{false_true as never}
use Rattle.promise_examples.specs.Reading.{Reads, HasNoStatus, NeverFailed, signed_body}
use Rattle.promise_examples.specs.Services.{object_of}
use Rattle.promise_examples.specs.Runs.{Example, IsMet}
use Rattle.promise_examples.specs.GivenAgain.{bytes}
use Rattle.promise_examples.specs.Refused.{limits, task, stored_at, whole_run}
use Rattle.promise_examples.specs.Misfits.{bucket, key, request, before, stored, whole_trace}
use Rattle.promise_examples.proofs.Concrete.{at, front_of, none_is_some, some_is}
use Rattle.promise_examples.proofs.Carrying as carrying
use Rattle.promise_examples.proofs.Fitting as fitting
use Rattle.promise_examples.proofs.Honest.{one_bucket_is_faithful, has_bucket, honest}
use Rattle.world_laws.proofs.Faithful.{IsFaithful, faithful_with}
use Rattle.promise_examples.proofs.Readings.{names, says_whole}
use Rattle.promise_examples.proofs.Scheduling as scheduling
use Rattle.promise_examples.proofs.SmallPut as small

module _ (page_of : List ℕ → Listed) where
  abbrev e : Example
  e = whole_run

  abbrev Shows : Ask → ℕ → Talk → Class → List ℕ → Type 0
  Shows = Reads page_of

  abbrev Plans : List Dispatched → Type 0
  Plans planning = planning ≡ []

  abbrev pub well : Attempt
  well = record { mark = mark.Success; talk = stored_at 5 }

  abbrev pub sent : Dispatched
  sent = small.put_with (well ∷ [])

  abbrev pub jobs : List Dispatched
  jobs = sent ∷ []

  -- ---- the trace

  pub there : HasBucket before bucket
  there = has_bucket (record { objects = empty; uploads = empty; ended = empty; tokens = empty }) bucket empty

  runs : IsTrace limits [] before whole_trace
  runs = (refl, (refl, (((0, omega arith, refl), (there, (λ fresh. absurd (never fresh)), (object_of bytes, refl, refl))), (refl, tt))))

  pub still : IsFaithful before
  still = one_bucket_is_faithful bucket

  pub now : IsFaithful stored
  now = faithful_with before bucket key bytes still

  pub named : (shown : Class) (b : List ℕ) → Shows sent.ask most_body well.talk shown b → Names shown b (Replied reply.Stored [])
  named = names page_of sent.ask most_body well.talk (Replied reply.Stored []) (reply.Stored, refl, refl)

  pub answered : IsAnswered Shows None jobs (request 1) (Replied reply.Stored [])
  answered = record { of = sent; known = at jobs 0 sent refl; place = 0; attempt = well; is_attempt = refl; is_sent = refl; names = λ shown b shows certain. named shown b shows }

  pub begins : (lane : ℕ) → filter_map (begun_in lane) (events_of whole_trace) ≡ flat_map requests_of (filter (λ (c : Dispatched). c.dispatch.lane == lane) jobs)
  begins zero = refl
  begins (suc lane) =
      let a : (suc lane == 0) ≡ false = grind arith in
      let b : (0 == suc lane) ≡ false = grind arith in
      rw (a, b) refl

  fits : Fits Shows None (events_of whole_trace) e.journal jobs
  fits = fitting.fits Shows jobs (events_of whole_trace) e.journal refl begins (refl, (tt, (tt, (tt, tt)))) (tt, (tt, (tt, (refl, tt)))) (tt, tt) (tt, (tt, (answered, (tt, tt)))) (tt, (tt, (tt, (((served, tt), tt), tt))))
    where
      served : fitting.IsServed Shows jobs (take 3 (events_of whole_trace)) sent 0 well
      served shown b shows certain = (Replied reply.Stored [], at (take 3 (events_of whole_trace)) 2 _ refl, named shown b shows)

  -- ---- its wires

  said : IsSaid Shows signed_body [] 80 (record { of = sent; number = 1; attempt = well }) 5
  said = record { to_host = refl; to_port = refl; text = λ shown b shows. says_whole page_of Shows signed_body [] 80 shown (5 ∷ bytes); beginning = ([], refl) }

  lane_is : (lane : ℕ) → lane < 1 → carrying.IsLane page_of e.setting jobs e.logs e.notes jobs lane
  lane_is zero used = record { in_turn = (tt, tt); gained = refl; noted = ([], 5, [], [], refl, carrying.nothing_begins, refl, inl refl, said, (carrying.nothing_begins, inl refl)) }
  lane_is (suc lane) used = absurd (omega arith)

  unused : (lane : ℕ) → 1 ≤ lane → (e.logs lane ≡ []) × (e.notes lane ≡ [])
  unused lane beyond = (carrying.none_in _ lane beyond, carrying.none_in _ lane beyond)

  pub written : carrying.IsWritten page_of e.setting jobs e.journal e.logs e.notes jobs
  written = record {
    shown = refl;
    comes = ((1, mark.Success ∷ [], refl, refl, refl), tt);
    inside = (omega arith, tt);
    unused = unused;
    known = (tt, ((sent, at jobs 0 sent refl, refl), tt));
    lanes = lane_is;
    marks = ((refl, tt), tt);
    again = (((λ more. absurd (omega arith)), tt), tt);
    given_again = (tt, tt);
    at_most = (omega arith, tt);
    ends = ((λ goes. absurd (never goes)), tt);
  }

  -- ---- its jobs

  no_failure : (failed : Dispatched) → IsFailed Shows e.setting jobs failed → ⊥
  no_failure failed is_failed = scheduling.failures Shows e.setting (λ c. ⊥) jobs (inr (inl (refl, λ shown b shows. tt)), tt) failed is_failed

  keeps : KeepsBuffers 1 e.journal
  keeps front back is = front_of (λ (f : List Event). buffers_out f ≤ 1) e.journal (omega arith, (omega arith, omega arith)) front back is

  is_done : HasOutcome Shows HasNoStatus NeverFailed e.setting jobs jobs 0 task outcome.Done
  is_done = ((λ c failure. no_failure c failure.0), (sent, at jobs 0 sent refl, (tt, refl), (0, well, refl, refl)), (λ moves. absurd (never moves)), (λ fresh. absurd (never fresh)))

  cause : (n : ℕ) (t : Task) (how : Outcome) → slice_get e.setting.tasks n ≡ Some t → slice_get e.outcomes n ≡ Some how → HasOutcome Shows HasNoStatus NeverFailed e.setting jobs jobs n t how
  cause zero t how at_task at_how =
      subst (HasOutcome Shows HasNoStatus NeverFailed e.setting jobs jobs 0 t) (some_is outcome.Done how at_how) (subst (λ (x : Task). HasOutcome Shows HasNoStatus NeverFailed e.setting jobs jobs 0 x outcome.Done) (some_is task t at_task) is_done)
  cause (suc n) t how at_task at_how = absurd (none_is_some t at_task)

  pub met : IsMet page_of Plans e before whole_trace
  met = record {
    dispatched = jobs;
    coming = jobs;
    schedule = small.scheduled Shows (well ∷ []);
    carried = carrying.carried page_of e.setting jobs e.journal e.logs e.notes jobs written;
    buffers = keeps;
    runs = runs;
    honest = honest before whole_trace (still, (still, (still, (now, (now, tt))))) (tt, (tt, (tt, (tt, tt)))) (IsDest e.setting.tasks);
    fits = fits;
    whole = ([], refl, refl);
    causes = cause;
  }
