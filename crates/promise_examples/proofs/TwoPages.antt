-- A listing in two pages fits, whatever room the lists of its reader have.
use Rattle.std.proofs.Common.{◌≡◌, ◌∙◌, ◌==◌, ◌<◌, ◌≤◌, ℕ, zero, suc, false, List, [], ◌∷◌, Option, Some, None, refl, sym, ap, subst, inl, inr, filter, filter_map, map, take, unwrap_or, Contains, arith}
use Rattle.std.specs.Prelude.{flat_map, nat_eq, IsNone, IsSome}
use Rattle.std.specs.List.{starts_with}
use Rattle.std.specs.Ordering.{nat_cmp}
use Rattle.std.specs.Cmp.Lexicographic.{slice_cmp, nat_list_cmp_total}
use Rattle.std.specs.FinMap.{get, insert, empty, entries, entries-insert, get-empty}
use Rattle.std.specs.FinMap.Entries.{put}
use Rattle.std.proofs.lemmas.List.Sorted.{IsPermutation-refl}
use Rattle.s3_model.specs.declared.answers.Class.{Class}
use Rattle.s3_model.specs.declared.answers.Reply.TheVariants as reply
use Rattle.s3_model.specs.declared.requests.Ask.{Ask}
use Rattle.s3_model.specs.declared.requests.Op.TheVariants as op
use Rattle.s3_model.specs.declared.settings.Limits.{Limits}
use Rattle.s3_model.specs.declared.tries.Mark.TheVariants as mark
use Rattle.s3_model.specs.declared.outcomes.Event.{Event}
use Rattle.s3_model.specs.Maps.{MapOf}
use Rattle.s3_model.specs.Talks.{Talk, Moment, Began}
use Rattle.s3_service.specs.ServiceState.{State, Object, HasBucket, objects_in, with_object}
use Rattle.s3_service.specs.Listing.{Name, Key, IsPage, listing, after, name_of, once}
use Rattle.s3_service.specs.Serves.{Replied}
use Rattle.job_terms.specs.Buffers.{KeepsBuffers, buffers_out}
use Rattle.job_terms.specs.Attempts.{IsSaid}
use Rattle.job_terms.specs.Dispatches.{Attempt, Dispatched}
use Rattle.run_promise.specs.Fits.{Fits, IsAnswered, Names, requests_of}
use Rattle.run_promise.specs.Planning.{Listing, PlansFor}
use Rattle.run_promise.specs.Schedule.{most_body, IsSchedule, IsFailed}
use Rattle.job_terms.specs.Jobs.{job_of}
use Rattle.run_promise.specs.Truthful.{IsDest}
use Rattle.run_promise.specs.Traces.{IsTrace, begun_in, events_of}
use Rattle.shared_lemmas.proofs.Clashes.{false_true as never}
use Rattle.shared_lemmas.proofs.Maps.{entries-empty, get-insert_same, is_nothing, text_exact}
use Rattle.promise_examples.specs.Reading.{Reads, signed_body}
use Rattle.promise_examples.specs.Services.{one_bucket}
use Rattle.promise_examples.specs.Runs.{Example, IsMet}
use Rattle.promise_examples.specs.Pages.{bucket, first_key, last_key, an_object, full, listed, token, page_with, list_job, list_after, talk_of, listing_run, listing_trace, request, TwoPagesAreMet}
use Rattle.promise_examples.proofs.Concrete.{Has, has_middle, at, each, each_has, front_of, none_is_some, some_is}
use Rattle.promise_examples.proofs.Carrying as carrying
use Rattle.promise_examples.proofs.Fitting as fitting
use Rattle.promise_examples.proofs.Honest.{one_bucket_is_faithful, has_bucket, honest}
use Rattle.world_laws.proofs.Faithful.{IsFaithful, faithful_with}
use Rattle.world_laws.proofs.Objects.{objects_in_same}
use Rattle.promise_examples.proofs.Readings.{names, reads, says_whole}
use Rattle.promise_examples.proofs.Repeats.{other_job}
use Rattle.promise_examples.proofs.Scheduling as scheduling

-- ---- what is in the bucket

objects_are : objects_in full bucket ≡ insert (insert empty last_key an_object) first_key an_object
objects_are =
    objects_in_same with_last bucket (insert (objects_in with_last bucket) first_key an_object) ∙ ap (λ (m : MapOf Object). insert m first_key an_object) (last_is ∙ ap (λ (m : MapOf Object). insert m last_key an_object) none_is)
  where
    with_last : State
    with_last = with_object (one_bucket bucket) bucket last_key an_object

    last_is : objects_in with_last bucket ≡ insert (objects_in (one_bucket bucket) bucket) last_key an_object
    last_is = objects_in_same (one_bucket bucket) bucket (insert (objects_in (one_bucket bucket) bucket) last_key an_object)

    none_is : objects_in (one_bucket bucket) bucket ≡ empty
    none_is = ap (λ (found : Option (MapOf Object)). unwrap_or found empty) (get-insert_same nat_list_cmp_total text_exact empty bucket empty)

entries_are : entries (objects_in full bucket) ≡ (first_key, an_object) ∷ (last_key, an_object) ∷ []
entries_are = ap entries objects_are ∙ entries-insert nat_list_cmp_total (insert empty last_key an_object) first_key an_object
    ∙ ap (put (slice_cmp nat_cmp) first_key an_object) (entries-insert nat_list_cmp_total empty last_key an_object ∙ ap (put (slice_cmp nat_cmp) last_key an_object) (entries-empty (slice_cmp nat_cmp)))

-- the names of a bucket with these entries
abbrev names_of : List (List ℕ × Object) → List Name
names_of es = once (map (name_of [] false) (filter (λ entry. starts_with nat_eq entry.0 []) es))

names_are : listing full bucket [] false ≡ Key first_key an_object ∷ Key last_key an_object ∷ []
names_are = ap names_of entries_are

-- ---- the run

module _ (limits : Limits) (spare : ℕ) where
  abbrev e : Example
  e = listing_run limits

  abbrev Shows : Ask → ℕ → Talk → Class → List ℕ → Type 0
  Shows = Reads (page_with spare)

  abbrev first_attempt : Attempt
  first_attempt = record { mark = mark.Success; talk = talk_of 5 token }

  abbrev last_attempt : Attempt
  last_attempt = record { mark = mark.Success; talk = talk_of 6 [] }

  abbrev first : Dispatched
  first = record {
    dispatch = record { job = list_job 0; lane = 0; given_at = 0; came_at = Some 1; earlier = 0; is_second = false; attempts = first_attempt ∷ [] };
    ask = list_after None;
    body = [];
    limit = most_body;
    size = 0;
  }

  abbrev last : Dispatched
  last = record {
    dispatch = record { job = list_job 1; lane = 0; given_at = 2; came_at = Some 3; earlier = 0; is_second = false; attempts = last_attempt ∷ [] };
    ask = list_after (Some token);
    body = [];
    limit = most_body;
    size = 0;
  }

  abbrev jobs : List Dispatched
  jobs = first ∷ last ∷ []

  -- ---- the trace

  first_page : IsPage full bucket [] false None (page_with 0 token) listed
  first_page = (
    None,
    Key first_key an_object ∷ [],
    Key last_key an_object ∷ [],
    refl,
    sym names_are,
    omega arith,
    (λ none. cc),
    ((refl, refl, refl, refl), (refl, refl)),
    (refl, [], Key first_key an_object, token, refl, refl, inl no_token, refl),
  )
    where
      no_token : IsNone (get full.tokens token)
      no_token = is_nothing (get full.tokens token) (get-empty (slice_cmp nat_cmp) token)

  last_page : IsPage listed bucket [] false (Some token) (page_with 0 []) listed
  last_page = (
    Some first_key,
    Key last_key an_object ∷ [],
    [],
    (first_key, get-insert_same nat_list_cmp_total text_exact empty token first_key, refl),
    sym (ap (after (Some first_key)) names_are),
    omega arith,
    (λ none. refl),
    ((refl, refl, refl, refl), (refl, refl)),
    (refl, refl),
  )

  there : HasBucket full bucket
  there = has_bucket (with_object (one_bucket bucket) bucket last_key an_object) bucket (insert (objects_in (with_object (one_bucket bucket) bucket last_key an_object) bucket) first_key an_object)

  runs : IsTrace limits [] full listing_trace
  runs = (refl, (refl, (((0, omega arith, refl), (there, first_page)), (refl, (refl, (refl, (((0, omega arith, refl), (there, last_page)), (refl, tt))))))))

  is_faithful : IsFaithful full
  is_faithful = faithful_with (with_object (one_bucket bucket) bucket last_key an_object) bucket first_key (1 ∷ []) (faithful_with (one_bucket bucket) bucket last_key (1 ∷ []) (one_bucket_is_faithful bucket))

  still : IsFaithful listed
  still b k object found = is_faithful b k object found

  -- ---- it fits

  first_named : (shown : Class) (bytes : List ℕ) → Shows first.ask most_body first_attempt.talk shown bytes → Names shown bytes (Replied (reply.Listed (page_with 0 token)) [])
  first_named = names (page_with spare) first.ask most_body first_attempt.talk (Replied (reply.Listed (page_with 0 token)) []) (reply.Listed (page_with 0 token), (refl, refl, refl, refl), refl)

  last_named : (shown : Class) (bytes : List ℕ) → Shows last.ask most_body last_attempt.talk shown bytes → Names shown bytes (Replied (reply.Listed (page_with 0 [])) [])
  last_named = names (page_with spare) last.ask most_body last_attempt.talk (Replied (reply.Listed (page_with 0 [])) []) (reply.Listed (page_with 0 []), (refl, refl, refl, refl), refl)

  first_answered : IsAnswered Shows None jobs (request 0 None) (Replied (reply.Listed (page_with 0 token)) [])
  first_answered = record { of = first; known = at jobs 0 first refl; place = 0; attempt = first_attempt; is_attempt = refl; is_sent = refl; names = λ shown b shows certain. first_named shown b shows }

  last_answered : IsAnswered Shows None jobs (request 1 (Some token)) (Replied (reply.Listed (page_with 0 [])) [])
  last_answered = record { of = last; known = at jobs 1 last refl; place = 0; attempt = last_attempt; is_attempt = refl; is_sent = refl; names = λ shown b shows certain. last_named shown b shows }

  begins : (lane : ℕ) → filter_map (begun_in lane) (events_of listing_trace) ≡ flat_map requests_of (filter (λ (c : Dispatched). c.dispatch.lane == lane) jobs)
  begins zero = refl
  begins (suc lane) =
      let a : (suc lane == 0) ≡ false = grind arith in
      let b : (0 == suc lane) ≡ false = grind arith in
      rw (a, b) refl

  fits : Fits Shows None (events_of listing_trace) e.journal jobs
  fits = fitting.fits Shows jobs (events_of listing_trace) e.journal refl begins (refl, (tt, (tt, (tt, (refl, (tt, (tt, (tt, tt)))))))) (tt, (tt, (tt, (refl, (tt, (tt, (tt, (refl, tt)))))))) (((λ same. other_job (list_job 0) (list_job 1) refl same.0), tt), (tt, tt))
      (tt, (tt, (first_answered, (tt, (tt, (tt, (last_answered, (tt, tt))))))))
      (tt, (tt, (tt, (((first_served, tt), tt), (tt, (tt, (tt, (((last_served, tt), tt), tt))))))))
    where
      first_served : fitting.IsServed Shows jobs (take 3 (events_of listing_trace)) first 0 first_attempt
      first_served shown bytes shows certain = (Replied (reply.Listed (page_with 0 token)) [], at (take 3 (events_of listing_trace)) 2 _ refl, first_named shown bytes shows)

      last_served : fitting.IsServed Shows jobs (take 7 (events_of listing_trace)) last 0 last_attempt
      last_served shown bytes shows certain = (Replied (reply.Listed (page_with 0 [])) [], at (take 7 (events_of listing_trace)) 6 _ refl, last_named shown bytes shows)

  -- ---- its wires

  first_said : IsSaid Shows signed_body [] 80 (record { of = first; number = 1; attempt = first_attempt }) 5
  first_said = record { to_host = refl; to_port = refl; text = λ shown bytes shows. says_whole (page_with spare) Shows signed_body [] 80 shown (5 ∷ []); beginning = ([], refl) }

  last_said : IsSaid Shows signed_body [] 80 (record { of = last; number = 1; attempt = last_attempt }) 6
  last_said = record { to_host = refl; to_port = refl; text = λ shown bytes shows. says_whole (page_with spare) Shows signed_body [] 80 shown (6 ∷ []); beginning = ([], refl) }

  lane_is : (lane : ℕ) → lane < 1 → carrying.IsLane (page_with spare) e.setting jobs e.logs e.notes jobs lane
  lane_is zero used = record {
    in_turn = (((λ place come. let is : 3 ≡ place = some_is 3 place come in omega arith), tt), (tt, tt));
    gained = refl;
    noted = ([], 5, Moment 6 ∷ Began ∷ [], [], refl, carrying.nothing_begins, refl, inl refl, first_said, ([], 6, [], [], refl, carrying.nothing_begins, refl, inl refl, last_said, (carrying.nothing_begins, inl refl)));
  }
  lane_is (suc lane) used = absurd (omega arith)

  unused : (lane : ℕ) → 1 ≤ lane → (e.logs lane ≡ []) × (e.notes lane ≡ [])
  unused lane beyond = (carrying.none_in _ lane beyond, carrying.none_in _ lane beyond)

  written : carrying.IsWritten (page_with spare) e.setting jobs e.journal e.logs e.notes jobs
  written = record {
    shown = refl;
    comes = ((1, mark.Success ∷ [], refl, refl, refl), ((3, mark.Success ∷ [], refl, refl, refl), tt));
    inside = (omega arith, (omega arith, tt));
    unused = unused;
    known = (tt, ((first, at jobs 0 first refl, refl), (tt, ((last, at jobs 1 last refl, refl), tt))));
    lanes = lane_is;
    marks = ((refl, tt), ((refl, tt), tt));
    again = (((λ more. absurd (omega arith)), tt), (((λ more. absurd (omega arith)), tt), tt));
    given_again = (tt, (tt, tt));
    at_most = (omega arith, (omega arith, tt));
    ends = ((λ goes. absurd (never goes)), ((λ goes. absurd (never goes)), tt));
  }

  -- ---- its jobs

  abbrev Plans : List Dispatched → Type 0
  Plans = PlansFor Shows (λ prefix pages. ⊥) ⊥ None (Listing bucket [] false ∷ [])

  planned : Plans jobs
  planned = (
    refl,
    inl (
      page_with spare token,
      (refl, [], reads (page_with spare) first.ask most_body first_attempt.talk),
      inr (inl (
        (λ refused. refused),
        refl,
        (refl, inl (page_with spare [], (refl, [], reads (page_with spare) last.ask most_body last_attempt.talk), inr (inr ((λ refused. refused), refl, (refl, inl refl))))),
      )),
    ),
  )

  scheduled : IsSchedule Shows e.setting Plans jobs jobs
  scheduled = scheduling.scheduled Shows e.setting Plans jobs jobs (record {
    is_coming = IsPermutation-refl jobs;
    in_order = ((omega arith, tt), (tt, tt));
    asks = ((refl, refl), ((refl, refl), tt));
    plans = planned;
    numbered = ((refl, refl), ((refl, refl), tt));
    one_by_one = ((omega arith, tt), (tt, tt));
    carried_out = refl;
    twice = (tt, (tt, tt));
    seconds = (omega arith, (omega arith, tt));
    stops = λ failed c is_failed of_task no_abort known same late. absurd (no_task failed is_failed of_task);
    no_abort = (refl, (refl, tt));
    completes = λ n id end ended created. absurd (not_created n created.0 created.1 created.2);
    moves_last = ((λ n task of_task. absurd (none_is_some n of_task)), ((λ n task of_task. absurd (none_is_some n of_task)), tt));
  })
    where
      no_task : (failed : Dispatched) → IsFailed Shows e.setting jobs failed → IsSome failed.dispatch.job.task → ⊥
      no_task failed is_failed of_task =
          each_has (λ (d : Dispatched). IsSome d.dispatch.job.task → ⊥) jobs (never, (never, tt)) failed (subst (λ (xs : List Dispatched). Has xs failed) (sym is_failed.2) (has_middle is_failed.0 failed is_failed.1)) of_task

      not_created : (n : ℕ) (c : Dispatched) → Contains jobs c → c.dispatch.job ≡ job_of n op.Create 0 → ⊥
      not_created n c known is = each (λ (d : Dispatched). d.dispatch.job ≡ job_of n op.Create 0 → ⊥) jobs (other_job (list_job 0) (job_of n op.Create 0) refl, (other_job (list_job 1) (job_of n op.Create 0) refl, tt)) c known is

  keeps : KeepsBuffers 1 e.journal
  keeps front back is = front_of (λ (f : List Event). buffers_out f ≤ 1) e.journal (omega arith, (omega arith, (omega arith, (omega arith, omega arith)))) front back is

  pub met : IsMet (page_with spare) Plans e full listing_trace
  met = record {
    dispatched = jobs;
    coming = jobs;
    schedule = scheduled;
    carried = carrying.carried (page_with spare) e.setting jobs e.journal e.logs e.notes jobs written;
    buffers = keeps;
    runs = runs;
    honest = honest full listing_trace (is_faithful, (is_faithful, (is_faithful, (still, (still, (still, (still, (still, (still, tt))))))))) (tt, (tt, (tt, (tt, (tt, (tt, (tt, (tt, tt)))))))) (IsDest e.setting.tasks);
    fits = fits;
    whole = ([], refl, refl);
    causes = λ n task how at_task at_how. absurd (none_is_some task at_task);
  }

pub two_pages_are_met : TwoPagesAreMet
two_pages_are_met limits spare = met limits spare
