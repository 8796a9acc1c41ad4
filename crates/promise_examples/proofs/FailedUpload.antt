-- The upload that failed meets every definition.
use Rattle.std.proofs.Common.{◌≡◌, ◌∙◌, ◌⊎◌, ◌==◌, ◌<◌, ◌≤◌, ℕ, zero, suc, true, false, List, [], ◌∷◌, Option, Some, None, refl, sym, ap, subst, inl, inr, Contains, filter, filter_map, slice_get, take, arith}
use Rattle.std.specs.Prelude.{flat_map}
use Rattle.std.specs.Ordering.{nat_cmp}
use Rattle.std.specs.Cmp.Lexicographic.{slice_cmp, nat_list_cmp_total}
use Rattle.std.specs.FinMap.{get, insert, empty, get-empty}
use Rattle.std.proofs.lemmas.List.{append-nil}
use Rattle.std.proofs.lemmas.List.Sorted.{IsPermutation-refl}
use Rattle.s3_model.specs.declared.requests.Ask.{Ask}
use Rattle.s3_model.specs.declared.requests.Op.TheVariants as op
use Rattle.s3_model.specs.declared.answers.Class.{Class}
use Rattle.s3_model.specs.declared.answers.Class.TheVariants as class
use Rattle.s3_model.specs.declared.answers.Listed.{Listed}
use Rattle.s3_model.specs.declared.answers.Reply.TheVariants as reply
use Rattle.s3_model.specs.declared.answers.Why.TheVariants as why
use Rattle.s3_model.specs.declared.outcomes.Cause.TheVariants as cause
use Rattle.s3_model.specs.declared.outcomes.Event.{Event}
use Rattle.s3_model.specs.declared.outcomes.JobId.{JobId}
use Rattle.s3_model.specs.declared.outcomes.Outcome.{Outcome}
use Rattle.s3_model.specs.declared.outcomes.Outcome.TheVariants as outcome
use Rattle.s3_model.specs.declared.tasks.Kind.TheVariants as kind
use Rattle.s3_model.specs.declared.tasks.Task.{Task}
use Rattle.s3_model.specs.declared.tries.Mark.{Mark}
use Rattle.s3_model.specs.declared.tries.Mark.TheVariants as mark
use Rattle.s3_model.specs.Parts.{HasPieces, IsFirstFitting, piece_of}
use Rattle.s3_model.specs.Talks.{Talk, Moment, Began}
use Rattle.s3_service.specs.ServiceState.{HasBucket}
use Rattle.s3_service.specs.Serves.{Replied, Refused, Creates, StoresPart, Aborts}
use Rattle.job_terms.specs.Buffers.{KeepsBuffers, buffers_out}
use Rattle.run_promise.specs.Carried.{MayStop}
use Rattle.job_terms.specs.Attempts.{IsSaid}
use Rattle.run_promise.specs.Dispatches.{IsCut}
use Rattle.job_terms.specs.Dispatches.{Attempt, Dispatched}
use Rattle.run_promise.specs.Fits.{Fits, IsAnswered, Names, requests_of}
use Rattle.run_promise.specs.Outcomes.{HasOutcome, HasDeciding, IsFirstFailure}
use Rattle.run_promise.specs.Schedule.{IsSchedule, IsBefore, IsBeforeAny, IsBeforePlace, IsFailed, IsUpload, bytes_of, gained_before, most_body}
use Rattle.job_terms.specs.Jobs.{Target, job_of}
use Rattle.run_promise.specs.Traces.{IsTrace, begun_in, events_of}
use Rattle.run_promise.specs.Truthful.{IsDest}
use Rattle.shared_lemmas.proofs.Clashes.{false_true as never}
use Rattle.shared_lemmas.proofs.Maps.{get-insert_same, is_nothing, text_exact}
use Rattle.promise_examples.specs.Reading.{Reads, HasNoStatus, NeverFailed, signed_body}
use Rattle.promise_examples.specs.Runs.{Example, IsMet}
use Rattle.promise_examples.specs.Everything.{bucket, uploaded, path, bytes, id, second_etag, upload, create_job, part_job, create, part, create_answered, unused, second_part, create_request, part_request, other_request}
use Rattle.promise_examples.specs.Orders.{abort_job, part_denied, abort_answered}
use Rattle.promise_examples.specs.FailedUpload.{FailedUploadIsMet, abort, abort_request, other_lost, denied, events, failed_run, start, created, after_second, aborted, failed_trace}
use Rattle.promise_examples.proofs.Carrying as carrying
use Rattle.promise_examples.proofs.Carrying.{same_again}
use Rattle.promise_examples.proofs.Concrete.{has, at, each, front_of, none_is_some, pairs, some_is}
use Rattle.promise_examples.proofs.EventfulJobs.{lost, well, sent_as}
use Rattle.promise_examples.proofs.Fitting as fitting
use Rattle.promise_examples.proofs.Honest.{one_bucket_is_faithful, has_bucket, honest}
use Rattle.world_laws.proofs.Faithful.{IsFaithful}
use Rattle.promise_examples.proofs.Readings.{names, same_uncertain, says_whole}
use Rattle.promise_examples.proofs.Repeats.{all_repeats, no_third, other_job}
use Rattle.promise_examples.proofs.Scheduling as scheduling
use Rattle.promise_examples.proofs.Scheduling.{other_op}

-- ---- its jobs

abbrev turned_down : Talk → Attempt
turned_down talk = record { mark = mark.Refusal; talk = talk }

abbrev create_sent : Dispatched
create_sent = sent_as create_job 0 0 1 0 false (well create_answered ∷ []) create [] 2

abbrev first_sent : Dispatched
first_sent = sent_as (part_job 1) 0 2 4 0 false (turned_down part_denied ∷ []) (part 1) (1 ∷ []) 2

abbrev second_sent : Dispatched
second_sent = sent_as (part_job 2) 1 3 5 0 false (lost other_lost ∷ []) (part 2) (2 ∷ []) 2

abbrev abort_sent : Dispatched
abort_sent = sent_as abort_job 0 6 7 0 false (well abort_answered ∷ []) abort [] 2

abbrev jobs : List Dispatched
jobs = create_sent ∷ first_sent ∷ second_sent ∷ abort_sent ∷ []

abbrev e : Example
e = failed_run

-- ---- its trace

there : HasBucket start bucket
there = has_bucket (record { objects = empty; uploads = empty; ended = empty; tokens = empty }) bucket empty

create_served : Creates start bucket uploaded id created
create_served = (there, is_nothing _ (get-empty (slice_cmp nat_cmp) id), is_nothing _ (get-empty (slice_cmp nat_cmp) id), unused, record { bucket = refl; key = refl; parts = refl }, refl)

second_served : StoresPart created bucket uploaded id 2 (2 ∷ []) second_etag after_second
second_served = (unused, record { held = get-insert_same nat_list_cmp_total text_exact start.uploads id unused; bucket = refl; key = refl }, refl)

abort_served : Aborts after_second bucket uploaded id aborted
abort_served = (_, record { held = get-insert_same nat_list_cmp_total text_exact created.uploads id (record unused { parts = insert unused.parts 2 second_part }); bucket = refl; key = refl }, refl)

runs : IsTrace e.setting.limits [] start failed_trace
runs = (refl, (refl, (((0, omega arith, refl), create_served), (refl, (refl, (refl, (refl, (refl, (((1, omega arith, refl), (refl, tt)), (refl, (((0, omega arith, refl), second_served), (refl, (refl, (refl, (((0, omega arith, refl), abort_served), (refl, tt))))))))))))))))

still : IsFaithful start
still = one_bucket_is_faithful bucket

created_is : IsFaithful created
created_is b k object found = still b k object found

second_is : IsFaithful after_second
second_is b k object found = still b k object found

aborted_is : IsFaithful aborted
aborted_is b k object found = still b k object found

module _ (page_of : List ℕ → Listed) where
  abbrev Shows : Ask → ℕ → Talk → Class → List ℕ → Type 0
  Shows = Reads page_of

  abbrev Plans : List Dispatched → Type 0
  Plans planning = planning ≡ []

  named_2 : (shown : Class) (b : List ℕ) → Shows create_sent.ask most_body (well create_answered).talk shown b → Names shown b (Replied (reply.Created id) [])
  named_2 = names page_of create_sent.ask most_body (well create_answered).talk (Replied (reply.Created id) []) (reply.Created id, refl, refl)

  answered_2 : IsAnswered Shows None jobs (create_request 1) (Replied (reply.Created id) [])
  answered_2 = record { of = create_sent; known = at jobs 0 create_sent refl; place = 0; attempt = well create_answered; is_attempt = refl; is_sent = refl; names = λ shown b shows certain. named_2 shown b shows }

  named_8 : (shown : Class) (b : List ℕ) → Shows first_sent.ask most_body (turned_down part_denied).talk shown b → Names shown b (Refused denied)
  named_8 = names page_of first_sent.ask most_body (turned_down part_denied).talk (Refused denied) refl

  answered_8 : IsAnswered Shows None jobs (part_request 1) (Refused denied)
  answered_8 = record { of = first_sent; known = at jobs 1 first_sent refl; place = 0; attempt = turned_down part_denied; is_attempt = refl; is_sent = refl; names = λ shown b shows certain. named_8 shown b shows }

  named_10 : (shown : Class) (b : List ℕ) → Shows second_sent.ask most_body (lost other_lost).talk shown b → Names shown b (Replied (reply.PartStored second_etag) [])
  named_10 = names page_of second_sent.ask most_body (lost other_lost).talk (Replied (reply.PartStored second_etag) []) tt

  answered_10 : IsAnswered Shows None jobs (other_request) (Replied (reply.PartStored second_etag) [])
  answered_10 = record { of = second_sent; known = at jobs 2 second_sent refl; place = 0; attempt = lost other_lost; is_attempt = refl; is_sent = refl; names = λ shown b shows certain. named_10 shown b shows }

  named_14 : (shown : Class) (b : List ℕ) → Shows abort_sent.ask most_body (well abort_answered).talk shown b → Names shown b (Replied reply.Gone [])
  named_14 = names page_of abort_sent.ask most_body (well abort_answered).talk (Replied reply.Gone []) (reply.Gone, refl, refl)

  answered_14 : IsAnswered Shows None jobs (abort_request) (Replied reply.Gone [])
  answered_14 = record { of = abort_sent; known = at jobs 3 abort_sent refl; place = 0; attempt = well abort_answered; is_attempt = refl; is_sent = refl; names = λ shown b shows certain. named_14 shown b shows }

  served_create_sent : fitting.IsServed Shows jobs (take 3 (events_of failed_trace)) create_sent 0 (well create_answered)
  served_create_sent shown b shows certain = (Replied (reply.Created id) [], at (take 3 (events_of failed_trace)) 2 _ refl, named_2 shown b shows)

  served_first_sent : fitting.IsServed Shows jobs (take 9 (events_of failed_trace)) first_sent 0 (turned_down part_denied)
  served_first_sent shown b shows certain = (Refused denied, at (take 9 (events_of failed_trace)) 8 _ refl, named_8 shown b shows)

  served_second_sent : fitting.IsServed Shows jobs (take 11 (events_of failed_trace)) second_sent 0 (lost other_lost)
  served_second_sent shown b shows certain = absurd (same_uncertain second_sent why.WireFailed shown shows.0 certain)

  served_abort_sent : fitting.IsServed Shows jobs (take 15 (events_of failed_trace)) abort_sent 0 (well abort_answered)
  served_abort_sent shown b shows certain = (Replied reply.Gone [], at (take 15 (events_of failed_trace)) 14 _ refl, named_14 shown b shows)

  begins : (lane : ℕ) → filter_map (begun_in lane) (events_of failed_trace) ≡ flat_map requests_of (filter (λ (c : Dispatched). c.dispatch.lane == lane) jobs)
  begins zero = refl
  begins (suc zero) = refl
  begins (suc (suc lane)) =
      let a : (suc (suc lane) == 0) ≡ false = grind arith in
      let b : (0 == suc (suc lane)) ≡ false = grind arith in
      let c : (suc (suc lane) == 1) ≡ false = grind arith in
      let d : (1 == suc (suc lane)) ≡ false = grind arith in
      rw (a, b, c, d) refl

  fits : Fits Shows None (events_of failed_trace) events jobs
  fits = fitting.fits Shows jobs (events_of failed_trace) events refl begins
      (refl, (tt, (tt, (tt, (refl, (refl, (tt, (tt, (tt, (tt, (tt, (tt, (refl, (tt, (tt, (tt, tt))))))))))))))))
      (tt, (tt, (tt, (refl, (tt, (tt, (tt, (tt, (tt, (refl, (tt, (refl, (tt, (tt, (tt, (refl, tt))))))))))))))))
      (((λ same. other_job create_job (part_job 1) refl same.0), ((λ same. other_job create_job (part_job 2) refl same.0), ((λ same. other_job create_job abort_job refl same.0), tt))), (((λ same. other_job (part_job 1) (part_job 2) refl same.0), ((λ same. other_job (part_job 1) abort_job refl same.0), tt)), (((λ same. other_job (part_job 2) abort_job refl same.0), tt), (tt, tt))))
      (tt, (tt, (answered_2, (tt, (tt, (tt, (tt, (tt, (answered_8, (tt, (answered_10, (tt, (tt, (tt, (answered_14, (tt, tt))))))))))))))))
      (tt, (tt, (tt, (((served_create_sent, tt), tt), (tt, (tt, (tt, (tt, (tt, (((served_first_sent, tt), tt), (tt, (((served_second_sent, tt), tt), (tt, (tt, (tt, (((served_abort_sent, tt), tt), tt))))))))))))))))

  -- ---- failures

  abbrev behind_first : List Dispatched
  behind_first = second_sent ∷ abort_sent ∷ []

  not_again : (WasStopped : Type 0) → ¬ (IsCut Shows 2 first_sent behind_first WasStopped)
  not_again WasStopped (inl again) = each (λ (c : Dispatched). c.dispatch.job ≡ part_job 1 → ⊥) behind_first (other_job (part_job 2) (part_job 1) refl, (other_job abort_job (part_job 1) refl, tt)) again.0 again.1 again.2
  not_again WasStopped (inr stopped) = let goes = stopped.3 in never (same_again (class.Refusal denied []) goes.0 goes.2.0 ∙ goes.3)

  refused_well : mark.Refusal ≡ mark.Success → ⊥
  refused_well same = cc

  first_failed : IsFailed Shows e.setting jobs first_sent
  first_failed = (create_sent ∷ [], behind_first, refl, not_again _, (λ done. refused_well done.0))

  failure : (failed : Dispatched) → IsFailed Shows e.setting jobs failed → (first_sent ≡ failed) ⊎ (second_sent ≡ failed)
  failure failed is_failed = scheduling.failures Shows e.setting (λ (c : Dispatched). (first_sent ≡ c) ⊎ (second_sent ≡ c)) jobs
      (inr (inl (refl, (λ shown b shows. tt))), (inr (inr (inl refl)), (inr (inr (inr refl)), (inr (inl (refl, (λ shown b shows. tt))), tt)))) failed is_failed

  -- ---- its wires

  no_note : ¬ (Contains [] Began)
  no_note h = has [] Began h

  said_0 : IsSaid Shows signed_body [] 80 (record { of = create_sent; number = 1; attempt = well create_answered }) 2
  said_0 = record { to_host = refl; to_port = refl; text = λ shown b shows. says_whole page_of Shows signed_body [] 80 shown (2 ∷ []); beginning = ([], append-nil (2 ∷ [])) }

  said_1 : IsSaid Shows signed_body [] 80 (record { of = first_sent; number = 1; attempt = turned_down part_denied }) 3
  said_1 = record { to_host = refl; to_port = refl; text = λ shown b shows. says_whole page_of Shows signed_body [] 80 shown (3 ∷ 1 ∷ []); beginning = ([], append-nil (3 ∷ 1 ∷ [])) }

  said_2 : IsSaid Shows signed_body [] 80 (record { of = second_sent; number = 1; attempt = lost other_lost }) 3
  said_2 = record { to_host = refl; to_port = refl; text = λ shown b shows. says_whole page_of Shows signed_body [] 80 shown (3 ∷ 2 ∷ []); beginning = ([], append-nil (3 ∷ 2 ∷ [])) }

  said_3 : IsSaid Shows signed_body [] 80 (record { of = abort_sent; number = 1; attempt = well abort_answered }) 6
  said_3 = record { to_host = refl; to_port = refl; text = λ shown b shows. says_whole page_of Shows signed_body [] 80 shown (6 ∷ []); beginning = ([], append-nil (6 ∷ [])) }

  lane_is : (lane : ℕ) → lane < 2 → carrying.IsLane page_of e.setting jobs e.logs e.notes jobs lane
  lane_is zero used = record {
    in_turn = (((λ place come. let is : 4 ≡ place = some_is 4 place come in omega arith), ((λ place come. let is : 7 ≡ place = some_is 7 place come in omega arith), tt)), (((λ place come. let is : 7 ≡ place = some_is 7 place come in omega arith), tt), (tt, tt)));
    gained = refl;
    noted = ([], 2, Moment 3 ∷ Began ∷ Moment 6 ∷ Began ∷ [], [], refl, no_note, refl, inl refl, said_0, ([], 3, Moment 6 ∷ Began ∷ [], [], refl, no_note, refl, inl refl, said_1, ([], 6, [], [], refl, no_note, refl, inl refl, said_3, (no_note, inl refl))));
  }
  lane_is (suc zero) used = record { in_turn = (tt, tt); gained = refl; noted = ([], 3, [], [], refl, no_note, refl, inl refl, said_2, (no_note, inl refl)) }
  lane_is (suc (suc lane)) used = absurd (omega arith)

  unused_lanes : (lane : ℕ) → 2 ≤ lane → (e.logs lane ≡ []) × (e.notes lane ≡ [])
  unused_lanes zero beyond = absurd (omega arith)
  unused_lanes (suc zero) beyond = absurd (omega arith)
  unused_lanes (suc (suc lane)) beyond =
      let a : (suc (suc lane) == 0) ≡ false = grind arith in
      let b : (suc (suc lane) == 1) ≡ false = grind arith in
      rw (a, b) (refl, refl)

  cut_short : MayStop Shows signed_body [] 80 e.setting jobs second_sent
  cut_short = (refl, other_op op.Part op.Abort refl, inr (inr (first_sent, first_failed, refl, other_job (part_job 1) (part_job 2) refl, omega arith)))

  written : carrying.IsWritten page_of e.setting jobs events e.logs e.notes jobs
  written = record {
    shown = refl;
    comes = ((1, mark.Success ∷ [], refl, refl, refl), ((4, mark.Refusal ∷ [], refl, refl, refl), ((5, mark.Uncertain ∷ [], refl, refl, refl), ((7, mark.Success ∷ [], refl, refl, refl), tt))));
    inside = (omega arith, (omega arith, (omega arith, (omega arith, tt))));
    unused = unused_lanes;
    known = (tt, ((create_sent, at jobs 0 create_sent refl, refl), (tt, (tt, ((first_sent, at jobs 1 first_sent refl, refl), ((second_sent, at jobs 2 second_sent refl, refl), (tt, ((abort_sent, at jobs 3 abort_sent refl, refl), tt))))))));
    lanes = lane_is;
    marks = ((refl, tt), ((refl, tt), ((refl, tt), ((refl, tt), tt))));
    again = (((λ more. absurd (omega arith)), tt), (((λ more. absurd (omega arith)), tt), (((λ more. absurd (omega arith)), tt), (((λ more. absurd (omega arith)), tt), tt))));
    given_again = (tt, (tt, (tt, (tt, tt))));
    at_most = (omega arith, (omega arith, (omega arith, (omega arith, tt))));
    ends = ((λ goes. absurd (never goes)), ((λ goes. absurd (never goes)), ((λ goes. inr (inr cut_short)), ((λ goes. absurd (never goes)), tt))));
  }

  -- ---- the schedule

  first_fitting : IsFirstFitting 1 2 2 1
  first_fitting = record { doublings = 0; is_multiple = refl; fits = omega arith; first = λ k below. absurd (omega arith) }

  pieces : HasPieces e.setting.config e.setting.limits kind.Upload 2 1 2
  pieces = inr (omega arith, (1, first_fitting, refl, refl))

  body_is : bytes ≡ bytes_of (get e.setting.held path)
  body_is = sym (ap bytes_of (get-insert_same nat_list_cmp_total text_exact empty path (record { bytes = bytes; micros = 0 })))

  to : Target upload
  to = record { bucket = bucket; key = uploaded; is_dest = (refl, refl) }

  named_upload : (place : ℕ) → 1 < place → IsUpload (gained_before Shows jobs place) 0 id
  named_upload place late = (create_sent, at jobs 0 create_sent refl, refl, late, (refl, [], (refl, refl)))

  abbrev Asks : Dispatched → Type 0
  Asks c = scheduling.AsksFor Shows e.setting Plans jobs jobs c 0

  asks_create : Asks create_sent
  unfolding to
  asks_create = (upload, 1, 2, refl, pieces, refl, refl, (to, refl, refl, refl))

  asks_first : Asks first_sent
  unfolding to
  asks_first = (upload, 1, 2, refl, pieces, refl, refl, (to, id, named_upload 2 (omega arith), (omega arith, omega arith), refl, ap (λ (all : List ℕ). piece_of all 1 1) body_is))

  asks_second : Asks second_sent
  unfolding to
  asks_second = (upload, 1, 2, refl, pieces, refl, refl, (to, id, named_upload 3 (omega arith), (omega arith, omega arith), refl, ap (λ (all : List ℕ). piece_of all 1 2) body_is))

  asks_abort : Asks abort_sent
  unfolding to
  asks_abort = (upload, 1, 2, refl, pieces, refl, refl, ((to, id, named_upload 6 (omega arith), refl), refl, refl))

  asks_each : (c : Dispatched) (n : ℕ) → Contains jobs c → c.dispatch.job.task ≡ Some n → scheduling.AsksFor Shows e.setting Plans jobs jobs c n
  asks_each c n known of_task =
      let zero : 0 ≡ n = each (λ (d : Dispatched). d.dispatch.job.task ≡ Some n → 0 ≡ n) jobs (some_is 0 n, (some_is 0 n, (some_is 0 n, (some_is 0 n, tt)))) c known of_task in
      subst (λ (m : ℕ). scheduling.AsksFor Shows e.setting Plans jobs jobs c m) zero (each Asks jobs (asks_create, (asks_first, (asks_second, (asks_abort, tt)))) c known)

  of_a_task : (c : Dispatched) → Contains jobs c → c.dispatch.job.task ≡ None → ⊥
  of_a_task c known none = each (λ (d : Dispatched). d.dispatch.job.task ≡ None → ⊥) jobs (is, (is, (is, (is, tt)))) c known none
    where
      is : ◌≡◌ {A = Option ℕ} (Some 0) None → ⊥
      is same = none_is_some 0 (sym same)

  -- an Abort alone is given after one of the parts came
  after : (place : ℕ) → 4 ≤ place → (c : Dispatched) → Contains jobs c → place < c.dispatch.given_at → c.dispatch.job.op ≡ op.Abort
  after place late c known given = each (λ (d : Dispatched). place < d.dispatch.given_at → d.dispatch.job.op ≡ op.Abort) jobs
      ((λ h. absurd (omega arith)), ((λ h. absurd (omega arith)), ((λ h. absurd (omega arith)), ((λ h. refl), tt)))) c known given

  stops : scheduling.StopsAll Shows e.setting Plans jobs jobs
  stops failed c is_failed of_task no_abort known same late = elim (failure failed is_failed) [
    | inl is ↦ after 4 (omega arith) c known (subst (λ (d : Dispatched). IsBefore d.dispatch.came_at c.dispatch.given_at) (sym is) late)
    | inr is ↦ after 5 (omega arith) c known (subst (λ (d : Dispatched). IsBefore d.dispatch.came_at c.dispatch.given_at) (sym is) late)
  ]

  only_abort : (a : Dispatched) → Contains jobs a → a.dispatch.job.op ≡ op.Abort → abort_sent ≡ a
  only_abort a known is_abort = each (λ (d : Dispatched). d.dispatch.job.op ≡ op.Abort → abort_sent ≡ d) jobs
      ((λ h. absurd (other_op op.Create op.Abort refl h)), ((λ h. absurd (other_op op.Part op.Abort refl h)), ((λ h. absurd (other_op op.Part op.Abort refl h)), ((λ h. refl), tt)))) a known is_abort

  abort_last : (a c : Dispatched) → Contains jobs a → Contains jobs c → a.dispatch.job.op ≡ op.Abort → c.dispatch.job.task ≡ a.dispatch.job.task → (c.dispatch.job.op ≡ op.Abort → ⊥) → IsBefore c.dispatch.came_at a.dispatch.given_at
  abort_last a c known_a known is_abort same other =
      subst (λ (d : Dispatched). IsBefore c.dispatch.came_at d.dispatch.given_at) (only_abort a known_a is_abort)
      (each (λ (d : Dispatched). (d.dispatch.job.op ≡ op.Abort → ⊥) → IsBefore d.dispatch.came_at 6) jobs ((λ h. omega arith), ((λ h. omega arith), ((λ h. omega arith), ((λ h. absurd (h refl)), tt)))) c known other)

  not_completed : (n : ℕ) (c : Dispatched) → Contains jobs c → c.dispatch.job ≡ job_of n op.Complete 0 → ⊥
  not_completed n c known is = each (λ (d : Dispatched). d.dispatch.job ≡ job_of n op.Complete 0 → ⊥) jobs ((λ same. other_op op.Create op.Complete refl (ap (λ (job : JobId). job.op) same)), ((λ same. other_op op.Part op.Complete refl (ap (λ (job : JobId). job.op) same)), ((λ same. other_op op.Part op.Complete refl (ap (λ (job : JobId). job.op) same)), ((λ same. other_op op.Abort op.Complete refl (ap (λ (job : JobId). job.op) same)), tt)))) c known is

  scheduled : IsSchedule Shows e.setting Plans jobs jobs
  scheduled = record {
    is_coming = IsPermutation-refl jobs;
    in_order = pairs (λ (a b : Dispatched). IsBeforeAny a.dispatch.came_at b.dispatch.came_at) jobs ((omega arith, (omega arith, (omega arith, tt))), ((omega arith, (omega arith, tt)), ((omega arith, tt), (tt, tt))));
    asks = asks_each;
    plans = refl;
    numbered = λ k c at_k. absurd (none_is_some c at_k);
    planned = λ c known none. absurd (of_a_task c known none);
    one_by_one = pairs (λ (a b : Dispatched). IsBefore a.dispatch.came_at b.dispatch.given_at) [] tt;
    dry = λ c dry known. absurd (never dry);
    twice = all_repeats (scheduling.TwiceRule Shows e.setting Plans jobs jobs) jobs (tt, (tt, (tt, (tt, tt))));
    no_third = no_third jobs (omega arith, (omega arith, (omega arith, (omega arith, tt))));
    stops = stops;
    abort_last = abort_last;
    aborts = λ n of_id end ended made. inr (abort_sent, at jobs 3 abort_sent refl, aborts_it n made.0 made.1 made.2);
    completed_stays = λ n end a known is_abort completed. not_completed n completed.0 completed.1 completed.2;
    moves_last = λ c n task known of_task at_n moves deletes. absurd (never_moves task n at_n moves);
  }
    where
      aborts_it : (n : ℕ) (c : Dispatched) → Contains jobs c → c.dispatch.job ≡ job_of n op.Create 0 → abort_job ≡ job_of n op.Abort 0
      aborts_it n c known is =
          let zero : 0 ≡ n = each (λ (d : Dispatched). d.dispatch.job.task ≡ Some n → 0 ≡ n) jobs (some_is 0 n, (some_is 0 n, (some_is 0 n, (some_is 0 n, tt)))) c known (ap (λ (job : JobId). job.task) is) in
          ap (λ (m : ℕ). job_of m op.Abort 0) zero

      never_moves : (task : Task) (n : ℕ) → slice_get e.setting.tasks n ≡ Some task → task.moves ≡ true → ⊥
      never_moves task zero at_n moves = never (ap (λ (t : Task). t.moves) (some_is upload task at_n) ∙ moves)
      never_moves task (suc n) at_n moves = none_is_some task at_n

  keeps : KeepsBuffers 2 events
  keeps front back is = front_of (λ (f : List Event). buffers_out f ≤ 2) events (omega arith, (omega arith, (omega arith, (omega arith, (omega arith, (omega arith, (omega arith, (omega arith, omega arith)))))))) front back is

  -- ---- its outcome

  none_decides : (m : Mark) → HasDeciding Shows HasNoStatus NeverFailed e.setting jobs jobs 0 upload m → ⊥
  none_decides m decides = not_completed 0 decides.0 decides.1 decides.2.1

  is_first : IsFirstFailure Shows HasNoStatus NeverFailed e.setting jobs jobs 0 first_sent
  is_first = (
    (first_failed, refl),
    (λ other failing. elim (failure other failing.0) [
      | inl is ↦ inl (sym (ap (λ (c : Dispatched). c.dispatch) is))
      | inr is ↦ inr (subst (λ (c : Dispatched). IsBeforePlace (Some 4) c.dispatch.came_at) is (omega arith))
    ]),
  )

  has_failed : HasOutcome Shows HasNoStatus NeverFailed e.setting jobs jobs 0 upload (outcome.Failed (cause.Service op.Part denied []))
  has_failed = (none_decides mark.Success, (λ open_ended. none_decides mark.Uncertain open_ended.0), ((first_sent, is_first, (refl, ([], (refl, refl)), (λ changed. changed.0))), (λ skipped. never skipped.0)), (λ fresh. absurd (never fresh)))

  causes : (n : ℕ) (task : Task) (how : Outcome) → slice_get e.setting.tasks n ≡ Some task → slice_get e.outcomes n ≡ Some how → HasOutcome Shows HasNoStatus NeverFailed e.setting jobs jobs n task how
  causes zero task how at_task at_how =
      subst (HasOutcome Shows HasNoStatus NeverFailed e.setting jobs jobs 0 task) (some_is (outcome.Failed (cause.Service op.Part denied [])) how at_how)
      (subst (λ (t : Task). HasOutcome Shows HasNoStatus NeverFailed e.setting jobs jobs 0 t (outcome.Failed (cause.Service op.Part denied []))) (some_is upload task at_task) has_failed)
  causes (suc n) task how at_task at_how = absurd (none_is_some task at_task)

  pub met : IsMet page_of Plans e start failed_trace
  met = record {
    dispatched = jobs;
    coming = jobs;
    schedule = scheduled;
    carried = carrying.carried page_of e.setting jobs events e.logs e.notes jobs written;
    buffers = keeps;
    runs = runs;
    honest = honest start failed_trace
        (still, (still, (still, (created_is, (created_is, (created_is, (created_is, (created_is, (created_is, (created_is, (created_is, (second_is, (second_is, (second_is, (second_is, (aborted_is, (aborted_is, tt)))))))))))))))))
        (tt, (tt, (tt, (tt, (tt, (tt, (tt, (tt, (tt, (tt, (tt, (tt, (tt, (tt, (tt, (tt, tt)))))))))))))))) (IsDest e.setting.tasks);
    fits = fits;
    whole = ([], refl, refl);
    causes = causes;
  }

pub failed_upload_is_met : FailedUploadIsMet
failed_upload_is_met page_of = met page_of
