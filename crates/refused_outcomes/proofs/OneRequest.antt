-- The causes of one request: a bad reply, a changed source, and a job at a place that was taken.
use Rattle.std.proofs.Common.{◌≡◌, ◌∙◌, ◌⊎◌, ◌<◌, ℕ, zero, suc, true, false, List, [], ◌∷◌, Some, None, refl, sym, ap, subst, inl, inr, slice_get, arith}
use Rattle.std.specs.Prelude.{IsSome, codes}
use Rattle.std.specs.Cmp.Lexicographic.{nat_list_cmp_total, slice_cmp}
use Rattle.std.specs.Ordering.{nat_cmp}
use Rattle.std.specs.FinMap.{empty, get, get-empty}
use Rattle.std.proofs.lemmas.List.Sorted.{Contains-permutation, IsPermutation-refl}
use Rattle.s3_model.specs.declared.answers.Class.{Class}
use Rattle.s3_model.specs.declared.answers.Class.TheVariants as class
use Rattle.s3_model.specs.declared.answers.Listed.{Listed}
use Rattle.s3_model.specs.declared.answers.Reply.{Reply}
use Rattle.s3_model.specs.declared.answers.Reply.TheVariants as reply
use Rattle.s3_model.specs.declared.outcomes.Cause.{Cause}
use Rattle.s3_model.specs.declared.outcomes.Cause.TheVariants as cause
use Rattle.s3_model.specs.declared.outcomes.JobId.{JobId}
use Rattle.s3_model.specs.declared.outcomes.Outcome.{Outcome}
use Rattle.s3_model.specs.declared.outcomes.Outcome.TheVariants as outcome
use Rattle.s3_model.specs.declared.requests.Ask.{Ask}
use Rattle.s3_model.specs.declared.requests.Ask.TheVariants as ask
use Rattle.s3_model.specs.declared.requests.Op.{Op}
use Rattle.s3_model.specs.declared.requests.Op.TheVariants as op
use Rattle.s3_model.specs.declared.tasks.Kind.TheVariants as kind
use Rattle.s3_model.specs.declared.tasks.Task.{Task}
use Rattle.s3_model.specs.declared.tries.Mark.{Mark}
use Rattle.s3_model.specs.declared.tries.Mark.TheVariants as mark
use Rattle.s3_model.specs.Classes.{is_tried_again}
use Rattle.s3_model.specs.Files.{HeldFile}
use Rattle.s3_model.specs.Maps.{MapOf}
use Rattle.s3_model.specs.Talks.{Closed, Ending, Finished, Talk}
use Rattle.job_terms.specs.Attempts.{mark_of}
use Rattle.job_terms.specs.Dispatches.{Attempt, Dispatch, Dispatched, dispatches}
use Rattle.job_terms.specs.Jobs.{Origin, Target, job_of}
use Rattle.job_terms.specs.Ops.{is_op}
use Rattle.run_promise.specs.Dispatches.{FitsAsk, IsCompletedWell, IsCut, IsFailing}
use Rattle.run_promise.specs.Outcomes.{FailsFirstBy, FailsFor, HasDeciding, HasOutcome, IsFirstFailure, IsLastCause}
use Rattle.run_promise.specs.Schedule.{IsBefore, IsFailed, IsSchedule, IsStopped, IsTaskAsk, Setting, gained_before, is_small, limit_of, most_body, source_bytes}
use Rattle.shared_lemmas.proofs.Clashes.{false_true as never, some_is}
use Rattle.shared_lemmas.proofs.Members.{split_of}
use Rattle.shared_lemmas.proofs.Maps.{get-insert_same, text_exact}
use Rattle.promise_examples.specs.GivenAgain.{bytes}
use Rattle.promise_examples.specs.Reading.{HasNoStatus, NeverFailed, Reads}
use Rattle.promise_examples.specs.Refused.{path, setting}
use Rattle.promise_examples.specs.Runs.{Example}
use Rattle.promise_examples.proofs.BothPlan.{other_length}
use Rattle.promise_examples.proofs.Carrying as carrying
use Rattle.promise_examples.proofs.Concrete.{at, each, has, slot}
use Rattle.promise_examples.proofs.Noting as noting
use Rattle.promise_examples.proofs.Readings.{refusal_success, shown_by}
use Rattle.promise_examples.proofs.Scheduling as scheduling
use Rattle.promise_examples.proofs.Scheduling.{other_op}
use Rattle.promise_examples.proofs.SmallPut as small
use Rattle.promise_examples.proofs.Shown.{alone, made, of_shown}
use Rattle.refused_outcomes.specs.OneRequest.{EachRequestCauseIsMet, EachRequestCauseIsRefused, IsRefusedWith, IsStatus, IsToldWith, RequestCausesAreMet, RequestCausesAreRefused, copied, denied, denied_copy, gets, one_request, talk_with, three_bytes, two_bytes, with_files}
use Rattle.refused_outcomes.specs.Told.{IsReading}
use Rattle.refused_outcomes.specs.Untried.{fresh_load, load}

copy_upload : kind.Copy ≡ kind.Upload → ⊥
copy_upload e = cc

download_upload : kind.Download ≡ kind.Upload → ⊥
download_upload e = cc

code_of : (got code message : List ℕ) → class.Refusal got [] ≡ class.Refusal code message → code ≡ got
code_of got code message e = cc

not_precondition : denied ≡ codes "PreconditionFailed" → ⊥
not_precondition e = other_length denied (codes "PreconditionFailed") 12 18 refl refl (λ is. omega arith) e

module _ (page_of : List ℕ → Listed) where
  abbrev Shows : Ask → ℕ → Talk → Class → List ℕ → Type 0
  Shows = Reads page_of

  abbrev Plans : List Dispatched → Type 0
  Plans planning = planning ≡ []

  module _ (task : Task) (held : MapOf HeldFile) (o : Op) (m : Mark) (ending : Ending) (got : List ℕ) where
    abbrev s : Setting
    s = with_files task held

    abbrev e : Example
    e = one_request s o m ending got

    abbrev attempt : Attempt
    attempt = record { mark = m; talk = talk_with ending got }

    abbrev given : Dispatch
    given = record { job = job_of 0 o 0; lane = 0; given_at = 0; came_at = Some 1; earlier = 0; is_second = false; attempts = attempt ∷ [] }

    -- ---- however it is read

    however : given ∷ [] ≡ dispatches e.journal e.logs → (HasStatus : Ask → ℕ → Talk → ℕ → Type 0) (how : Outcome)
        → ((asked : Ask) (body : List ℕ) (limit size : ℕ) (coming : List Dispatched) → IsSchedule Shows s Plans (made given asked body limit size ∷ []) coming
        → HasOutcome Shows HasStatus NeverFailed s (made given asked body limit size ∷ []) coming 0 task how → ⊥)
        → IsRefusedWith page_of HasStatus e task how
    however is_given HasStatus how all dispatched coming read has_it =
        of_shown (given ∷ []) (λ xs. (came : List Dispatched) → IsSchedule Shows s Plans xs came → HasOutcome Shows HasStatus NeverFailed s xs came 0 task how → ⊥) all dispatched (read.carried.shown ∙ sym is_given) coming read.schedule has_it

    -- its one request shows why it failed
    by_it : (HasStatus : Ask → ℕ → Talk → ℕ → Type 0) (asked : Ask) (body : List ℕ) (limit size : ℕ) (coming : List Dispatched) (why : Cause) → IsSchedule Shows s Plans (made given asked body limit size ∷ []) coming
        → FailsFirstBy Shows HasStatus NeverFailed s (made given asked body limit size ∷ []) coming 0 why → IsLastCause Shows HasStatus (made given asked body limit size) why
    by_it HasStatus asked body limit size coming why schedule by =
        subst (λ (d : Dispatched). IsLastCause Shows HasStatus d why) (sym (alone (made given asked body limit size) coming schedule.is_coming by.1.0.0.0 by.0 by.1.0.0.1 by.1.0.0.2).1) by.2

    -- ---- as it is read

    module _ (asked : Ask) (limit : ℕ) where
      abbrev sent : Dispatched
      sent = made given asked [] limit 2

      abbrev jobs : List Dispatched
      jobs = sent ∷ []

      not_cut : IsCut Shows 2 sent [] (IsStopped s (Some 0) ⊎ IsFailing Shows 2 (Some 0) (IsStopped s (Some 0)) []) → ⊥
      not_cut (inl again) = has [] again.0 again.1
      not_cut (inr stopped) = elim stopped.4 [ inl is ↦ never is | inr failing ↦ failing ]

      is_first : (HasStatus : Ask → ℕ → Talk → ℕ → Type 0) → (IsCompletedWell Shows sent → ⊥) → IsFirstFailure Shows HasStatus NeverFailed s jobs jobs 0 sent
      is_first HasStatus not_well =
          ((([], [], refl, not_cut, not_well), refl), (λ other failure. inl (ap (λ (d : Dispatched). d.dispatch) (sym (alone sent jobs (IsPermutation-refl jobs) failure.0.0 other failure.0.1 failure.0.2).1))))

      none_decides : (HasStatus : Ask → ℕ → Talk → ℕ → Type 0) (other : Mark) → (m ≡ other → ⊥) → HasDeciding Shows HasStatus NeverFailed s jobs jobs 0 task other → ⊥
      none_decides HasStatus other differs decides =
          each (λ (d : Dispatched). (k : ℕ) (a : Attempt) → (slice_get d.dispatch.attempts k ≡ Some a) → a.mark ≡ other → ⊥) jobs
          ((λ k a here marked. slot (λ (n : ℕ) (b : Attempt). b.mark ≡ other → ⊥) (attempt ∷ []) (differs, tt) k a here marked), tt) decides.0 decides.1 decides.3.0 decides.3.1 decides.3.2 decides.3.3

      module _ (asks : scheduling.AsksFor Shows s Plans jobs jobs sent 0) (no_abort : is_op o op.Abort ≡ false) (no_create : o ≡ op.Create → ⊥) (no_delete : o ≡ op.Delete → ⊥)
          (marked : m ≡ mark_of (shown_by page_of asked (talk_with ending got))) (ends : is_tried_again (shown_by page_of asked (talk_with ending got)) ≡ true → ⊥) where
        scheduled : IsSchedule Shows s Plans jobs jobs
        scheduled = scheduling.scheduled Shows s Plans jobs jobs (record {
          is_coming = IsPermutation-refl jobs;
          in_order = (tt, tt);
          asks = (asks, tt);
          plans = refl;
          numbered = tt;
          one_by_one = tt;
          carried_out = refl;
          twice = (tt, tt);
          seconds = (omega arith, tt);
          stops = λ failed c is_failed of_task other_job known same late. absurd (each (λ (d : Dispatched). IsBefore failed.dispatch.came_at d.dispatch.given_at → ⊥) jobs (small.never_before failed.dispatch.came_at, tt) c known late);
          no_abort = (no_abort, tt);
          completes = λ n id end ended created. absurd (each (λ (d : Dispatched). d.dispatch.job ≡ job_of n op.Create 0 → ⊥) jobs ((λ same. no_create (ap (λ (job : JobId). job.op) same)), tt) created.0 created.1 created.2);
          moves_last = ((λ n t of_task at_n moves deletes. absurd (no_delete deletes)), tt);
        })

        lane_is : (lane : ℕ) → lane < 1 → carrying.IsLane page_of s jobs e.logs e.notes jobs lane
        lane_is zero used = record { in_turn = (tt, tt); gained = refl; noted = noting.first page_of (noting.nth 1 sent attempt) 5 [] [] refl (refl, refl, refl) (noting.done page_of) }
        lane_is (suc lane) used = absurd (omega arith)

        reading : given ∷ [] ≡ dispatches e.journal e.logs → IsReading page_of NeverFailed e task jobs jobs
        reading is_given = record {
          schedule = scheduled;
          carried = carrying.carried page_of s jobs e.journal e.logs e.notes jobs (record {
            shown = is_given;
            comes = ((1, m ∷ [], refl, refl, refl), tt);
            inside = (omega arith, tt);
            unused = λ lane beyond. (carrying.none_in _ lane beyond, carrying.none_in _ lane beyond);
            known = (tt, ((sent, at jobs 0 sent refl, refl), tt));
            lanes = lane_is;
            marks = ((marked, tt), tt);
            again = (((λ more. absurd (omega arith)), tt), tt);
            given_again = (tt, tt);
            at_most = (omega arith, tt);
            ends = ((λ goes. absurd (ends goes)), tt);
          });
        }

  -- ---- the Get

  abbrev get_asks : Ask
  get_asks = ask.Get (98 ∷ []) (120 ∷ []) [] None

  from : Origin load
  from = record { bucket = 98 ∷ []; key = 120 ∷ []; is_source = (refl, refl) }

  fresh_from : Origin fresh_load
  fresh_from = record { bucket = 98 ∷ []; key = 120 ∷ []; is_source = (refl, refl) }

  abbrev get_of : Task → MapOf HeldFile → List ℕ → Dispatched
  get_of task held got = sent task held op.Get mark.Success Finished got get_asks 2

  get_reading : (held : MapOf HeldFile) (got : List ℕ) → IsReading page_of NeverFailed (gets load held got) load (get_of load held got ∷ []) (get_of load held got ∷ [])
  unfolding from
  get_reading held got = reading load held op.Get mark.Success Finished got get_asks 2 (load, 2, 1, refl, inl (omega arith, refl, refl), refl, refl, (from, refl, refl, refl)) refl (other_op op.Get op.Create refl) (other_op op.Get op.Delete refl) refl never refl

  fresh_reading : (held : MapOf HeldFile) (got : List ℕ) → IsReading page_of NeverFailed (gets fresh_load held got) fresh_load (get_of fresh_load held got ∷ []) (get_of fresh_load held got ∷ [])
  unfolding fresh_from
  fresh_reading held got = reading fresh_load held op.Get mark.Success Finished got get_asks 2 (fresh_load, 2, 1, refl, inl (omega arith, refl, refl), refl, refl, (fresh_from, refl, refl, refl)) refl (other_op op.Get op.Create refl) (other_op op.Get op.Delete refl) refl never refl

  -- a Get of the whole is answered as it asks where it brought two bytes
  fits_whole : (c : Dispatched) → c.limit ≡ 2 → (b k etag : List ℕ) (limit : ℕ) (of_class : Class) (said : List ℕ) → Shows (ask.Get b k etag None) limit (talk_with Finished two_bytes) of_class said → FitsAsk c (ask.Get b k etag None) of_class
  fits_whole c limited b k etag limit (class.Success (reply.Got status range size)) said shows = subst (λ (x : Reply). FitsAsk c (ask.Get b k etag None) (class.Success x)) shows.0 (refl, sym limited)
  fits_whole c limited b k etag limit of_class said shows = tt

  -- the one request of a download asks for the whole, and for two bytes
  asks_whole : (asked : Ask) (body : List ℕ) (limit size : ℕ) (coming : List Dispatched) (held : MapOf HeldFile) (got : List ℕ) → IsSchedule Shows (with_files load held) Plans (made (given load held op.Get mark.Success Finished got) asked body limit size ∷ []) coming
      → (b : List ℕ) × (k : List ℕ) × (asked ≡ ask.Get b k [] None) × (limit ≡ 2)
  asks_whole asked body limit size coming held got schedule =
      let c = made (given load held op.Get mark.Success Finished got) asked body limit size in
      let row = schedule.asks c 0 (at (c ∷ []) 0 c refl) refl in
      subst (λ (x : Task). (limit ≡ limit_of x.size row.1 0 asked) → IsTaskAsk (gained_before Shows (c ∷ []) 0) x (record { number = 0; bytes = source_bytes held x.source; piece = row.1; count = row.2 }) x.kind (is_small (with_files load held) x) op.Get 0 asked body
      → (b : List ℕ) × (k : List ℕ) × (asked ≡ ask.Get b k [] None) × (limit ≡ 2)) (some_is load row.0 row.3)
      (λ is_limit asks. (asks.0.bucket, asks.0.key, asks.2, is_limit ∙ ap (limit_of 2 row.1 0) asks.2)) row.6 row.7

  good_get : IsRefusedWith page_of HasNoStatus (gets load setting.held two_bytes) load (outcome.Failed (cause.BadReply op.Get))
  good_get = however load setting.held op.Get mark.Success Finished two_bytes refl HasNoStatus (outcome.Failed (cause.BadReply op.Get)) (λ asked body limit size coming schedule how.
      let c = made (given load setting.held op.Get mark.Success Finished two_bytes) asked body limit size in
      let shown = by_it load setting.held op.Get mark.Success Finished two_bytes HasNoStatus asked body limit size coming (cause.BadReply op.Get) schedule how.2 in
      let whole = asks_whole asked body limit size coming setting.held two_bytes schedule in
      shown.4 (subst (λ (x : Ask). Shows x limit (talk_with Finished two_bytes) (class.Success shown.1) shown.2 → FitsAsk c x (class.Success shown.1)) (sym whole.2) (λ shows. fits_whole c whole.3 whole.0 whole.1 [] limit (class.Success shown.1) shown.2 shows) shown.3))

  -- ---- outcomes of the Get

  abbrev whole : Dispatched
  whole = get_of load setting.held two_bytes

  abbrev fresh_whole : Dispatched
  fresh_whole = get_of fresh_load empty two_bytes

  abbrev more : Dispatched
  more = get_of load setting.held three_bytes

  stands : IsSome (get setting.held path)
  stands = subst (λ o. IsSome o) (sym (get-insert_same nat_list_cmp_total text_exact empty path (record { bytes = bytes; micros = 0 }))) refl

  no_failure : (task : Task) (held : MapOf HeldFile) (failed : Dispatched) → IsFailed Shows (with_files task held) (get_of task held two_bytes ∷ []) failed → ⊥
  no_failure task held failed is_failed = scheduling.failures Shows (with_files task held) (λ d. ⊥) (get_of task held two_bytes ∷ [])
      (inr (inl (refl, (λ of_class said shows. fits_whole (get_of task held two_bytes) refl (98 ∷ []) (120 ∷ []) [] 2 of_class said shows))), tt) failed is_failed

  bad_fits : (P : Type 0) → ◌≡◌ {A = ℕ} 3 2 → P
  bad_fits P is = absurd (omega arith)

  bad_get : IsToldWith page_of HasNoStatus (gets load setting.held three_bytes) load (outcome.Failed (cause.BadReply op.Get))
  bad_get = (
    more ∷ [],
    more ∷ [],
    get_reading setting.held three_bytes,
    (
      (λ decides. decides.2.0),
      (λ left. left.0.2.0),
      (
        more,
        is_first load setting.held op.Get mark.Success Finished three_bytes get_asks 2 HasNoStatus (λ well. bad_fits ⊥ (well.1 (class.Success (reply.Got 200 None 3)) three_bytes (refl, refl)).1),
        (refl, reply.Got 200 None 3, three_bytes, (refl, refl), (λ fits. bad_fits ⊥ fits.1)),
      ),
      (λ fresh. absurd (never fresh)),
    ),
  )

  replaces : IsToldWith page_of HasNoStatus (gets load setting.held two_bytes) load outcome.Done
  replaces = (
    whole ∷ [],
    whole ∷ [],
    get_reading setting.held two_bytes,
    (
      (λ c failing. no_failure load setting.held c failing.0),
      (λ piece count is_cut. (reply.Got 200 None 2, (whole, at (whole ∷ []) 0 whole refl, refl, (refl, two_bytes, (refl, refl))))),
      (λ moves. absurd (never moves)),
      (λ fresh. absurd (never fresh)),
    ),
  )

  free_place : IsToldWith page_of HasNoStatus (gets fresh_load empty two_bytes) fresh_load outcome.Done
  free_place = (
    fresh_whole ∷ [],
    fresh_whole ∷ [],
    fresh_reading empty two_bytes,
    (
      (λ c failing. no_failure fresh_load empty c failing.0),
      (λ piece count is_cut. (reply.Got 200 None 2, (fresh_whole, at (fresh_whole ∷ []) 0 fresh_whole refl, refl, (refl, two_bytes, (refl, refl))))),
      (λ moves. absurd (never moves)),
      (λ fresh loads stood. elim stood [ inl there ↦ never (subst (λ o. IsSome o) (get-empty (slice_cmp nat_cmp) path) there) | inr other ↦ never other ]),
    ),
  )

  -- a job was given where something stood
  taken : (how : Outcome) (asked : Ask) (body : List ℕ) (limit size : ℕ) (coming : List Dispatched)
      → HasOutcome Shows HasNoStatus NeverFailed (with_files fresh_load setting.held) (made (given fresh_load setting.held op.Get mark.Success Finished two_bytes) asked body limit size ∷ []) coming 0 fresh_load how → ⊥
  taken outcome.Done asked body limit size coming how = how.3 refl refl (inl stands)
  taken (outcome.Copied why) asked body limit size coming how = never how.0
  taken (outcome.Unknown why) asked body limit size coming how = how.0.0.2.0
  taken (outcome.Failed why) asked body limit size coming how =
      let c = made (given fresh_load setting.held op.Get mark.Success Finished two_bytes) asked body limit size in
      how.3 refl refl (inl stands) c (at (c ∷ []) 0 c refl) refl
  taken outcome.Dry asked body limit size coming how = never how
  taken outcome.Skipped asked body limit size coming how =
      let c = made (given fresh_load setting.held op.Get mark.Success Finished two_bytes) asked body limit size in
      elim how.1 [ inl by_request ↦ download_upload by_request.1 | inr by_file ↦ by_file.3 c (at (c ∷ []) 0 c refl) refl ]

  taken_place : (how : Outcome) → IsRefusedWith page_of HasNoStatus (gets fresh_load setting.held two_bytes) fresh_load how
  taken_place how = however fresh_load setting.held op.Get mark.Success Finished two_bytes refl HasNoStatus how (λ asked body limit size coming schedule has_it. taken how asked body limit size coming has_it)

  -- a Get that brought too much fails
  bad_done : IsRefusedWith page_of HasNoStatus (gets load setting.held three_bytes) load outcome.Done
  bad_done = however load setting.held op.Get mark.Success Finished three_bytes refl HasNoStatus outcome.Done (λ asked body limit size coming schedule how.
      let c = made (given load setting.held op.Get mark.Success Finished three_bytes) asked body limit size in
      let is_whole = asks_whole asked body limit size coming setting.held three_bytes schedule in
      let came = split_of coming c (has coming c (Contains-permutation (c ∷ []) coming c schedule.is_coming (at (c ∷ []) 0 c refl))) in
      let last = (alone c coming schedule.is_coming came.front c came.back came.is).0 in
      how.0 c (
        (
          came.front,
          came.back,
          came.is,
          subst (λ (later : List Dispatched). IsCut Shows 2 c later (IsStopped (with_files load setting.held) (Some 0) ⊎ IsFailing Shows 2 (Some 0) (IsStopped (with_files load setting.held) (Some 0)) later) → ⊥) (sym last) (uncut c),
          (λ well. not_well is_whole.0 is_whole.1 c is_whole.3 (subst (λ (x : Ask). (of_class : Class) (said : List ℕ) → Shows x limit (talk_with Finished three_bytes) of_class said → FitsAsk c x of_class) is_whole.2 well.1)),
        ),
        refl,
      ))
    where
      uncut : (c : Dispatched) → IsCut Shows 2 c [] (IsStopped (with_files load setting.held) (Some 0) ⊎ IsFailing Shows 2 (Some 0) (IsStopped (with_files load setting.held) (Some 0)) []) → ⊥
      uncut c (inl again) = has [] again.0 again.1
      uncut c (inr stopped) = elim stopped.4 [ inl is ↦ never is | inr failing ↦ failing ]

      not_well : (b k : List ℕ) (c : Dispatched) → c.limit ≡ 2 → ((of_class : Class) (said : List ℕ) → Shows (ask.Get b k [] None) c.limit (talk_with Finished three_bytes) of_class said → FitsAsk c (ask.Get b k [] None) of_class) → ⊥
      not_well b k c limited fits = bad_fits ⊥ ((fits (class.Success (reply.Got 200 None 3)) three_bytes (refl, refl)).1 ∙ limited)

  -- ---- the copy

  abbrev copy_asks : Ask
  copy_asks = ask.Copy (98 ∷ []) (117 ∷ []) (98 ∷ []) (120 ∷ []) (1 ∷ [])

  copy_to : Target copied
  copy_to = record { bucket = 98 ∷ []; key = 117 ∷ []; is_dest = (refl, refl) }

  copy_from : Origin copied
  copy_from = record { bucket = 98 ∷ []; key = 120 ∷ []; is_source = (refl, refl) }

  abbrev copy_sent : Dispatched
  copy_sent = sent copied setting.held op.Copy mark.Refusal Closed denied copy_asks most_body

  copy_reading : IsReading page_of NeverFailed denied_copy copied (copy_sent ∷ []) (copy_sent ∷ [])
  unfolding copy_to copy_from
  copy_reading = reading copied setting.held op.Copy mark.Refusal Closed denied copy_asks most_body
      (copied, 2, 1, refl, inl (omega arith, refl, refl), refl, refl, (copy_to, copy_from, refl, refl, refl)) refl (other_op op.Copy op.Create refl) (other_op op.Copy op.Delete refl) refl never refl

  refusal_uncertain : mark.Refusal ≡ mark.Uncertain → ⊥
  refusal_uncertain e = cc

  copy_fails : (HasStatus : Ask → ℕ → Talk → ℕ → Type 0) (why : Cause) → (IsFirstFailure Shows HasStatus NeverFailed denied_copy.setting (copy_sent ∷ []) (copy_sent ∷ []) 0 copy_sent → FailsFor Shows HasStatus NeverFailed denied_copy.setting (copy_sent ∷ []) (copy_sent ∷ []) 0 copied why) → IsToldWith page_of HasStatus denied_copy copied (outcome.Failed why)
  copy_fails HasStatus why fails = (
    copy_sent ∷ [],
    copy_sent ∷ [],
    copy_reading,
    (
      none_decides copied setting.held op.Copy mark.Refusal Closed denied copy_asks most_body HasStatus mark.Success refusal_success,
      (λ left. none_decides copied setting.held op.Copy mark.Refusal Closed denied copy_asks most_body HasStatus mark.Uncertain refusal_uncertain left.0),
      fails (is_first copied setting.held op.Copy mark.Refusal Closed denied copy_asks most_body HasStatus (λ well. refusal_success well.0)),
      (λ fresh. absurd (never fresh)),
    ),
  )

  -- no status says so, and not the code either
  unchanged : (c : Dispatched) (asked : Ask) (limit : ℕ) (code message said : List ℕ) → Shows asked limit (talk_with Closed denied) (class.Refusal code message) said → (◌≡◌ {A = ℕ} 412 403) ⊎ (code ≡ codes "PreconditionFailed") → ⊥
  unchanged c asked limit code message said shows (inl status) = absurd (omega arith)
  unchanged c asked limit code message said shows (inr is) = not_precondition (sym (code_of denied code message shows.0) ∙ is)

  met : RequestCausesAreMet page_of
  met = record {
    bad_get = bad_get;
    replaces = replaces;
    free_place = free_place;
    changed = copy_fails (IsStatus 412) cause.Changed (λ first. inr (copy_sent, first, (tt, (denied, [], [], (refl, refl), inl refl))));
    denied = copy_fails (IsStatus 403) (cause.Service op.Copy denied [])
        (λ first. ((copy_sent, first, (refl, ([], (refl, refl)), (λ says. unchanged copy_sent copy_asks most_body says.1.0 says.1.1 says.1.2 says.1.3 says.1.4))), (λ skipped. never skipped.0)));
  }

  refused : RequestCausesAreRefused page_of
  refused = record {
    good_get = good_get;
    bad_done = bad_done;
    taken_place = taken_place;
    other_status = however copied setting.held op.Copy mark.Refusal Closed denied refl (IsStatus 403) (outcome.Failed cause.Changed) (λ asked body limit size coming schedule how. elim how.2 [
      | inl by_call ↦ by_call.1
      | inr by ↦
          let c = made (given copied setting.held op.Copy mark.Refusal Closed denied) asked body limit size in
          let says = by_it copied setting.held op.Copy mark.Refusal Closed denied (IsStatus 403) asked body limit size coming cause.Changed schedule by in
          unchanged c asked limit says.1.0 says.1.1 says.1.2 says.1.3 says.1.4
    ]);
    same_status = however copied setting.held op.Copy mark.Refusal Closed denied refl (IsStatus 412) (outcome.Failed (cause.Service op.Copy denied [])) (λ asked body limit size coming schedule how.
        let shown = by_it copied setting.held op.Copy mark.Refusal Closed denied (IsStatus 412) asked body limit size coming (cause.Service op.Copy denied []) schedule how.2.0 in
        shown.2 (tt, (denied, [], shown.1.0, shown.1.1, inl refl)));
  }

pub each_request_cause_is_met : EachRequestCauseIsMet
each_request_cause_is_met page_of = met page_of

pub each_request_cause_is_refused : EachRequestCauseIsRefused
each_request_cause_is_refused page_of = refused page_of
