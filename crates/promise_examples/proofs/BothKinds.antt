-- The plan of both kinds of task is carried out, and its trace is one that fits.
use Rattle.std.proofs.Common.{◌≡◌, ◌∙◌, ◌⊎◌, ◌+◌, ◌<◌, ◌≤◌, ◌==◌, ℕ, zero, suc, true, false, List, [], ◌∷◌, Some, None, Ok, refl, sym, ap, subst, inl, inr, Contains, filter, filter_map, length, take, slice_get, arith}
use Rattle.std.specs.Prelude.{codes, flat_map}
use Rattle.std.specs.FinMap.{insert}
use Rattle.std.proofs.lemmas.List.Sorted.{IsPermutation-refl}
use Rattle.s3_model.specs.declared.answers.Class.{Class}
use Rattle.s3_model.specs.declared.answers.Class.TheVariants as class
use Rattle.s3_model.specs.declared.answers.Listed.{Listed}
use Rattle.s3_model.specs.declared.answers.Reply.{Reply}
use Rattle.s3_model.specs.declared.answers.Reply.TheVariants as reply
use Rattle.s3_model.specs.declared.answers.Why.{Why}
use Rattle.s3_model.specs.declared.outcomes.Cause.TheVariants as cause
use Rattle.s3_model.specs.declared.outcomes.JobId.{JobId}
use Rattle.s3_model.specs.declared.outcomes.Outcome.{Outcome}
use Rattle.s3_model.specs.declared.outcomes.Outcome.TheVariants as outcome
use Rattle.s3_model.specs.declared.requests.Ask.{Ask}
use Rattle.s3_model.specs.declared.requests.Op.TheVariants as op
use Rattle.s3_model.specs.declared.tasks.Kind.TheVariants as kind
use Rattle.s3_model.specs.declared.tasks.Task.{Task}
use Rattle.s3_model.specs.declared.tries.Mark.TheVariants as mark
use Rattle.s3_model.specs.Talks.{Talk}
use Rattle.s3_service.specs.ServiceState.{HasBucket, objects_in}
use Rattle.s3_service.specs.Serves.{Answer, IsThere, Refused, Replied}
use Rattle.run_promise.specs.Carried.{IsCarried}
use Rattle.run_promise.specs.Dispatches.{FitsAsk, IsCut}
use Rattle.job_terms.specs.Dispatches.{Attempt, Dispatched}
use Rattle.run_promise.specs.Fits.{Fits, IsAnswered, Names, request_at, requests_of}
use Rattle.run_promise.specs.Outcomes.{HasOutcome, IsFirstFailure, SaysChanged, came_with}
use Rattle.run_promise.specs.Runs.{IsFitting, Run, moments}
use Rattle.run_promise.specs.Schedule.{IsBefore, IsDecided, IsFailed, IsSchedule, most_body}
use Rattle.job_terms.specs.Jobs.{job_of}
use Rattle.run_promise.specs.Traces.{External, IsTrace, Serve, TraceEvent, begun_in, events_of}
use Rattle.run_promise.specs.Truthful.{FitsShown, IsDest}
use Rattle.local_files.specs.Calls.{DropTemp, MakeTemp, Rename, WriteAt}
use Rattle.shared_lemmas.proofs.Clashes.{false_true as never}
use Rattle.shared_lemmas.proofs.Lists.{head_is}
use Rattle.world_laws.specs.SmallTransfers.{HadContent, HasSize}
use Rattle.world_laws.specs.Promises.{IsByRequests, IsCarriedOut, run_of}
use Rattle.world_laws.specs.Tasks.{HasSourceObject, MayBeNew}
use Rattle.world_laws.proofs.Downloads.{whole_tells}
use Rattle.world_laws.proofs.Faithful.{IsFaithful, faithful_with}
use Rattle.world_laws.proofs.Objects.{object_at-with_object, object_at-with_object_other}
use Rattle.world_laws.proofs.Promises.{run_is}
use Rattle.world_laws.proofs.ScheduleWitness.{limits_are_valid}
use Rattle.run_promise.specs.FileOutcomes.{HasFailedAct, IsByFiles, IsDestChanged, IsFailedAct, IsShownByCalls}
use Rattle.file_laws.specs.FileEnds.{HasFailedCall}
use Rattle.run_promise.specs.FileCalls.{AreWritten, HasFailedBefore, HasFailedDrop, IsBody, IsMade, IsRenamed, TaskCall}
use Rattle.file_laws.specs.PlanEnds.{HasPlannedSource, IsPlanCarriedOut}
use Rattle.file_laws.proofs.Keeping.{removal_downloads, upload_downloads, upload_removes}
use Rattle.promise_examples.specs.BothKinds.{BothKindsAreMet, IsMetByBoth, bucket, stored_key, first_key, second_key, source_path, first_path, first_temp, second_path, second_temp, removed_path, bytes, content, upload, first_load, second_load, limits, put_job, get_job, put, first_get, second_get, denied, put_talk, first_talk, second_talk, journal, with_bytes, removes, makes_first, writes_first, renames_first, stamps_first, makes_second, drops_second, calls, shown, start, stored, trace}
use Rattle.promise_examples.specs.Reading.{Reads, HasNoStatus, signed_body}
use Rattle.promise_examples.specs.Services.{object_of, one_bucket}
use Rattle.promise_examples.proofs.BothPlan.{s, last_task, no_task, object_is_no_file, task_numbers, of_plan, still, upload_pieces, first_pieces, second_pieces, to_upload, from_first, from_second, source_is, body_is, dests_apart, files_apart, other_length, call_run}
use Rattle.promise_examples.proofs.Carrying as carrying
use Rattle.promise_examples.proofs.Concrete.{Each, at, each, some_is}
use Rattle.promise_examples.proofs.Fitting as fitting
use Rattle.promise_examples.proofs.Honest.{IsInside, has_bucket, honest, one_bucket_is_faithful}
use Rattle.promise_examples.proofs.ManyCalls as many
use Rattle.promise_examples.proofs.Noting as noting
use Rattle.promise_examples.proofs.Readings.{names, refusal_success}
use Rattle.promise_examples.proofs.Repeats.{other_job}
use Rattle.promise_examples.proofs.Scheduling as scheduling
use Rattle.promise_examples.proofs.Scheduling.{other_op}
use Rattle.promise_examples.proofs.WillingBoth.{first_is_there as is_there, none_by_call, one_attempt, refusal_uncertain, success_uncertain, willing}

module _ (page_of : List ℕ → Listed) where
  abbrev Shows : Ask → ℕ → Talk → Class → List ℕ → Type 0
  Shows = Reads page_of

  abbrev Plans : List Dispatched → Type 0
  Plans planning = planning ≡ []

  -- ---- the jobs

  abbrev well : Talk → Attempt
  well talk = record { mark = mark.Success; talk = talk }

  abbrev job_sent : JobId → (given : ℕ) → Attempt → Ask → List ℕ → (limit size : ℕ) → Dispatched
  job_sent job given attempt asked body limit size = record {
    dispatch = record { job = job; lane = 0; given_at = given; came_at = Some (given + 1); earlier = 0; is_second = false; attempts = attempt ∷ [] };
    ask = asked;
    body = body;
    limit = limit;
    size = size;
  }

  abbrev put_sent : Dispatched
  put_sent = job_sent put_job 0 (well put_talk) put bytes most_body 2

  abbrev first_sent : Dispatched
  first_sent = job_sent (get_job 1) 2 (well first_talk) first_get [] 2 2

  abbrev refused_get : Attempt
  refused_get = record { mark = mark.Refusal; talk = second_talk }

  abbrev second_sent : Dispatched
  second_sent = job_sent (get_job 2) 4 refused_get second_get [] 1 1

  abbrev jobs : List Dispatched
  jobs = put_sent ∷ first_sent ∷ second_sent ∷ []

  -- ---- which failed

  -- the first Get was answered as it asked
  first_fits : (of_class : Class) (b : List ℕ) → Shows first_get 2 first_talk of_class b → FitsAsk first_sent first_get of_class
  first_fits (class.Success (reply.Got status range size)) b shows = subst (λ (said : Reply). FitsAsk first_sent first_get (class.Success said)) shows.0 (refl, refl)
  first_fits of_class b shows = tt

  failure : (failed : Dispatched) → IsFailed Shows s jobs failed → second_sent ≡ failed
  failure failed is_failed = scheduling.failures Shows s (λ (c : Dispatched). second_sent ≡ c) jobs
      (inr (inl (refl, λ shown_class b shows. tt)), (inr (inl (refl, first_fits)), (inr (inr refl), tt))) failed is_failed

  of_second : (failed : Dispatched) → IsFailed Shows s jobs failed → failed.dispatch.job.task ≡ Some 2
  of_second failed is_failed = sym (ap (λ (c : Dispatched). c.dispatch.job.task) (failure failed is_failed))

  no_failure : (n : ℕ) → (2 ≡ n → ⊥) → (c : Dispatched) → IsFailed Shows s jobs c × (c.dispatch.job.task ≡ Some n) → ⊥
  no_failure n apart c failing = task_numbers 2 n apart (sym (of_second c failing.0) ∙ failing.1)

  not_cut : (Stopped : Type 0) → IsCut Shows 1 second_sent [] Stopped → ⊥
  not_cut Stopped (inl again) = each (λ (c : Dispatched). c.dispatch.job ≡ get_job 2 → ⊥) [] tt again.0 again.1 again.2
  not_cut Stopped (inr cut) = let left = cut.3.4 in absurd (omega arith)

  second_fails : IsFailed Shows s jobs second_sent
  second_fails = (put_sent ∷ first_sent ∷ [], [], refl, (λ cut. not_cut _ cut), λ done. refusal_success done.0)

  -- ---- the schedule

  abbrev Asks : Dispatched → ℕ → Type 0
  Asks c n = scheduling.AsksFor Shows s Plans jobs jobs c n

  asks_put : Asks put_sent 0
  unfolding to_upload
  asks_put = (upload, 2, 1, refl, upload_pieces, refl, refl, (to_upload, refl, refl, body_is))

  asks_first : Asks first_sent 1
  unfolding from_first
  asks_first = (first_load, 2, 1, refl, first_pieces, refl, refl, (from_first, refl, refl, refl))

  asks_second : Asks second_sent 2
  unfolding from_second
  asks_second = (second_load, 1, 1, refl, second_pieces, refl, refl, (from_second, refl, refl, refl))

  no_create : (n : ℕ) (c : Dispatched) → Contains jobs c → c.dispatch.job ≡ job_of n op.Create 0 → ⊥
  no_create n = each (λ (c : Dispatched). c.dispatch.job ≡ job_of n op.Create 0 → ⊥) jobs
      ((λ same. other_op op.Put op.Create refl (ap (λ (job : JobId). job.op) same)), ((λ same. other_op op.Get op.Create refl (ap (λ (job : JobId). job.op) same)), ((λ same. other_op op.Get op.Create refl (ap (λ (job : JobId). job.op) same)), tt)))

  scheduled : IsSchedule Shows s Plans jobs jobs
  scheduled = scheduling.scheduled Shows s Plans jobs jobs (record {
    is_coming = IsPermutation-refl jobs;
    in_order = ((omega arith, (omega arith, tt)), ((omega arith, tt), (tt, tt)));
    asks = (asks_put, (asks_first, (asks_second, tt)));
    plans = refl;
    numbered = tt;
    one_by_one = tt;
    carried_out = refl;
    twice = (tt, (tt, (tt, tt)));
    seconds = (omega arith, (omega arith, (omega arith, tt)));
    stops = λ failed c is_failed of_task no_abort known same late.
        absurd (each (λ (d : Dispatched). 5 < d.dispatch.given_at → ⊥) jobs ((λ late. omega arith), ((λ late. omega arith), ((λ late. omega arith), tt))) c known
        (subst (λ (d : Dispatched). IsBefore d.dispatch.came_at c.dispatch.given_at) (sym (failure failed is_failed)) late));
    no_abort = (refl, (refl, (refl, tt)));
    completes = λ n id end ended created. absurd (no_create n created.0 created.1 created.2);
    moves_last = (
      (λ n task of_task at_n moves deletes. absurd (other_op op.Put op.Delete refl deletes)),
      ((λ n task of_task at_n moves deletes. absurd (other_op op.Get op.Delete refl deletes)), ((λ n task of_task at_n moves deletes. absurd (other_op op.Get op.Delete refl deletes)), tt)),
    );
  })

  -- ---- the wires

  first_lane : (lane : ℕ) → lane < 1 → carrying.IsLane page_of s jobs shown.logs shown.notes jobs lane
  first_lane zero used = record {
    in_turn = (
      ((λ place come. let is : 3 ≡ place = some_is 3 place come in omega arith), ((λ place come. let is : 5 ≡ place = some_is 5 place come in omega arith), tt)),
      (((λ place come. let is : 5 ≡ place = some_is 5 place come in omega arith), tt), (tt, tt)),
    );
    gained = refl;
    noted = noting.first page_of (noting.nth 1 put_sent (well put_talk)) 1 (noting.nth 1 first_sent (well first_talk) ∷ noting.nth 1 second_sent refused_get ∷ []) _ refl (refl, refl, refl)
        (noting.first page_of (noting.nth 1 first_sent (well first_talk)) 2 (noting.nth 1 second_sent refused_get ∷ []) _ refl (refl, refl, refl)
        (noting.first page_of (noting.nth 1 second_sent refused_get) 3 [] _ refl (refl, refl, refl) (noting.done page_of)));
  }
  first_lane (suc lane) used = absurd (omega arith)

  wires : carrying.IsWritten page_of s jobs journal shown.logs shown.notes jobs
  wires = record {
    shown = refl;
    comes = ((1, mark.Success ∷ [], refl, refl, refl), ((3, mark.Success ∷ [], refl, refl, refl), ((5, mark.Refusal ∷ [], refl, refl, refl), tt)));
    inside = (omega arith, (omega arith, (omega arith, tt)));
    unused = λ lane beyond. (carrying.none_in _ lane beyond, carrying.none_in _ lane beyond);
    known = (tt, ((put_sent, at jobs 0 put_sent refl, refl), (tt, ((first_sent, at jobs 1 first_sent refl, refl), (tt, ((second_sent, at jobs 2 second_sent refl, refl), tt))))));
    lanes = first_lane;
    marks = ((refl, tt), ((refl, tt), ((refl, tt), tt)));
    again = (((λ more. absurd (omega arith)), tt), (((λ more. absurd (omega arith)), tt), (((λ more. absurd (omega arith)), tt), tt)));
    given_again = (tt, (tt, (tt, tt)));
    at_most = (omega arith, (omega arith, (omega arith, tt)));
    ends = ((λ goes. absurd (never goes)), ((λ goes. absurd (never goes)), ((λ goes. absurd (never goes)), tt)));
  }

  carried : IsCarried Shows signed_body [] 80 s journal shown.logs shown.notes jobs jobs
  carried = carrying.carried page_of s jobs journal shown.logs shown.notes jobs wires

  -- ---- the calls

  in_first_temp : (front : List TaskCall) → Contains front makes_first → (temp : List ℕ) → first_temp ≡ temp → IsMade front 1 temp
  in_first_temp front known temp e = (makes_first, known, refl, first_path, ap (λ (t : List ℕ). MakeTemp first_path (Ok t)) e)

  first_body : (task : Task) → slice_get s.tasks 1 ≡ Some task → IsBody Shows s jobs 1 task 4 0 content
  first_body task is = subst (λ (t : Task). IsBody Shows s jobs 1 t 4 0 content) (some_is first_load task is) (record {
    get = first_sent;
    known = at jobs 1 first_sent refl;
    number = 0;
    is_get = refl;
    came = omega arith;
    well = (refl, first_fits);
    attempt = well first_talk;
    is_last = refl;
    status = 200;
    told = None;
    size = 2;
    shows = (refl, refl);
    range = (2, 1, first_pieces, (refl, refl, refl));
  })

  first_written : (task : Task) → slice_get s.tasks 1 ≡ Some task → AreWritten s (removes ∷ makes_first ∷ writes_first ∷ []) 1 task first_temp
  first_written task is = subst (λ (t : Task). AreWritten s (removes ∷ makes_first ∷ writes_first ∷ []) 1 t first_temp) (some_is first_load task is) (record {
    piece = 2;
    count = 1;
    pieces = first_pieces;
    each = λ number from length_of range. (writes_first, at (removes ∷ makes_first ∷ writes_first ∷ []) 2 writes_first refl, refl, content, ap (λ (k : ℕ). WriteAt first_temp k content true) (sym range.1));
  })

  -- before the refusal of its Get came, and of the other tasks nothing failed
  undisturbed : (n before : ℕ) → ((2 ≡ n → ⊥) ⊎ (before ≤ 5)) → (IsBefore s.cancelled_at before ⊎ HasFailedBefore Shows s jobs n before) → ⊥
  undisturbed n before how (inl cancelled) = cancelled
  undisturbed n before (inl apart) (inr failed) = task_numbers 2 n apart (sym (of_second failed.0 failed.1) ∙ failed.2)
  undisturbed n before (inr early) (inr failed) =
      let late : 5 < before = subst (λ (d : Dispatched). IsBefore d.dispatch.came_at before) (sym (failure failed.0 failed.1)) failed.3 in
      omega arith

  no_upload : (task n_task : Task) → Some n_task ≡ Some task → (n_task.kind ≡ kind.Upload → ⊥) → task.kind ≡ kind.Upload → ⊥
  no_upload task n_task is none upload_kind = none (ap (λ (t : Task). t.kind) (some_is n_task task is) ∙ upload_kind)

  kept : many.AreKept Shows s shown.excused jobs jobs calls
  kept = record {
    named = (
      (last_task, refl, refl),
      ((first_load, refl, refl), ((first_load, refl, tt), ((first_load, refl, refl), ((first_load, refl, (refl, refl)), ((second_load, refl, refl), ((second_load, refl, tt), tt)))))),
    );
    in_order = (
      (omega arith, (omega arith, (omega arith, (omega arith, (omega arith, (omega arith, tt)))))),
      (
        (omega arith, (omega arith, (omega arith, (omega arith, (omega arith, tt))))),
        ((omega arith, (omega arith, (omega arith, (omega arith, tt)))), ((omega arith, (omega arith, (omega arith, tt))), ((omega arith, (omega arith, tt)), ((omega arith, tt), (tt, tt))))),
      ),
    );
    carried_out = refl;
    order = (
      tt,
      (
        ((λ same. absurd (omega arith)), tt),
        (
          ((λ same. absurd (omega arith)), ((λ same. refl), tt)),
          (
            ((λ same. absurd (omega arith)), ((λ same. refl), ((λ same. tt), tt))),
            (
              ((λ same. absurd (omega arith)), ((λ same. tt), ((λ same. tt), ((λ same. tt), tt)))),
              (
                ((λ same. absurd (omega arith)), ((λ same. absurd (omega arith)), ((λ same. absurd (omega arith)), ((λ same. absurd (omega arith)), ((λ same. absurd (omega arith)), tt))))),
                (((λ same. absurd (omega arith)), ((λ same. absurd (omega arith)), ((λ same. absurd (omega arith)), ((λ same. absurd (omega arith)), ((λ same. absurd (omega arith)), ((λ same. refl), tt)))))), tt),
              ),
            ),
          ),
        ),
      ),
    );
    stops = (
      (λ stopped. absurd (undisturbed 3 0 (inl (λ e. omega arith)) stopped)),
      (
        (λ stopped. absurd (undisturbed 1 2 (inl (λ e. omega arith)) stopped)),
        (
          (λ stopped. absurd (undisturbed 1 4 (inl (λ e. omega arith)) stopped)),
          ((λ stopped. absurd (undisturbed 1 4 (inl (λ e. omega arith)) stopped)), ((λ stopped. tt), ((λ stopped. absurd (undisturbed 2 4 (inr (omega arith)) stopped)), ((λ stopped. tt), tt)))),
        ),
      ),
    );
    made = (
      tt,
      (
        tt,
        (
          in_first_temp (removes ∷ makes_first ∷ []) (at (removes ∷ makes_first ∷ []) 1 makes_first refl) first_temp refl,
          (
            in_first_temp (removes ∷ makes_first ∷ writes_first ∷ []) (at (removes ∷ makes_first ∷ writes_first ∷ []) 1 makes_first refl) first_temp refl,
            (
              tt,
              (
                tt,
                (
                  (
                    makes_second,
                    at (removes ∷ makes_first ∷ writes_first ∷ renames_first ∷ stamps_first ∷ makes_second ∷ []) 5 makes_second refl,
                    refl,
                    second_path,
                    refl,
                  ),
                  tt,
                ),
              ),
            ),
          ),
        ),
      ),
    );
    made_first = (
      (λ n number same. absurd (other_op op.Put op.Get refl (ap (λ (job : JobId). job.op) same))),
      (
        (λ n number same. (makes_first, at calls 1 makes_first refl, some_is 1 n (ap (λ (job : JobId). job.task) same), first_path, first_temp, refl, omega arith)),
        ((λ n number same. (makes_second, at calls 5 makes_second refl, some_is 2 n (ap (λ (job : JobId). job.task) same), second_path, second_temp, refl, omega arith)), tt),
      ),
    );
    writes = ((λ task is. tt), ((λ task is. tt), (first_body, ((λ task is. tt), ((λ task is. tt), ((λ task is. tt), ((λ task is. tt), tt)))))));
    renames = ((λ task is. tt), ((λ task is. tt), ((λ task is. tt), (first_written, ((λ task is. tt), ((λ task is. tt), ((λ task is. tt), tt)))))));
    stamps = (tt, (tt, (tt, ((stamps_first, at calls 4 stamps_first refl, refl, first_path, 5, true, refl), (tt, (tt, (tt, tt)))))));
    stamps_last = (
      tt,
      (
        tt,
        (
          tt,
          (
            tt,
            (
              (
                renames_first,
                at (removes ∷ makes_first ∷ writes_first ∷ renames_first ∷ []) 3 renames_first refl,
                refl,
                first_temp,
                first_path,
                refl,
              ),
              (tt, (tt, tt)),
            ),
          ),
        ),
      ),
    );
    warned = (tt, (tt, (tt, (tt, (tt, (tt, ((refl, inl (at (second_temp ∷ []) 0 second_temp refl)), tt)))))));
    untimed_only = λ path known. absurd (each (λ (p : List ℕ). ⊥) [] tt path known);
    drops = (
      tt,
      (
        inl (renames_first, at calls 3 renames_first refl, refl, first_temp, first_path, refl),
        (tt, (tt, (tt, (inr (drops_second, at calls 6 drops_second refl, refl, second_temp, false, refl), (tt, tt))))),
      ),
    );
    left_only = λ temp known.
        each (λ (t : List ℕ). HasFailedDrop calls t) (second_temp ∷ []) ((drops_second, at calls 6 drops_second refl, refl), tt) temp known;
    moves_last = (
      (λ task is upload_kind. absurd (no_upload task last_task is (λ e. upload_removes (sym e)) upload_kind)),
      (
        (λ task is upload_kind. absurd (no_upload task first_load is (λ e. upload_downloads (sym e)) upload_kind)),
        (
          (λ task is upload_kind. absurd (no_upload task first_load is (λ e. upload_downloads (sym e)) upload_kind)),
          (
            (λ task is upload_kind. absurd (no_upload task first_load is (λ e. upload_downloads (sym e)) upload_kind)),
            (
              (λ task is upload_kind. absurd (no_upload task first_load is (λ e. upload_downloads (sym e)) upload_kind)),
              (
                (λ task is upload_kind. absurd (no_upload task second_load is (λ e. upload_downloads (sym e)) upload_kind)),
                ((λ task is upload_kind. absurd (no_upload task second_load is (λ e. upload_downloads (sym e)) upload_kind)), tt),
              ),
            ),
          ),
        ),
      ),
    );
    deletes_last = (
      (λ n task of is_delete is_task load. absurd (other_op op.Put op.Delete refl is_delete)),
      ((λ n task of is_delete is_task load. absurd (other_op op.Get op.Delete refl is_delete)), ((λ n task of is_delete is_task load. absurd (other_op op.Get op.Delete refl is_delete)), tt)),
    );
  }

  -- no call that carries out a task failed
  no_act : (n : ℕ) → HasFailedAct calls n → ⊥
  no_act n failed = each (λ (c : TaskCall). IsFailedAct c.step.call → ⊥) calls ((λ h. h), ((λ h. h), ((λ h. h), ((λ h. h), ((λ h. h), ((λ h. h), ((λ h. h), tt))))))) failed.0 failed.1 failed.3

  not_renamed : IsRenamed calls 2 → ⊥
  not_renamed re = each (λ (c : TaskCall). c.task ≡ 2 → c.step.call ≡ Rename re.3 re.4 None → ⊥) calls (
    (λ of e. absurd (omega arith)),
    ((λ of e. absurd (omega arith)), ((λ of e. absurd (omega arith)), ((λ of e. absurd (omega arith)), ((λ of e. absurd (omega arith)), ((λ of e. made e), ((λ of e. dropped e), tt)))))),
  )
      re.0 re.1 re.2 re.5
    where
      made : MakeTemp second_path (Ok second_temp) ≡ Rename re.3 re.4 None → ⊥
      made e = cc

      dropped : DropTemp second_temp false ≡ Rename re.3 re.4 None → ⊥
      dropped e = cc

  -- ---- the outcomes

  -- what holds of each task with its outcome
  of_outcomes : (P : ℕ → Task → Outcome → Type 0) → P 0 upload outcome.Done → P 1 first_load outcome.Done → P 2 second_load (outcome.Failed (cause.Service op.Get denied [])) → P 3 last_task outcome.Done
      → (n : ℕ) (task : Task) (how : Outcome) → slice_get s.tasks n ≡ Some task → slice_get shown.outcomes n ≡ Some how → P n task how
  of_outcomes P a b c d n task how is_task at_how = of_plan (λ k t. slice_get shown.outcomes k ≡ Some how → P k t how)
      (λ e. subst (P 0 upload) (some_is outcome.Done how e) a)
      (λ e. subst (P 1 first_load) (some_is outcome.Done how e) b)
      (λ e. subst (P 2 second_load) (some_is (outcome.Failed (cause.Service op.Get denied [])) how e) c)
      (λ e. subst (P 3 last_task) (some_is outcome.Done how e) d)
      n task is_task at_how

  abbrev Caused : ℕ → Task → Outcome → Type 0
  Caused n task how = HasOutcome Shows HasNoStatus (HasFailedCall calls) s jobs jobs n task how

  first_decided : IsDecided s first_load 1 (came_with Shows HasNoStatus (HasFailedCall calls) s jobs jobs)
  first_decided piece count pieces = (reply.Got 200 None 2, (first_sent, at jobs 1 first_sent refl, refl, (refl, content, (refl, refl))))

  first_failure : IsFirstFailure Shows HasNoStatus (HasFailedCall calls) s jobs jobs 2 second_sent
  first_failure = ((second_fails, refl), λ other failing. inl (sym (ap (λ (c : Dispatched). c.dispatch) (failure other failing.0))))

  not_changed : SaysChanged Shows HasNoStatus second_sent refused_get → ⊥
  not_changed changed = elim changed.1.4 [
    | inl none ↦ none
    | inr code ↦ other_length (codes "PreconditionFailed") denied 18 12 refl refl (λ e. omega arith) (sym code ∙ code_is changed.1.0 changed.1.1 changed.1.3.0)
  ]
    where
      code_is : (code message : List ℕ) → class.Refusal denied [] ≡ class.Refusal code message → code ≡ denied
      code_is code message e = cc

  causes : (n : ℕ) (task : Task) (how : Outcome) → slice_get s.tasks n ≡ Some task → slice_get shown.outcomes n ≡ Some how → Caused n task how
  causes = of_outcomes Caused
      ((λ c failing. no_failure 0 (λ e. omega arith) c failing), (put_sent, at jobs 0 put_sent refl, (tt, refl), (0, well put_talk, refl, refl)), (λ moves. absurd (never moves)), (λ fresh. absurd (never fresh)))
      ((λ c failing. no_failure 1 (λ e. omega arith) c failing), first_decided, (λ moves. absurd (never moves)), (λ fresh. absurd (never fresh))) (
        (λ decided. decided.2.0),
        (λ left_open. left_open.0.2.0),
        ((second_sent, first_failure, (refl, (denied, (refl, refl)), not_changed)), (λ skipped. upload_downloads (sym skipped.1))),
        (λ fresh. absurd (never fresh)),
      )
      ((λ c failing. no_failure 3 (λ e. omega arith) c failing), tt, (λ moves. absurd (never moves)), (λ fresh. absurd (never fresh)))

  over_wires : IsCarriedOut Shows HasNoStatus Plans (HasFailedCall calls) signed_body [] 80 shown jobs jobs
  over_wires = record {
    schedule = scheduled;
    carried = carried;
    outcomes = inl refl;
    causes = causes;
    questions = λ c known none. absurd (each (λ (d : Dispatched). d.dispatch.job.task ≡ None → ⊥) jobs (no_task, (no_task, (no_task, tt))) c known none);
    apart = record { destinations = dests_apart; sources = λ m n a b of_bucket of_key is_a is_b moves is_source is_dest. still m a is_a moves };
    one_class = λ n task is_task fresh. absurd (of_plan (λ k t. t.fresh ≡ true → ⊥) never never never never n task is_task fresh);
    threshold = omega arith;
    limits = limits_are_valid;
  }

  -- ---- the source of the download, over every honest trace that fits

  module _ (run : Run) (same : run.dispatched ≡ jobs) (of_shown : FitsShown Shows shown run) where
    abbrev alike : Run
    alike = run_of shown jobs run.start run.trace

    fits_alike : IsFitting Shows limits alike (IsDest s.tasks)
    fits_alike = subst (λ (r : Run). IsFitting Shows limits r (IsDest s.tasks)) (run_is shown jobs run same of_shown.of_journal of_shown.of_page) of_shown.fitting

    told : HadContent (moments alike) bucket first_key content content
    told = whole_tells Shows limits alike bucket first_key content content
        (record {
          runs = fits_alike.runs;
          honest = record { one_content = fits_alike.honest.one_content; not_written = λ b k object happened none. none; not_removed = λ b k happened none. none };
          fits = fits_alike.fits;
        })
        (record {
          get = first_sent;
          known = at jobs 1 first_sent refl;
          is_get = refl;
          come = (3, mark.Success ∷ [], refl, refl);
          succeeded = record { place = 0; attempt = well first_talk; reply = reply.Got 200 None 2; bytes = content; is_attempt = refl; shows = (refl, refl) };
          is_body = refl;
        })

    sizes : HasSize (moments run) bucket first_key content 2
    sizes of_bytes had =
        let same_bytes = of_shown.fitting.honest.one_content told.0 had.0 bucket first_key told.1 had.1 told.2 had.2 told.3.held had.3.held (told.3.etag ∙ sym had.3.etag) in
        ap length (sym had.4 ∙ sym same_bytes ∙ told.4)

    got_first : HasSourceObject (moments run) first_load
    got_first = (bucket, first_key, refl, sizes)

  -- ---- the plan is carried out

  carried_out : IsPlanCarriedOut Shows HasNoStatus Plans (HasFailedCall calls) signed_body [] 80 shown jobs jobs calls
  carried_out = record {
    over_wires = over_wires;
    over_files = record {
      told = refl;
      keep = record { keep = many.all_keep Shows s shown.excused jobs jobs calls kept; runs = call_run; apart = files_apart };
      held_after = refl;
      decided = of_outcomes (λ n task how. IsByFiles task → IsShownByCalls how (IsDestChanged task.kind calls n) (HasFailedAct calls n))
          (λ by. absurd (object_is_no_file bucket stored_key by.path by.is_dest))
          (λ by. ((renames_first, at calls 3 renames_first refl, refl, first_temp, first_path, refl), tt))
          (λ by. (not_renamed, no_act 2))
          (λ by. ((removes, at calls 0 removes refl, refl, removed_path, refl), tt));
      moved = λ n task how path move at_how. absurd (still n task move.0 move.1);
    };
    tasks = of_plan (λ n task. IsByRequests task ⊎ IsByFiles task)
        (inl (record { bucket = bucket; key = stored_key; is_dest = refl; decided = tt; keeps = λ removal. refl }))
        (inr (record { path = first_path; is_dest = refl; decided = inl refl; from = λ load. (bucket, first_key, refl); keeps = λ removal. refl }))
        (inr (record { path = second_path; is_dest = refl; decided = inl refl; from = λ load. (bucket, second_key, refl); keeps = λ removal. refl }))
        (inr (record { path = removed_path; is_dest = refl; decided = inr refl; from = λ load. absurd (removal_downloads load); keeps = λ removal. refl }));
    counted = λ n task is_task by. ((λ act. absurd (no_act n act)), (λ is. absurd (never is)));
    sources = λ run same of_shown. of_outcomes (λ n task how. MayBeNew how → HasPlannedSource s (moments run) task task.kind)
        (λ may. (source_path, with_bytes bytes, refl, source_is, refl)) (λ may. got_first run same of_shown) (λ may. absurd may) (λ may. tt);
  }

  -- ---- the trace

  there : HasBucket start bucket
  there = has_bucket (one_bucket bucket) bucket (insert (objects_in (one_bucket bucket) bucket) first_key (object_of content))

  first_is_there : IsThere stored bucket first_key content (object_of content)
  first_is_there = record {
    held = object_at-with_object_other start bucket stored_key (object_of bytes) bucket first_key apart ∙ object_at-with_object (one_bucket bucket) bucket first_key (object_of content);
    etag = refl;
  }
    where
      apart : (bucket ≡ bucket) × (stored_key ≡ first_key) → ⊥
      apart same = let byte : ◌≡◌ {A = ℕ} 117 120 = head_is 117 120 [] [] same.1 in omega arith

  runs : IsTrace limits [] start trace
  runs = (
    refl,
    (
      refl,
      (
        ((0, omega arith, refl), (there, (λ fresh. absurd (never fresh)), (object_of bytes, refl, refl))),
        (
          refl,
          (
            refl,
            (
              refl,
              (
                ((0, omega arith, refl), (object_of content, first_is_there, (refl, refl, refl), refl)),
                (refl, (refl, (refl, (((0, omega arith, refl), (refl, tt)), (refl, tt))))),
              ),
            ),
          ),
        ),
      ),
    ),
  )

  start_is : IsFaithful start
  start_is = faithful_with (one_bucket bucket) bucket first_key content (one_bucket_is_faithful bucket)

  stored_is : IsFaithful stored
  stored_is = faithful_with start bucket stored_key bytes start_is

  put_named : (shown_class : Class) (b : List ℕ) → Shows put most_body put_talk shown_class b → Names shown_class b (Replied reply.Stored [])
  put_named = names page_of put most_body put_talk (Replied reply.Stored []) (reply.Stored, refl, refl)

  first_named : (shown_class : Class) (b : List ℕ) → Shows first_get 2 first_talk shown_class b → Names shown_class b (Replied (reply.Got 200 None 2) content)
  first_named = names page_of first_get 2 first_talk (Replied (reply.Got 200 None 2) content) (reply.Got 200 None 2, refl, refl)

  second_named : (shown_class : Class) (b : List ℕ) → Shows second_get 1 second_talk shown_class b → Names shown_class b (Refused denied)
  second_named = names page_of second_get 1 second_talk (Refused denied) refl

  answered : (k : ℕ) (c : Dispatched) (attempt : Attempt) (answer : Answer) → slice_get jobs k ≡ Some c → slice_get c.dispatch.attempts 0 ≡ Some attempt
      → ((shown_class : Class) (b : List ℕ) → Shows c.ask c.limit attempt.talk shown_class b → Names shown_class b answer) → IsAnswered Shows None jobs (request_at c 0) answer
  answered k c attempt answer known is named = record { of = c; known = at jobs k c known; place = 0; attempt = attempt; is_attempt = is; is_sent = refl; names = λ shown b shows certain. named shown b shows }

  abbrev events : List TraceEvent
  events = events_of trace

  served_in_front : (n k : ℕ) (c : Dispatched) (attempt : Attempt) (answer : Answer) → slice_get (take n events) k ≡ Some (Serve (request_at c 0) answer)
      → ((shown_class : Class) (b : List ℕ) → Shows c.ask c.limit attempt.talk shown_class b → Names shown_class b answer) → fitting.IsServed Shows jobs (take n events) c 0 attempt
  served_in_front n k c attempt answer is named shown_class b shows certain = (answer, at (take n events) k (Serve (request_at c 0) answer) is, named shown_class b shows)

  begins : (lane : ℕ) → filter_map (begun_in lane) events ≡ flat_map requests_of (filter (λ (c : Dispatched). c.dispatch.lane == lane) jobs)
  begins zero = refl
  begins (suc lane) =
      let a : (suc lane == 0) ≡ false = grind arith in
      let b : (0 == suc lane) ≡ false = grind arith in
      rw (a, b) refl

  fits : Fits Shows None events journal jobs
  fits = fitting.fits Shows jobs events journal refl begins
      (refl, (tt, (tt, (tt, (refl, (tt, (tt, (tt, (refl, (tt, (tt, (tt, tt))))))))))))
      (tt, (tt, (tt, (refl, (tt, (tt, (tt, (refl, (tt, (tt, (tt, (refl, tt))))))))))))
      (((λ same. other_job put_job (get_job 1) refl same.0), ((λ same. other_job put_job (get_job 2) refl same.0), tt)), (((λ same. other_job (get_job 1) (get_job 2) refl same.0), tt), (tt, tt))) (
        tt,
        (
          tt,
          (
            answered 0 put_sent (well put_talk) (Replied reply.Stored []) refl refl put_named,
            (
              tt,
              (
                tt,
                (
                  tt,
                  (
                    answered 1 first_sent (well first_talk) (Replied (reply.Got 200 None 2) content) refl refl first_named,
                    (tt, (tt, (tt, (answered 2 second_sent refused_get (Refused denied) refl refl second_named, (tt, tt))))),
                  ),
                ),
              ),
            ),
          ),
        ),
      ) (
        tt,
        (
          tt,
          (
            tt,
            (
              ((served_in_front 3 2 put_sent (well put_talk) (Replied reply.Stored []) refl put_named, tt), tt),
              (
                tt,
                (
                  tt,
                  (
                    tt,
                    (
                      ((served_in_front 7 6 first_sent (well first_talk) (Replied (reply.Got 200 None 2) content) refl first_named, tt), tt),
                      (tt, (tt, (tt, (((served_in_front 11 10 second_sent refused_get (Refused denied) refl second_named, tt), tt), tt)))),
                    ),
                  ),
                ),
              ),
            ),
          ),
        ),
      )

  -- ---- a service that does what it may

  abbrev IsCertainIn : Dispatched → Type 0
  IsCertainIn c = (place : ℕ) (attempt : Attempt) (why : Why) (b : List ℕ) → slice_get c.dispatch.attempts place ≡ Some attempt → Shows c.ask c.limit attempt.talk (class.Uncertain why) b → ⊥

  certain_by : (c : Dispatched) (only : Attempt) → c.dispatch.attempts ≡ only ∷ [] → ((why : Why) (b : List ℕ) → Shows c.ask c.limit only.talk (class.Uncertain why) b → ⊥) → IsCertainIn c
  certain_by c only is never_shown place attempt why b at_place shows =
      let same = one_attempt only attempt place (subst (λ (xs : List Attempt). slice_get xs place ≡ Some attempt) is at_place) in
      never_shown why b (subst (λ (a : Attempt). Shows c.ask c.limit a.talk (class.Uncertain why) b) (sym same) shows)

  all_certain : Each IsCertainIn jobs
  all_certain = (
    certain_by put_sent (well put_talk) refl (λ why b shows. success_uncertain reply.Stored why shows.0),
    (
      certain_by first_sent (well first_talk) refl (λ why b shows. success_uncertain (reply.Got 200 None 2) why shows.0),
      (certain_by second_sent refused_get refl (λ why b shows. refusal_uncertain denied [] why shows.0), tt),
    ),
  )

  met : IsMetByBoth page_of
  met = record {
    dispatched = jobs;
    carried_out = carried_out;
    fitting = record {
      runs = runs;
      honest = honest start trace
          (start_is, (start_is, (start_is, (stored_is, (stored_is, (stored_is, (stored_is, (stored_is, (stored_is, (stored_is, (stored_is, (stored_is, (stored_is, tt)))))))))))))
          (tt, (tt, (tt, (tt, (tt, (tt, (tt, (tt, (tt, (tt, (tt, (tt, tt)))))))))))) (IsDest s.tasks);
      fits = fits;
    };
    whole = ([], refl, refl);
    willing = willing;
    certain = λ c place attempt why b known at shows. each IsCertainIn jobs all_certain c known place attempt why b at shows;
    alone = λ write happened. each IsInside events (tt, (tt, (tt, (tt, (tt, (tt, (tt, (tt, (tt, (tt, (tt, (tt, tt)))))))))))) (External write) happened;
    counted = λ n why at failed. absurd (none_by_call n why at failed);
    there = is_there;
  }

pub both_kinds_are_met : BothKindsAreMet
both_kinds_are_met page_of = met page_of
