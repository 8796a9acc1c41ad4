-- A download whose source is moved meets every definition.
use Rattle.std.proofs.Common.{◌≡◌, ◌∙◌, ◌⊎◌, ◌==◌, ◌<◌, ◌≤◌, ℕ, zero, suc, true, false, List, [], ◌∷◌, Option, Some, None, Ok, refl, sym, ap, subst, inl, inr, filter, filter_map, take, slice_get, map, Contains, arith}
use Rattle.std.specs.Prelude.{flat_map}
use Rattle.std.specs.Cmp.Lexicographic.{nat_list_cmp_total, slice_cmp}
use Rattle.std.specs.Ordering.{nat_cmp}
use Rattle.std.specs.FinMap.{empty, get, get-empty, insert, remove}
use Rattle.std.proofs.lemmas.List.Sorted.{IsPermutation-refl}
use Rattle.s3_model.specs.declared.answers.Class.{Class}
use Rattle.s3_model.specs.declared.answers.Class.TheVariants as class
use Rattle.s3_model.specs.declared.answers.Listed.{Listed}
use Rattle.s3_model.specs.declared.answers.Reply.{Reply}
use Rattle.s3_model.specs.declared.answers.Reply.TheVariants as reply
use Rattle.s3_model.specs.declared.outcomes.Event.{Event}
use Rattle.s3_model.specs.declared.outcomes.JobId.{JobId}
use Rattle.s3_model.specs.declared.outcomes.Outcome.{Outcome}
use Rattle.s3_model.specs.declared.outcomes.Outcome.TheVariants as outcome
use Rattle.s3_model.specs.declared.places.Place.{Place}
use Rattle.s3_model.specs.declared.places.Place.TheVariants as place
use Rattle.s3_model.specs.declared.requests.Ask.{Ask}
use Rattle.s3_model.specs.declared.requests.Op.TheVariants as op
use Rattle.s3_model.specs.declared.tasks.Kind.TheVariants as kind
use Rattle.s3_model.specs.declared.tasks.Task.{Task}
use Rattle.s3_model.specs.declared.tries.Mark.TheVariants as mark
use Rattle.s3_model.specs.Files.{HeldFile}
use Rattle.s3_model.specs.Maps.{MapOf}
use Rattle.s3_model.specs.Parts.{HasPieces}
use Rattle.s3_model.specs.Talks.{Talk}
use Rattle.s3_service.specs.ServiceState.{HasBucket, objects_in}
use Rattle.s3_service.specs.Serves.{Answer, IsThere, Replied}
use Rattle.job_terms.specs.Buffers.{KeepsBuffers, buffers_out}
use Rattle.job_terms.specs.Dispatches.{Attempt, Dispatch, Dispatched, dispatches}
use Rattle.job_terms.specs.Jobs.{Origin, job_of}
use Rattle.local_files.specs.Calls.{IsCallRun, IsTempFor, MakeTemp, Rename, WriteAt}
use Rattle.run_promise.specs.Carried.{IsCarried}
use Rattle.run_promise.specs.Dispatches.{FitsAsk}
use Rattle.run_promise.specs.FileCalls.{AreFileCalls, AreFilesApart, AreWritten, HasFailedBefore, IsBody, IsMade, TaskCall, steps_of}
use Rattle.run_promise.specs.FileOutcomes.{HasFailedAct, IsFailedAct}
use Rattle.run_promise.specs.Fits.{Fits, IsAnswered, Names, request_at, requests_of}
use Rattle.run_promise.specs.Outcomes.{HasOutcome}
use Rattle.run_promise.specs.Schedule.{IsBefore, IsDecided, IsFailed, IsSchedule, gained_before, most_body}
use Rattle.run_promise.specs.Traces.{IsTrace, TraceEvent, begun_in, events_of}
use Rattle.run_promise.specs.Truthful.{IsDest}
use Rattle.shared_lemmas.proofs.Clashes.{false_true as never, none_is_some, some_is}
use Rattle.shared_lemmas.proofs.Maps.{get-insert_same, text_exact}
use Rattle.world_laws.proofs.Faithful.{IsFaithful, faithful_with, faithful_without}
use Rattle.world_laws.proofs.Objects.{object_at-with_object}
use Rattle.world_laws.proofs.ScheduleWitness.{one_task}
use Rattle.file_laws.proofs.Keeping.{removal_downloads, upload_downloads}
use Rattle.promise_examples.specs.BothKinds.{with_bytes}
use Rattle.promise_examples.specs.Reading.{HasNoStatus, NeverFailed, Reads, signed_body}
use Rattle.promise_examples.specs.Services.{object_of, one_bucket}
use Rattle.promise_examples.proofs.BothPlan.{other_length}
use Rattle.promise_examples.proofs.Carrying as carrying
use Rattle.promise_examples.proofs.Concrete.{at, each, front_of}
use Rattle.promise_examples.proofs.Fitting as fitting
use Rattle.promise_examples.proofs.Honest.{has_bucket, honest, one_bucket_is_faithful}
use Rattle.promise_examples.proofs.ManyCalls as many
use Rattle.promise_examples.proofs.Noting as noting
use Rattle.promise_examples.proofs.Readings.{names}
use Rattle.promise_examples.proofs.Repeats.{other_job}
use Rattle.promise_examples.proofs.Scheduling as scheduling
use Rattle.promise_examples.proofs.Scheduling.{other_op}
use Rattle.promise_examples.proofs.Shown.{made, of_shown}
use Rattle.rare_runs.specs.MovedDownload.{IsMovedDownloadMet, LateRenameIsRefused, MovedDownloadIsMet, bucket, calls, calls_with, config, content, delete_asks, delete_job, delete_talk, excused, filled, get_asks, get_job, get_talk, gone, key, limits, load, makes, moved_run, path, renames_at, setting, stamps_at, start, temp, trace, with_temp, writes, written}

-- ---- the jobs

abbrev well : Talk → Attempt
well talk = record { mark = mark.Success; talk = talk }

abbrev dispatch_of : JobId → (given : ℕ) → Talk → Dispatch
dispatch_of job given talk = record { job = job; lane = 0; given_at = given; came_at = Some (suc given); earlier = 0; is_second = false; attempts = well talk ∷ [] }

abbrev get_sent : Dispatched
get_sent = record { dispatch = dispatch_of get_job 0 get_talk; ask = get_asks; body = []; limit = 2; size = 2 }

abbrev delete_sent : Dispatched
delete_sent = record { dispatch = dispatch_of delete_job 2 delete_talk; ask = delete_asks; body = []; limit = most_body; size = 2 }

abbrev jobs : List Dispatched
jobs = get_sent ∷ delete_sent ∷ []

abbrev from : Origin load
from = record { bucket = bucket; key = key; is_source = (refl, refl) }

pieces : HasPieces config limits kind.Download 2 2 1
pieces = inl (omega arith, refl, refl)

only : (P : ℕ → Task → Type 0) → P 0 load → (n : ℕ) (task : Task) → slice_get setting.tasks n ≡ Some task → P n task
only P here zero task is = subst (P 0) (some_is load task is) here
only P here (suc n) task is = absurd (none_is_some task is)

-- ---- the files

temp_is : IsTempFor path temp
temp_is = (other_length temp path 17 1 refl refl (λ e. omega arith), refl, refl)

found : (m : MapOf HeldFile) (p : List ℕ) (file : HeldFile) → get (insert m p file) p ≡ Some file
found m p file = get-insert_same nat_list_cmp_total text_exact m p file

call_run : IsCallRun setting.held (steps_of calls)
call_run = (
  (temp_is, get-empty (slice_cmp nat_cmp) temp, (0, refl)),
  (
    (with_bytes [], found empty temp (with_bytes []), (0, refl)),
    ((with_bytes written, found with_temp temp (with_bytes written), refl), ((with_bytes written, found (remove filled temp) path (with_bytes written), refl), tt)),
  ),
)

object_no_file : (p : List ℕ) → ◌≡◌ {A = Option Place} (Some (place.Object bucket key)) (Some (place.File p)) → ⊥
object_no_file p e = cc

moves_no_file : (n : ℕ) (task : Task) (p : List ℕ) → slice_get setting.tasks n ≡ Some task → task.source ≡ Some (place.File p) → ⊥
moves_no_file n task p is from_file = only (λ k t. t.source ≡ Some (place.File p) → ⊥) (object_no_file p) n task is from_file

files_apart : AreFilesApart setting.held setting.tasks
files_apart = record {
  destinations = λ m n a b p to_a to_b. (one_task load m a to_a.0).0 ∙ sym (one_task load n b to_b.0).0;
  sources = λ m n a b p move to_b. moves_no_file m a p move.0 move.2;
  moved_once = λ m n a b p move too. absurd (moves_no_file m a p move.0 move.2);
  uploads = λ n task p move. absurd (moves_no_file n task p move.0 move.2);
  one_way = λ m n a b p move is_b loads. moves_no_file m a p move.0 move.2;
  names = λ m n a b p to_a is_b loads loads_too named. (one_task load m a to_a.0).0 ∙ sym (one_task load n b is_b).0;
  there = λ n task p to_x removal. absurd (only (λ k t. t.kind ≡ kind.RemoveFile → ⊥) (λ e. removal_downloads (sym e)) n task to_x.0 removal);
}

made_renamed : (t d : List ℕ) → MakeTemp path (Ok temp) ≡ Rename t d None → ⊥
made_renamed t d e = cc

wrote_renamed : (t d : List ℕ) → WriteAt temp 0 content true ≡ Rename t d None → ⊥
wrote_renamed t d e = cc

module _ (page_of : List ℕ → Listed) where
  abbrev Shows : Ask → ℕ → Talk → Class → List ℕ → Type 0
  Shows = Reads page_of

  abbrev Plans : List Dispatched → Type 0
  Plans planning = planning ≡ []

  get_fits : (of_class : Class) (b : List ℕ) → Shows get_asks 2 get_talk of_class b → FitsAsk get_sent get_asks of_class
  get_fits (class.Success (reply.Got status range size)) b shows = subst (λ (said : Reply). FitsAsk get_sent get_asks (class.Success said)) shows.0 (refl, refl)
  get_fits of_class b shows = tt

  no_failure : (failed : Dispatched) → IsFailed Shows setting jobs failed → ⊥
  no_failure failed is_failed = scheduling.failures Shows setting (λ c. ⊥) jobs (inr (inl (refl, get_fits)), (inr (inl (refl, λ shown b shows. tt)), tt)) failed is_failed

  no_create : (n : ℕ) (c : Dispatched) → Contains jobs c → c.dispatch.job ≡ job_of n op.Create 0 → ⊥
  no_create n = each (λ (c : Dispatched). c.dispatch.job ≡ job_of n op.Create 0 → ⊥) jobs
      ((λ same. other_op op.Get op.Create refl (ap (λ (job : JobId). job.op) same)), ((λ same. other_op op.Delete op.Create refl (ap (λ (job : JobId). job.op) same)), tt))

  decided : (n : ℕ) (task : Task) → slice_get setting.tasks n ≡ Some task → IsDecided setting task n (gained_before Shows jobs 2)
  decided = only (λ n task. IsDecided setting task n (gained_before Shows jobs 2)) (λ piece count is_cut. (reply.Got 200 None 2, (get_sent, at jobs 0 get_sent refl, refl, omega arith, (refl, content, (refl, refl)))))

  scheduled : IsSchedule Shows setting Plans jobs jobs
  scheduled = scheduling.scheduled Shows setting Plans jobs jobs (record {
    is_coming = IsPermutation-refl jobs;
    in_order = ((omega arith, tt), (tt, tt));
    asks = ((load, 2, 1, refl, pieces, refl, refl, (from, refl, refl, refl)), ((load, 2, 1, refl, pieces, refl, refl, ((from, refl, refl), refl, refl)), tt));
    plans = refl;
    numbered = tt;
    one_by_one = tt;
    carried_out = refl;
    twice = (tt, (tt, tt));
    seconds = (omega arith, (omega arith, tt));
    stops = λ failed c is_failed of_task no_abort known same late. absurd (no_failure failed is_failed);
    no_abort = (refl, (refl, tt));
    completes = λ n id end ended created. absurd (no_create n created.0 created.1 created.2);
    moves_last = ((λ n task of_task at_n moves deletes. absurd (other_op op.Get op.Delete refl deletes)), ((λ n task of_task at_n moves deletes. decided n task at_n), tt));
  })

  -- ---- the wires

  first_lane : (lane : ℕ) → lane < 1 → carrying.IsLane page_of setting jobs moved_run.logs moved_run.notes jobs lane
  first_lane zero used = record {
    in_turn = (((λ place come. let is : 3 ≡ place = some_is 3 place come in omega arith), tt), (tt, tt));
    gained = refl;
    noted = noting.first page_of (noting.nth 1 get_sent (well get_talk)) 1 (noting.nth 1 delete_sent (well delete_talk) ∷ []) _ refl (refl, refl, refl)
        (noting.first page_of (noting.nth 1 delete_sent (well delete_talk)) 2 [] _ refl (refl, refl, refl) (noting.done page_of));
  }
  first_lane (suc lane) used = absurd (omega arith)

  carried : IsCarried Shows signed_body [] 80 setting moved_run.journal moved_run.logs moved_run.notes jobs jobs
  carried = carrying.carried page_of setting jobs moved_run.journal moved_run.logs moved_run.notes jobs (record {
    shown = refl;
    comes = ((1, mark.Success ∷ [], refl, refl, refl), ((3, mark.Success ∷ [], refl, refl, refl), tt));
    inside = (omega arith, (omega arith, tt));
    unused = λ lane beyond. (carrying.none_in _ lane beyond, carrying.none_in _ lane beyond);
    known = (tt, ((get_sent, at jobs 0 get_sent refl, refl), (tt, ((delete_sent, at jobs 1 delete_sent refl, refl), tt))));
    lanes = first_lane;
    marks = ((refl, tt), ((refl, tt), tt));
    again = (((λ more. absurd (omega arith)), tt), (((λ more. absurd (omega arith)), tt), tt));
    given_again = (tt, (tt, tt));
    at_most = (omega arith, (omega arith, tt));
    ends = ((λ goes. absurd (never goes)), ((λ goes. absurd (never goes)), tt));
  })

  -- ---- the calls

  body_is : (task : Task) → slice_get setting.tasks 0 ≡ Some task → IsBody Shows setting jobs 0 task 2 0 content
  body_is task is = subst (λ (t : Task). IsBody Shows setting jobs 0 t 2 0 content) (some_is load task is) (record {
    get = get_sent;
    known = at jobs 0 get_sent refl;
    number = 0;
    is_get = refl;
    came = omega arith;
    well = (refl, get_fits);
    attempt = well get_talk;
    is_last = refl;
    status = 200;
    told = None;
    size = 2;
    shows = (refl, refl);
    range = (2, 1, pieces, (refl, refl, refl));
  })

  all_written : (task : Task) → slice_get setting.tasks 0 ≡ Some task → AreWritten setting (makes ∷ writes ∷ []) 0 task temp
  all_written task is = subst (λ (t : Task). AreWritten setting (makes ∷ writes ∷ []) 0 t temp) (some_is load task is) (record {
    piece = 2;
    count = 1;
    pieces = pieces;
    each = λ number start_at length_of range. (writes, at (makes ∷ writes ∷ []) 1 writes refl, refl, content, ap (λ (k : ℕ). WriteAt temp k content true) (sym range.1));
  })

  undisturbed : (before : ℕ) → (IsBefore setting.cancelled_at before ⊎ HasFailedBefore Shows setting jobs 0 before) → ⊥
  undisturbed before (inl cancelled) = cancelled
  undisturbed before (inr failed) = no_failure failed.0 failed.1

  was_made : (front : List TaskCall) → Contains front makes → IsMade front 0 temp
  was_made front known = (makes, known, refl, path, refl)

  abbrev renames : TaskCall
  renames = renames_at 2

  abbrev stamps : TaskCall
  stamps = stamps_at 2

  no_upload : (task : Task) → Some load ≡ Some task → task.kind ≡ kind.Upload → ⊥
  no_upload task is upload = upload_downloads (sym (ap (λ (t : Task). t.kind) (some_is load task is) ∙ upload))

  kept : many.AreKept Shows setting excused jobs jobs calls
  kept = record {
    named = ((load, refl, refl), ((load, refl, tt), ((load, refl, refl), ((load, refl, (refl, refl)), tt))));
    in_order = ((omega arith, (omega arith, (omega arith, tt))), ((omega arith, (omega arith, tt)), ((omega arith, tt), (tt, tt))));
    carried_out = refl;
    order = (tt, (((λ same. refl), tt), (((λ same. refl), ((λ same. tt), tt)), (((λ same. tt), ((λ same. tt), ((λ same. tt), tt))), tt))));
    stops = ((λ stopped. absurd (undisturbed 0 stopped)), ((λ stopped. absurd (undisturbed 2 stopped)), ((λ stopped. absurd (undisturbed 2 stopped)), ((λ stopped. tt), tt))));
    made = (tt, (was_made (makes ∷ []) (at (makes ∷ []) 0 makes refl), (was_made (makes ∷ writes ∷ []) (at (makes ∷ writes ∷ []) 0 makes refl), (tt, tt))));
    made_first = (
      (λ n number same. (makes, at calls 0 makes refl, some_is 0 n (ap (λ (job : JobId). job.task) same), path, temp, refl, omega arith)),
      ((λ n number same. absurd (other_op op.Delete op.Get refl (ap (λ (job : JobId). job.op) same))), tt),
    );
    writes = ((λ task is. tt), (body_is, ((λ task is. tt), ((λ task is. tt), tt))));
    renames = ((λ task is. tt), ((λ task is. tt), (all_written, ((λ task is. tt), tt))));
    stamps = (tt, (tt, ((stamps, at calls 3 stamps refl, refl, path, 5, true, refl), (tt, tt))));
    stamps_last = (tt, (tt, (tt, ((renames, at (makes ∷ writes ∷ renames ∷ []) 2 renames refl, refl, temp, path, refl), tt))));
    warned = (tt, (tt, (tt, (tt, tt))));
    untimed_only = λ p known. absurd (each (λ (q : List ℕ). ⊥) [] tt p known);
    drops = (inl (renames, at calls 2 renames refl, refl, temp, path, refl), (tt, (tt, (tt, tt))));
    left_only = λ p known. absurd (each (λ (q : List ℕ). ⊥) [] tt p known);
    moves_last = ((λ task is upload. absurd (no_upload task is upload)), ((λ task is upload. absurd (no_upload task is upload)), ((λ task is upload. absurd (no_upload task is upload)), ((λ task is upload. absurd (no_upload task is upload)), tt))));
    deletes_last = (
      (λ n task of is_delete is_task loads. absurd (other_op op.Get op.Delete refl is_delete)),
      ((λ n task of is_delete is_task loads. (renames, at calls 2 renames refl, some_is 0 n of, temp, path, refl, omega arith)), tt),
    );
  }

  no_act : HasFailedAct calls 0 → ⊥
  no_act failed = each (λ (c : TaskCall). IsFailedAct c.step.call → ⊥) calls ((λ h. h), ((λ h. h), ((λ h. h), ((λ h. h), tt)))) failed.0 failed.1 failed.3

  -- ---- the outcome

  abbrev Ended : ℕ → Task → Outcome → Type 0
  Ended n task how = HasOutcome Shows HasNoStatus NeverFailed setting jobs jobs n task how

  is_done : Ended 0 load outcome.Done
  is_done = (
    (λ c failing. no_failure c failing.0),
    (λ piece count is_cut. (reply.Got 200 None 2, (get_sent, at jobs 0 get_sent refl, refl, (refl, content, (refl, refl))))),
    (λ moves from_object. (reply.Gone, (delete_sent, at jobs 1 delete_sent refl, refl, (refl, [], (refl, refl))))),
    (λ fresh. absurd (never fresh)),
  )

  cause : (n : ℕ) (task : Task) (how : Outcome) → slice_get setting.tasks n ≡ Some task → slice_get moved_run.outcomes n ≡ Some how → Ended n task how
  cause n task how is at_how = only (λ k t. slice_get moved_run.outcomes k ≡ Some how → Ended k t how) (λ e. subst (Ended 0 load) (some_is outcome.Done how e) is_done) n task is at_how

  -- ---- the trace

  there : HasBucket start bucket
  there = has_bucket (one_bucket bucket) bucket (insert (objects_in (one_bucket bucket) bucket) key (object_of content))

  object_is : IsThere start bucket key content (object_of content)
  object_is = record { held = object_at-with_object (one_bucket bucket) bucket key (object_of content); etag = refl }

  runs : IsTrace limits [] start trace
  runs = (refl, (refl, (((0, omega arith, refl), (object_of content, object_is, (refl, refl, refl), refl)), (refl, (refl, (refl, (((0, omega arith, refl), (there, refl)), (refl, tt))))))))

  start_is : IsFaithful start
  start_is = faithful_with (one_bucket bucket) bucket key content (one_bucket_is_faithful bucket)

  gone_is : IsFaithful gone
  gone_is = faithful_without start bucket key start_is

  get_named : (shown : Class) (b : List ℕ) → Shows get_asks 2 get_talk shown b → Names shown b (Replied (reply.Got 200 None 2) content)
  get_named = names page_of get_asks 2 get_talk (Replied (reply.Got 200 None 2) content) (reply.Got 200 None 2, refl, refl)

  delete_named : (shown : Class) (b : List ℕ) → Shows delete_asks most_body delete_talk shown b → Names shown b (Replied reply.Gone [])
  delete_named = names page_of delete_asks most_body delete_talk (Replied reply.Gone []) (reply.Gone, refl, refl)

  answered : (k : ℕ) (c : Dispatched) (attempt : Attempt) (answer : Answer) → slice_get jobs k ≡ Some c → slice_get c.dispatch.attempts 0 ≡ Some attempt
      → ((shown : Class) (b : List ℕ) → Shows c.ask c.limit attempt.talk shown b → Names shown b answer) → IsAnswered Shows None jobs (request_at c 0) answer
  answered k c attempt answer known is named = record { of = c; known = at jobs k c known; place = 0; attempt = attempt; is_attempt = is; is_sent = refl; names = λ shown b shows certain. named shown b shows }

  abbrev events : List TraceEvent
  events = events_of trace

  begins : (lane : ℕ) → filter_map (begun_in lane) events ≡ flat_map requests_of (filter (λ (c : Dispatched). c.dispatch.lane == lane) jobs)
  begins zero = refl
  begins (suc lane) =
      let a : (suc lane == 0) ≡ false = grind arith in
      let b : (0 == suc lane) ≡ false = grind arith in
      rw (a, b) refl

  fits : Fits Shows None events moved_run.journal jobs
  fits = fitting.fits Shows jobs events moved_run.journal refl begins (refl, (tt, (tt, (tt, (refl, (tt, (tt, (tt, tt)))))))) (tt, (tt, (tt, (refl, (tt, (tt, (tt, (refl, tt))))))))
      (((λ same. other_job get_job delete_job refl same.0), tt), (tt, tt))
      (tt, (tt, (answered 0 get_sent (well get_talk) (Replied (reply.Got 200 None 2) content) refl refl get_named, (tt, (tt, (tt, (answered 1 delete_sent (well delete_talk) (Replied reply.Gone []) refl refl delete_named, (tt, tt))))))))
      (tt, (tt, (tt, (((get_served, tt), tt), (tt, (tt, (tt, (((delete_served, tt), tt), tt))))))))
    where
      get_served : fitting.IsServed Shows jobs (take 3 events) get_sent 0 (well get_talk)
      get_served shown b shows certain = (Replied (reply.Got 200 None 2) content, at (take 3 events) 2 _ refl, get_named shown b shows)

      delete_served : fitting.IsServed Shows jobs (take 7 events) delete_sent 0 (well delete_talk)
      delete_served shown b shows certain = (Replied reply.Gone [], at (take 7 events) 6 _ refl, delete_named shown b shows)

  keeps : KeepsBuffers 1 moved_run.journal
  keeps front back is = front_of (λ (f : List Event). buffers_out f ≤ 1) moved_run.journal (omega arith, (omega arith, (omega arith, (omega arith, omega arith)))) front back is

  met : IsMovedDownloadMet page_of
  met = record {
    met = record {
      dispatched = jobs;
      coming = jobs;
      schedule = scheduled;
      carried = carried;
      buffers = keeps;
      runs = runs;
      honest = honest start trace (start_is, (start_is, (start_is, (start_is, (start_is, (start_is, (start_is, (gone_is, (gone_is, tt))))))))) (tt, (tt, (tt, (tt, (tt, (tt, (tt, (tt, tt)))))))) (IsDest setting.tasks);
      fits = fits;
      whole = ([], refl, refl);
      causes = cause;
    };
    are_calls = record { keep = many.all_keep Shows setting excused jobs jobs calls kept; runs = call_run; apart = files_apart };
    shown = ((renames, at calls 2 renames refl, refl, temp, path, refl), tt);
  }

  -- ---- its neighbour

  late : (dispatched coming : List Dispatched) → map (λ (c : Dispatched). c.dispatch) dispatched ≡ dispatches moved_run.journal moved_run.logs → AreFileCalls Shows setting excused dispatched coming (calls_with 3) → ⊥
  late dispatched coming told = of_shown (dispatch_of get_job 0 get_talk ∷ dispatch_of delete_job 2 delete_talk ∷ []) (λ (ds : List Dispatched). AreFileCalls Shows setting excused ds coming (calls_with 3) → ⊥) by dispatched told
    where
      by : (a : Ask) (p : List ℕ) (i l : ℕ) (b : Ask) (q : List ℕ) (j m : ℕ)
          → AreFileCalls Shows setting excused (made (dispatch_of get_job 0 get_talk) a p i l ∷ made (dispatch_of delete_job 2 delete_talk) b q j m ∷ []) coming (calls_with 3) → ⊥
      by a p i l b q j m keep =
          let delete = made (dispatch_of delete_job 2 delete_talk) b q j m in
          let r = keep.deletes_last delete 0 load (at (made (dispatch_of get_job 0 get_talk) a p i l ∷ delete ∷ []) 1 delete refl) refl refl refl refl in
          each (λ (c : TaskCall). c.step.call ≡ Rename r.3 r.4 None → c.events_before ≤ 2 → ⊥) (calls_with 3)
          ((λ e early. made_renamed r.3 r.4 e), ((λ e early. wrote_renamed r.3 r.4 e), ((λ e early. omega arith), ((λ e early. omega arith), tt)))) r.0 r.1 r.5 r.6

pub moved_download_is_met : MovedDownloadIsMet
moved_download_is_met page_of = met page_of

pub late_rename_is_refused : LateRenameIsRefused
late_rename_is_refused page_of = late page_of
