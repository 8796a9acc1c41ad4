-- The calls of the moved download tell its files, whatever a service answered to its Delete, and whether its time was
-- set.
use Rattle.std.proofs.Common.{◌≡◌, ◌∙◌, ◌⊎◌, ℕ, suc, Bool, true, false, List, [], ◌∷◌, Option, Some, None, refl, sym, ap, subst, inl, inr, filter_map, slice_get, Contains, arith}
use Rattle.std.proofs.lemmas.List.{append-nil}
use Rattle.s3_model.specs.declared.answers.Class.{Class}
use Rattle.s3_model.specs.declared.answers.Class.TheVariants as class
use Rattle.s3_model.specs.declared.answers.Listed.{Listed}
use Rattle.s3_model.specs.declared.answers.Reply.{Reply}
use Rattle.s3_model.specs.declared.answers.Reply.TheVariants as reply
use Rattle.s3_model.specs.declared.outcomes.Event.{Event}
use Rattle.s3_model.specs.declared.outcomes.JobId.{JobId}
use Rattle.s3_model.specs.declared.outcomes.Outcome.{Outcome}
use Rattle.s3_model.specs.declared.outcomes.Outcome.TheVariants as outcome
use Rattle.s3_model.specs.declared.places.Place.{Place}
use Rattle.s3_model.specs.declared.places.Place.TheVariants as place
use Rattle.s3_model.specs.declared.requests.Ask.{Ask}
use Rattle.s3_model.specs.declared.requests.Op.TheVariants as op
use Rattle.s3_model.specs.declared.tasks.Kind.TheVariants as kind
use Rattle.s3_model.specs.declared.tasks.Task.{Task}
use Rattle.s3_model.specs.declared.tries.Mark.TheVariants as mark
use Rattle.s3_model.specs.Files.{HeldFile}
use Rattle.s3_model.specs.Maps.{MapOf}
use Rattle.s3_model.specs.Parts.{HasPieces}
use Rattle.s3_model.specs.Talks.{Talk}
use Rattle.s3_service.specs.Serves.{Replied, Succeeds}
use Rattle.job_terms.specs.Dispatches.{Attempt, Dispatch, Dispatched}
use Rattle.local_files.specs.Calls.{Call, Leads, Stamp, WriteAt}
use Rattle.run_promise.specs.Dispatches.{FitsAsk}
use Rattle.run_promise.specs.FileCalls.{AreWritten, HasFailedBefore, IsBody, IsMade, TaskCall}
use Rattle.run_promise.specs.FileOutcomes.{HasFailedAct, IsByFiles, IsDestChanged, IsFailedAct, IsShownByCalls}
use Rattle.run_promise.specs.Fits.{request_at}
use Rattle.run_promise.specs.Runs.{Run}
use Rattle.run_promise.specs.Schedule.{IsBefore, IsFailed, most_body}
use Rattle.run_promise.specs.Traces.{Serve, Steps, TraceEvent, event_of, events_of, state_after}
use Rattle.run_promise.specs.Truthful.{AreToldByCalls, FitsShown}
use Rattle.shared_lemmas.proofs.Clashes.{some_is}
use Rattle.world_laws.proofs.Fitting as served_by
use Rattle.world_laws.proofs.Traces.{begun_through, step_of}
use Rattle.world_laws.specs.Premises.{HasCome, HasSucceeded}
use Rattle.file_laws.proofs.CallWitness.{IsWarned}
use Rattle.file_laws.proofs.Keeping.{upload_downloads}
use Rattle.promise_examples.specs.Reading.{Reads}
use Rattle.promise_examples.proofs.Concrete.{at, each}
use Rattle.promise_examples.proofs.ManyCalls as many
use Rattle.promise_examples.proofs.Scheduling as scheduling
use Rattle.promise_examples.proofs.Scheduling.{other_op}
use Rattle.rare_runs.specs.MovedDownload.{bucket, config, content, delete_asks, delete_job, delete_talk, get_asks, get_job, get_talk, key, limits, load, makes, path, renamed, renames_at, setting, stamped, temp, writes}
use Rattle.rare_runs.proofs.MovedFile.{moved_download_is_met}
use Rattle.refused_outcomes.proofs.OneTask.{only}
use Rattle.refused_outcomes.specs.ToldFiles.{AreTold, FilesAreTold, IsTraceless, Strange, calls_to, ends_with as shown_as, excusing, timed}

-- ---- the jobs

abbrev well : Talk → Attempt
well talk = record { mark = mark.Success; talk = talk }

abbrev dispatch_of : JobId → (given : ℕ) → Talk → Dispatch
dispatch_of job given talk = record { job = job; lane = 0; given_at = given; came_at = Some (suc given); earlier = 0; is_second = false; attempts = well talk ∷ [] }

abbrev get_sent : Dispatched
get_sent = record { dispatch = dispatch_of get_job 0 get_talk; ask = get_asks; body = []; limit = 2; size = 2 }

abbrev delete_sent : Dispatched
delete_sent = record { dispatch = dispatch_of delete_job 2 delete_talk; ask = delete_asks; body = []; limit = most_body; size = 2 }

abbrev jobs : List Dispatched
jobs = get_sent ∷ delete_sent ∷ []

pieces : HasPieces config limits kind.Download 2 2 1
pieces = inl (omega arith, refl, refl)

object_no_file : (p : List ℕ) → ◌≡◌ {A = Option Place} (Some (place.Object bucket key)) (Some (place.File p)) → ⊥
object_no_file p e = cc

no_upload : (task : Task) → Some load ≡ Some task → task.kind ≡ kind.Upload → ⊥
no_upload task is upload = upload_downloads (sym (ap (λ (t : Task). t.kind) (some_is load task is) ∙ upload))

-- ---- its calls, whether or not the time could be set, where it ends with these files

module _ (Shows : Ask → ℕ → Talk → Class → List ℕ → Type 0) (shows_get : Shows get_asks 2 get_talk (class.Success (reply.Got 200 None 2)) content)
    (get_fits : (of_class : Class) (b : List ℕ) → Shows get_asks 2 get_talk of_class b → FitsAsk get_sent get_asks of_class) (wanted fine : Bool) (warned : IsWarned (excusing wanted) (Stamp path 5 fine)) (after : MapOf HeldFile) (leads : Leads (Stamp path 5 fine) renamed after) where
  no_failure : (failed : Dispatched) → IsFailed Shows setting jobs failed → ⊥
  no_failure failed is_failed = scheduling.failures Shows setting (λ c. ⊥) jobs (inr (inl (refl, get_fits)), (inr (inl (refl, λ shown b shows. tt)), tt)) failed is_failed

  undisturbed : (before : ℕ) → (IsBefore setting.cancelled_at before ⊎ HasFailedBefore Shows setting jobs 0 before) → ⊥
  undisturbed before (inl cancelled) = cancelled
  undisturbed before (inr failed) = no_failure failed.0 failed.1

  body_is : (task : Task) → slice_get setting.tasks 0 ≡ Some task → IsBody Shows setting jobs 0 task 2 0 content
  body_is task is = subst (λ (t : Task). IsBody Shows setting jobs 0 t 2 0 content) (some_is load task is) (record {
    get = get_sent;
    known = at jobs 0 get_sent refl;
    number = 0;
    is_get = refl;
    came = omega arith;
    well = (refl, get_fits);
    attempt = well get_talk;
    is_last = refl;
    status = 200;
    told = None;
    size = 2;
    shows = shows_get;
    range = (2, 1, pieces, (refl, refl, refl));
  })

  all_written : (task : Task) → slice_get setting.tasks 0 ≡ Some task → AreWritten setting (makes ∷ writes ∷ []) 0 task temp
  all_written task is = subst (λ (t : Task). AreWritten setting (makes ∷ writes ∷ []) 0 t temp) (some_is load task is) (record {
    piece = 2;
    count = 1;
    pieces = pieces;
    each = λ number start_at length_of range. (writes, at (makes ∷ writes ∷ []) 1 writes refl, refl, content, ap (λ (k : ℕ). WriteAt temp k content true) (sym range.1));
  })

  was_made : (front : List TaskCall) → Contains front makes → IsMade front 0 temp
  was_made front known = (makes, known, refl, path, refl)

  abbrev calls : List TaskCall
  calls = calls_to fine after

  abbrev stamps : TaskCall
  stamps = record { task = 0; events_before = 2; step = record { call = Stamp path 5 fine; held = after } }

  kept : many.AreKept Shows setting (excusing wanted) jobs jobs calls
  kept = record {
    named = ((load, refl, refl), ((load, refl, tt), ((load, refl, refl), ((load, refl, (refl, refl)), tt))));
    in_order = ((omega arith, (omega arith, (omega arith, tt))), ((omega arith, (omega arith, tt)), ((omega arith, tt), (tt, tt))));
    carried_out = refl;
    order = (tt, (((λ same. refl), tt), (((λ same. refl), ((λ same. tt), tt)), (((λ same. tt), ((λ same. tt), ((λ same. tt), tt))), tt))));
    stops = ((λ stopped. absurd (undisturbed 0 stopped)), ((λ stopped. absurd (undisturbed 2 stopped)), ((λ stopped. absurd (undisturbed 2 stopped)), ((λ stopped. tt), tt))));
    made = (tt, (was_made (makes ∷ []) (at (makes ∷ []) 0 makes refl), (was_made (makes ∷ writes ∷ []) (at (makes ∷ writes ∷ []) 0 makes refl), (tt, tt))));
    made_first = (
      (λ n number same. (makes, at calls 0 makes refl, some_is 0 n (ap (λ (job : JobId). job.task) same), path, temp, refl, omega arith)),
      ((λ n number same. absurd (other_op op.Delete op.Get refl (ap (λ (job : JobId). job.op) same))), tt),
    );
    writes = ((λ task is. tt), (body_is, ((λ task is. tt), ((λ task is. tt), tt))));
    renames = ((λ task is. tt), ((λ task is. tt), (all_written, ((λ task is. tt), tt))));
    stamps = (tt, (tt, ((stamps, at calls 3 stamps refl, refl, path, 5, fine, refl), (tt, tt))));
    stamps_last = (tt, (tt, (tt, ((renames_at 2, at (makes ∷ writes ∷ renames_at 2 ∷ []) 2 (renames_at 2) refl, refl, temp, path, refl), tt))));
    warned = (tt, (tt, (tt, (warned, tt))));
    untimed_only = λ p known. absurd (each (λ (q : List ℕ). ⊥) [] tt p known);
    drops = (inl (renames_at 2, at calls 2 (renames_at 2) refl, refl, temp, path, refl), (tt, (tt, (tt, tt))));
    left_only = λ p known. absurd (each (λ (q : List ℕ). ⊥) [] tt p known);
    moves_last = ((λ task is upload. absurd (no_upload task is upload)), ((λ task is upload. absurd (no_upload task is upload)), ((λ task is upload. absurd (no_upload task is upload)), ((λ task is upload. absurd (no_upload task is upload)), tt))));
    deletes_last = (
      (λ n task of is_delete is_task loads. absurd (other_op op.Get op.Delete refl is_delete)),
      ((λ n task of is_delete is_task loads. (renames_at 2, at calls 2 (renames_at 2) refl, some_is 0 n of, temp, path, refl, omega arith)), tt),
    );
  }

  no_act : HasFailedAct calls 0 → ⊥
  no_act failed = each (λ (c : TaskCall). IsFailedAct c.step.call → ⊥) calls ((λ h. h), ((λ h. h), ((λ h. h), ((λ h. h), tt)))) failed.0 failed.1 failed.3

  told : (page_of : List ℕ → Listed) → AreToldByCalls Shows (shown_as wanted (timed fine) after) jobs jobs calls
  told page_of =
      let moved = (moved_download_is_met page_of).are_calls in
      record {
        told = refl;
        keep = record { keep = many.all_keep Shows setting (excusing wanted) jobs jobs calls kept; runs = (moved.runs.0, (moved.runs.1.0, (moved.runs.1.1.0, (leads, tt)))); apart = moved.apart };
        held_after = refl;
        decided = λ n task how is at_how. only load (λ k t. slice_get (outcome.Done ∷ []) k ≡ Some how → IsByFiles t → IsShownByCalls how (IsDestChanged t.kind calls k) (HasFailedAct calls k))
            (λ e by. subst (λ (o : Outcome). IsShownByCalls o (IsDestChanged kind.Download calls 0) (HasFailedAct calls 0)) (some_is outcome.Done how e) ((renames_at 2, at calls 2 (renames_at 2) refl, refl, temp, path, refl), tt))
            n task is at_how;
        moved = λ n task how p move at_how. absurd (only load (λ k t. t.source ≡ Some (place.File p) → ⊥) (object_no_file p) n task move.0 move.2);
      }

-- ---- a Delete that no service answers so

module _ (page_of : List ℕ → Listed) where
  abbrev Shows : Ask → ℕ → Talk → Class → List ℕ → Type 0
  Shows = Strange page_of

  fits_get : (of_class : Class) (b : List ℕ) → Reads page_of get_asks 2 get_talk of_class b → FitsAsk get_sent get_asks of_class
  fits_get (class.Success (reply.Got status range size)) b shows = subst (λ (said : Reply). FitsAsk get_sent get_asks (class.Success said)) shows.0 (refl, refl)
  fits_get of_class b shows = tt

  abbrev stored : HasSucceeded Shows delete_sent
  stored = record { place = 0; attempt = well delete_talk; reply = reply.Stored; bytes = []; is_attempt = refl; shows = (refl, refl) }

  no_trace : (calls_told : List Call) (after : MapOf HeldFile) (run : Run) → run.dispatched ≡ jobs → FitsShown Shows (shown_as false calls_told after) run → ⊥
  no_trace calls_told after run same fits_run =
      let p = fits_run.fitting in
      let come : HasCome (filter_map event_of (events_of run.trace)) delete_sent = (3, mark.Success ∷ [], refl, ap (λ (j : List Event). slice_get j 3) (p.fits.moves ∙ fits_run.of_journal)) in
      let known = subst (λ (ds : List Dispatched). Contains ds delete_sent) (sym same) (at jobs 1 delete_sent refl) in
      let served = served_by.success_is_served Shows setting.limits run.start run.trace run.dispatched run.journal p.runs p.fits run.trace [] (sym (append-nil run.trace)) delete_sent known come stored (λ page. page.0) in
      let there = step_of run.trace (Serve (request_at delete_sent 0) (Replied served.0 [])) served.2 in
      let steps = subst (λ (event : TraceEvent). Steps setting.limits (begun_through [] there.front) (state_after run.start there.front) event there.step.state) there.is_event
      (served_by.steps_at Shows setting.limits run.start run.trace run.dispatched run.journal p.runs p.fits there.front there.step there.back there.is) in
      subst (λ (said : Reply). Succeeds setting.limits (state_after run.start there.front) delete_asks [] said [] there.step.state) (sym served.1) steps.1

  abbrev told_strangely : AreTold Shows (shown_as false (timed true) stamped) (calls_to true stamped)
  told_strangely = record {
    dispatched = jobs;
    coming = jobs;
    are_jobs = refl;
    files = told Shows (refl, refl) fits_get false true tt stamped (moved_download_is_met page_of).are_calls.runs.1.1.1.0 page_of;
  }

  traceless : IsTraceless page_of
  traceless = record {
    met = record { told = told_strangely; no_trace = no_trace (timed true) stamped };
    passes = λ calls_told after run part same fits_run ended. absurd (no_trace calls_told after run same fits_run);
  }

  pub not_timed : AreTold (Reads page_of) (shown_as true (timed false) renamed) (calls_to false renamed)
  not_timed = record { dispatched = jobs; coming = jobs; are_jobs = refl; files = told (Reads page_of) (refl, refl) fits_get true false (inr refl) renamed refl page_of }

pub files_are_told : FilesAreTold
files_are_told page_of = traceless page_of
