-- Runs that remove a file: one that does, and one that fails to.
use Rattle.shared_lemmas.proofs.Lists.{no_middle}
use Rattle.std.proofs.Common.{◌≡◌, ◌∙◌, ℕ, Bool, true, false, List, [], ◌∷◌, Some, None, Ok, refl, sym, ap, subst, inl, inr, Contains, arith}
use Rattle.std.specs.Prelude.{IsSome}
use Rattle.std.specs.Cmp.Lexicographic.{nat_list_cmp_total}
use Rattle.std.specs.FinMap.{empty, get, insert, remove}
use Rattle.s3_model.specs.declared.answers.Reply.TheVariants as reply
use Rattle.s3_model.specs.declared.outcomes.Cause.TheVariants as cause
use Rattle.s3_model.specs.declared.outcomes.FileCall.TheVariants as call
use Rattle.s3_model.specs.declared.outcomes.Outcome.{Outcome}
use Rattle.s3_model.specs.declared.outcomes.Outcome.TheVariants as outcome
use Rattle.s3_model.specs.declared.places.Place.TheVariants as place
use Rattle.s3_model.specs.declared.requests.Ask.TheVariants as ask
use Rattle.s3_model.specs.declared.requests.Op.TheVariants as op
use Rattle.s3_model.specs.declared.tasks.Task.{Task}
use Rattle.s3_model.specs.Files.{HeldFile}
use Rattle.s3_model.specs.Maps.{MapOf}
use Rattle.s3_service.specs.ServiceState.{State}
use Rattle.run_promise.specs.Dispatches.{IsCompletedWell}
use Rattle.job_terms.specs.Dispatches.{Dispatched}
use Rattle.job_terms.specs.Ops.{op_number}
use Rattle.run_promise.specs.Endings.{Excused}
use Rattle.run_promise.specs.Outcomes.{HasOutcome}
use Rattle.run_promise.specs.Schedule.{IsBefore, IsFailed, Setting}
use Rattle.job_terms.specs.Jobs.{job_of}
use Rattle.run_promise.specs.Truthful.{IsDest}
use Rattle.local_files.specs.Calls.{IsCallRun, MakeTemp, Remove, Rename}
use Rattle.run_promise.specs.Runs.{IsFitting}
use Rattle.world_laws.specs.Rounds.{Round, Told, ToldStatus, dispatch_at}
use Rattle.world_laws.specs.Tasks.{AreQuestions, IsScheduled}
use Rattle.world_laws.proofs.Faithful.{bare, bare_is_faithful, rounds_fitting, run_by}
use Rattle.shared_lemmas.proofs.Maps.{get-insert_same, text_exact}
use Rattle.shared_lemmas.proofs.Members.{contains_of, Has, has, has_middle}
use Rattle.world_laws.proofs.Rounds.{rounds_given}
use Rattle.world_laws.proofs.ScheduleWitness.{limits_are_valid, none_created, one_task, rounds_schedule, setting_of, the_limits}
use Rattle.run_promise.specs.FileOutcomes.{HasFailedAct, IsShownByCalls}
use Rattle.file_laws.specs.FileEnds.{HasFailedCall}
use Rattle.run_promise.specs.FileCalls.{AreFileCalls, AreFilesApart, IsRemoved, TaskCall, steps_of}
use Rattle.file_laws.specs.FileWitnesses.{FailedRemovalIsMet, IsFileTaskMet, IsMovedFileMet, MovedFileIsMet, RemovalIsMet, file_removal, moved_upload}
use Rattle.file_laws.proofs.CallWitness.{calls_keep, still_apart}
use Rattle.file_laws.proofs.Keeping.{removal_downloads, run_of, same_path, some_is_there, true_false, upload_downloads, upload_removes}

pub makes_or_removes : (path dest temp : List ℕ) (fine : Bool) → Remove path fine ≡ MakeTemp dest (Ok temp) → ⊥
makes_or_removes path dest temp fine e = cc

pub renames_or_removes : (path temp dest : List ℕ) (fine : Bool) → Remove path fine ≡ Rename temp dest None → ⊥
renames_or_removes path temp dest fine e = cc

pub failed_or_fine : (path other : List ℕ) → Remove path false ≡ Remove other true → ⊥
failed_or_fine path other e = cc

same_removal : (path other : List ℕ) (fine : Bool) → Remove path fine ≡ Remove other fine → path ≡ other
same_removal path other fine e = cc

abbrev excused_none : Excused
excused_none = record { left = []; untimed = []; wanted_memory = false }

module _ (path : List ℕ) where
  abbrev task : Task
  task = file_removal path

  abbrev file : HeldFile
  file = record { bytes = []; micros = 0 }

  abbrev held : MapOf HeldFile
  held = insert empty path file

  abbrev setting : Setting
  setting = record (setting_of task) { held = held }

  abbrev start : State
  start = bare []

  there : get held path ≡ Some file
  there = get-insert_same nat_list_cmp_total text_exact empty path file

  no_dispatched : (c : Dispatched) → Contains [] c → ⊥
  no_dispatched c known = has [] c known

  not_failed : (c : Dispatched) → IsFailed Told setting [] c → ⊥
  not_failed c failed = no_middle failed.0 c failed.1 failed.2

  scheduled : IsScheduled Told setting [] [] []
  scheduled = record {
    schedule = rounds_schedule setting [] tt (λ r h. absurd h) AreQuestions (λ c known. absurd (no_dispatched c known)) refl (λ failed c is_failed known before. not_failed failed is_failed)
        (none_created setting [] tt (λ r h. absurd h) (λ r h. absurd h)) (λ c n known of. absurd (no_dispatched c known)) (λ c n other known of is moves is_op. absurd (no_dispatched c known));
    given = rounds_given [] start tt;
    come = λ c known. absurd (no_dispatched c known);
    apart = record {
      destinations = λ m n a b bucket key is_a is_b here there. (one_task task m a is_a).0 ∙ sym (one_task task n b is_b).0;
      sources = λ m n a b bucket key is_a is_b moves is_source is_dest. true_false (sym moves ∙ ap (λ (t : Task). t.moves) (one_task task m a is_a).1);
    };
    threshold = omega arith;
    limits = limits_are_valid;
  }

  fitting : IsFitting Told the_limits (run_by start []) (IsDest (task ∷ []))
  fitting = rounds_fitting the_limits start [] tt tt (bare_is_faithful []) tt (IsDest (task ∷ []))

  apart : AreFilesApart held (task ∷ [])
  apart = still_apart held task refl (λ p removal is_dest. subst (λ (q : List ℕ). IsSome (get held q)) (same_path path p is_dest) (some_is_there (get held path) file there))

  -- the one call
  module _ (fine : Bool) (after : MapOf HeldFile) where
    abbrev removal : TaskCall
    removal = record { task = 0; events_before = 0; step = record { call = Remove path fine; held = after } }

    abbrev calls : List TaskCall
    calls = removal ∷ []

    only : (c : TaskCall) → Contains calls c → removal ≡ c
    only c known = by (has calls c known)
      where
        by : Has calls c → removal ≡ c
        by (inl e) = e
        by (inr h) = absurd h

    keep : AreFileCalls Told setting excused_none [] [] calls
    keep = calls_keep Told setting excused_none [] [] task (λ n other is. (one_task task n other is).1) refl calls
        (record { first = refl; is_call = refl; warned = tt; follows = tt; uses = tt; writes = tt; renames = tt; stamps = tt }, tt)
        refl (λ c known upload. absurd (upload_removes (sym upload))) (tt, tt) (λ c known is. no_dispatched c known) (λ c known is_get. absurd (no_dispatched c known))
        (λ c known h. elim h [ inl cancelled ↦ absurd cancelled | inr failed ↦ absurd (not_failed failed.0 failed.1) ]) (λ path h. absurd (has [] path h)) (λ temp h. absurd (has [] temp h))
        (λ re. absurd (renames_or_removes path re.3 re.4 fine (ap (λ (c : TaskCall). c.step.call) (only re.0 re.1) ∙ re.5)))
        (λ temp made. absurd (makes_or_removes path made.3 temp fine (ap (λ (c : TaskCall). c.step.call) (only made.0 made.1) ∙ made.4)))

    met : (how : Outcome) → IsCallRun held (steps_of calls) → HasOutcome Told ToldStatus (HasFailedCall calls) setting [] [] 0 task how → IsShownByCalls how (IsRemoved calls 0) (HasFailedAct calls 0) → IsFileTaskMet task how
    met how runs caused shown = record {
      run = run_of setting excused_none [] [] calls;
      start = start;
      trace = [];
      journal = [];
      is_task = refl;
      are_calls = record { keep = keep; runs = runs; apart = apart };
      scheduled = scheduled;
      traced = record { runs = fitting.runs; honest = fitting.honest; fits = fitting.fits };
      whole = ([], refl, refl);
      by_files = record { path = path; is_dest = refl; decided = inr refl; from = λ load. absurd (removal_downloads load); keeps = λ removal. refl };
      sourced = λ may load. absurd (removal_downloads load);
      caused = caused;
      shown = shown;
    }

  done_met : IsFileTaskMet task outcome.Done
  done_met = met true (remove held path) outcome.Done (refl, tt)
      (λ c failed. not_failed c failed.0, tt, λ moves. absurd (true_false (sym moves)), λ fresh. absurd (true_false (sym fresh)))
      ((removal true (remove held path), (0, omega arith, refl), refl, path, refl), tt)

  failed_met : IsFileTaskMet task (outcome.Failed (cause.Files call.Remove))
  failed_met = met false held (outcome.Failed (cause.Files call.Remove)) (refl, tt)
      (λ decided. no_dispatched decided.0 decided.1, λ left_open. no_dispatched left_open.0.0 left_open.0.1, (tt, (removal false held, (0, omega arith, refl), refl, tt)), λ fresh. absurd (true_false (sym fresh)))
      (λ removed. failed_or_fine path removed.3 (ap (λ (c : TaskCall). c.step.call) (only false held removed.0 removed.1) ∙ removed.4), tt)

-- ---- a file that is moved

module _ (bucket key path : List ℕ) where
  abbrev moving : Task
  moving = moved_upload bucket key path

  abbrev file_there : MapOf HeldFile
  file_there = insert empty path (record { bytes = []; micros = 0 })

  abbrev moving_setting : Setting
  moving_setting = record (setting_of moving) { held = file_there }

  abbrev put : Round
  put = record { job = job_of 0 op.Put 0; ask = ask.Put bucket key None false; body = []; refused = false; got = []; size = 0; after = bare [] }

  abbrev put_sent : List Dispatched
  put_sent = dispatch_at 0 put ∷ []

  abbrev take_away : TaskCall
  take_away = record { task = 0; events_before = 2; step = record { call = Remove path true; held = remove file_there path } }

  no_file : (p : List ℕ) → place.Object bucket key ≡ place.File p → ⊥
  no_file p e = cc

  only_put : (c : Dispatched) → Contains put_sent c → dispatch_at 0 put ≡ c
  only_put c known = by (has put_sent c known)
    where
      by : Has put_sent c → dispatch_at 0 put ≡ c
      by (inl e) = e
      by (inr h) = absurd h

  put_not_failed : (c : Dispatched) → IsFailed Told moving_setting put_sent c → ⊥
  put_not_failed c failed = failed.4 (subst (IsCompletedWell Told) (only_put c (contains_of put_sent c (subst (λ (xs : List Dispatched). Has xs c) (sym failed.2) (has_middle failed.0 c failed.1)))) well)
    where
      well : IsCompletedWell Told (dispatch_at 0 put)
      well = (refl, λ shown bytes told. tt)

  only_call : (c : TaskCall) → Contains (take_away ∷ []) c → take_away ≡ c
  only_call c known = by (has (take_away ∷ []) c known)
    where
      by : Has (take_away ∷ []) c → take_away ≡ c
      by (inl e) = e
      by (inr h) = absurd h

  keep_moving : AreFileCalls Told moving_setting excused_none put_sent put_sent (take_away ∷ [])
  keep_moving = calls_keep Told moving_setting excused_none put_sent put_sent moving (λ n other is. (one_task moving n other is).1) refl (take_away ∷ [])
      (record { first = refl; is_call = (refl, refl); warned = tt; follows = tt; uses = tt; writes = tt; renames = tt; stamps = tt }, tt)
      refl
      (λ c known upload. (dispatch_at 0 put, (0, omega arith, refl), refl, subst (λ (x : TaskCall). IsBefore (Some 1) x.events_before) (only_call c known) (omega arith), (reply.Stored, (refl, [], (refl, refl)))))
      (tt, tt)
      (λ c known is. put_or_delete (ap (λ (d : Dispatched). d.dispatch.job.op) (only_put c known) ∙ is))
      (λ c known is_get. absurd (put_or_get (ap (λ (d : Dispatched). d.dispatch.job.op) (only_put c known) ∙ is_get)))
      (λ c known h. elim h [ inl cancelled ↦ absurd cancelled | inr failed ↦ absurd (put_not_failed failed.0 failed.1) ]) (λ path h. absurd (has [] path h)) (λ temp h. absurd (has [] temp h))
      (λ re. absurd (renames_or_removes path re.3 re.4 true (ap (λ (c : TaskCall). c.step.call) (only_call re.0 re.1) ∙ re.5)))
      (λ temp made. absurd (makes_or_removes path made.3 temp true (ap (λ (c : TaskCall). c.step.call) (only_call made.0 made.1) ∙ made.4)))
    where
      put_or_delete : op.Put ≡ op.Delete → ⊥
      put_or_delete e = let level : ◌≡◌ {A = ℕ} 2 4 = ap op_number e in absurd (omega arith)

      put_or_get : op.Put ≡ op.Get → ⊥
      put_or_get e = let level : ◌≡◌ {A = ℕ} 2 1 = ap op_number e in absurd (omega arith)

  moving_apart : AreFilesApart file_there (moving ∷ [])
  moving_apart = record {
    destinations = λ m n a b p to_a to_b. (one_task moving m a to_a.0).0 ∙ sym (one_task moving n b to_b.0).0;
    sources = λ m n a b p move to_b. no_file p (ap (λ (t : Task). t.dest) (sym (one_task moving n b to_b.0).1) ∙ to_b.1);
    moved_once = λ m n a b p move too. (one_task moving m a move.0).0 ∙ sym (one_task moving n b too.0).0;
    uploads = λ n a p move. ap (λ (t : Task). t.kind) (one_task moving n a move.0).1;
    one_way = λ m n a b p move is_b load. upload_downloads (ap (λ (t : Task). t.kind) (sym (one_task moving n b is_b).1) ∙ load);
    names = λ m n a b p to_a is_b load load_too temp. (one_task moving m a to_a.0).0 ∙ sym (one_task moving n b is_b).0;
    there = λ n a p to_a removal. absurd (upload_removes (ap (λ (t : Task). t.kind) (sym (one_task moving n a to_a.0).1) ∙ removal));
  }

  moved_met : IsMovedFileMet moving path
  moved_met = record {
    run = run_of moving_setting excused_none put_sent put_sent (take_away ∷ []);
    is_move = (refl, refl, refl);
    are_calls = record { keep = keep_moving; runs = (refl, tt); apart = moving_apart };
    removed = (take_away, (0, omega arith, refl), refl, path, refl);
  }

pub moved_file_is_met : MovedFileIsMet
moved_file_is_met bucket key path = moved_met bucket key path

pub removal_is_met : RemovalIsMet
removal_is_met path = done_met path

pub failed_removal_is_met : FailedRemovalIsMet
failed_removal_is_met path = failed_met path
