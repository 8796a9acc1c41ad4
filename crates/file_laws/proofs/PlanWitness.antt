-- A plan whose file could not be removed is carried out, where this is counted.
use Rattle.shared_lemmas.proofs.Lists.{no_middle}
use Rattle.std.proofs.Common.{◌≡◌, ◌∙◌, ℕ, zero, suc, true, false, List, [], ◌∷◌, Some, None, Ok, refl, sym, ap, subst, inl, inr, Contains, length, slice_get, arith}
use Rattle.std.specs.Prelude.{IsSome}
use Rattle.std.specs.Cmp.Lexicographic.{nat_list_cmp_total}
use Rattle.std.specs.FinMap.{empty, get}
use Rattle.s3_model.specs.declared.outcomes.Cause.{Cause}
use Rattle.s3_model.specs.declared.outcomes.Cause.TheVariants as cause
use Rattle.s3_model.specs.declared.outcomes.FileCall.TheVariants as call
use Rattle.s3_model.specs.declared.outcomes.Outcome.{Outcome}
use Rattle.s3_model.specs.declared.outcomes.Outcome.TheVariants as outcome
use Rattle.s3_model.specs.declared.tasks.Task.{Task}
use Rattle.s3_model.specs.Files.{HeldFile}
use Rattle.run_promise.specs.Carried.{IsCarried}
use Rattle.job_terms.specs.Dispatches.{Dispatched}
use Rattle.run_promise.specs.Outcomes.{HasOutcome}
use Rattle.run_promise.specs.Schedule.{IsFailed, IsSchedule, Setting}
use Rattle.local_files.specs.Calls.{Remove}
use Rattle.world_laws.specs.Promises.{IsCarriedOut}
use Rattle.world_laws.specs.Tasks.{MayBeNew}
use Rattle.world_laws.specs.Rounds.{AreNone, Told, ToldStatus, no_text}
use Rattle.world_laws.proofs.ScheduleWitness.{limits_are_valid, none_created, one_task, rounds_schedule}
use Rattle.shared_lemmas.proofs.Maps.{get-insert_same, text_exact}
use Rattle.shared_lemmas.proofs.Members.{Has, has}
use Rattle.run_promise.specs.FileOutcomes.{HasFailedAct, IsByFiles, IsDestChanged, IsShownByCalls}
use Rattle.file_laws.specs.FileEnds.{HasFailedCall}
use Rattle.file_laws.specs.PlanEnds.{IsCountedByCalls}
use Rattle.run_promise.specs.FileCalls.{AreFileCalls, AreFilesApart, IsRemoved, TaskCall}
use Rattle.file_laws.specs.FileWitnesses.{file_removal}
use Rattle.file_laws.specs.PlanWitnesses.{IsRemovalCarriedOut, PlanIsMet, UncountedIsRefused, failed_removal, one_file, removal_shown}
use Rattle.file_laws.proofs.CallWitness.{calls_keep, still_apart}
use Rattle.file_laws.proofs.Keeping.{removal_downloads, same_path, some_is_there, true_false, upload_removes}
use Rattle.file_laws.proofs.RemovalWitness.{failed_or_fine, makes_or_removes, renames_or_removes}

not_both : false ≡ true → ⊥
not_both e = cc

module _ (path : List ℕ) where
  abbrev task : Task
  task = file_removal path

  abbrev calls : List TaskCall
  calls = failed_removal path

  abbrev setting : Setting
  setting = (removal_shown true path).setting

  abbrev removal : TaskCall
  removal = record { task = 0; events_before = 0; step = record { call = Remove path false; held = one_file path } }

  no_dispatched : (c : Dispatched) → Contains [] c → ⊥
  no_dispatched c known = has [] c known

  not_failed : (c : Dispatched) → IsFailed Told setting [] c → ⊥
  not_failed c failed = no_middle failed.0 c failed.1 failed.2

  schedule : IsSchedule Told setting AreNone [] []
  schedule = rounds_schedule setting [] tt (λ r h. absurd h) AreNone refl refl (λ failed c is_failed known before. not_failed failed is_failed)
      (none_created setting [] tt (λ r h. absurd h) (λ r h. absurd h)) (λ c n known of. absurd (no_dispatched c known)) (λ c n other known of is moves is_op. absurd (no_dispatched c known))

  carried : IsCarried Told no_text [] 80 setting [] (λ lane. []) (λ lane. []) [] []
  carried = record {
    shown = refl;
    comes = λ c known. absurd (no_dispatched c known);
    lanes = λ c known. absurd (no_dispatched c known);
    unused_lanes = λ lane beyond. (refl, refl);
    nothing_else = λ place lane job tries e. absurd (none_there e);
    in_turn = λ lane i j d before inside. absurd (omega arith);
    gained = λ lane. refl;
    noted = λ lane. (0, omega arith, ((λ h. has [] _ h), inl refl));
    marks = λ c k attempt known at. absurd (no_dispatched c known);
    again = λ c k attempt known at before. absurd (no_dispatched c known);
    given_again = λ i j d before inside. absurd (omega arith);
    at_most = λ c known. absurd (no_dispatched c known);
    to_the_end = λ c attempt known last goes. absurd (no_dispatched c known);
    silent = λ c known none. absurd (no_dispatched c known);
  }
    where
      none_there : {X : Type 0} {x : X} → None ≡ Some x → ⊥
      none_there e = cc

  only : (c : TaskCall) → Contains calls c → removal ≡ c
  only c known = by (has calls c known)
    where
      by : Has calls c → removal ≡ c
      by (inl e) = e
      by (inr h) = absurd h

  keep : AreFileCalls Told setting (removal_shown true path).excused [] [] calls
  keep = calls_keep Told setting (removal_shown true path).excused [] [] task (λ n other is. (one_task task n other is).1) refl calls
      (record { first = refl; is_call = refl; warned = tt; follows = tt; uses = tt; writes = tt; renames = tt; stamps = tt }, tt)
      refl (λ c known upload. absurd (upload_removes (sym upload))) (tt, tt) (λ c known is. no_dispatched c known) (λ c known is_get. absurd (no_dispatched c known))
      (λ c known h. elim h [ inl cancelled ↦ absurd cancelled | inr failed ↦ absurd (not_failed failed.0 failed.1) ]) (λ path h. absurd (has [] path h)) (λ temp h. absurd (has [] temp h))
      (λ re. absurd (renames_or_removes path re.3 re.4 false (ap (λ (c : TaskCall). c.step.call) (only re.0 re.1) ∙ re.5)))
      (λ temp made. absurd (makes_or_removes path made.3 temp false (ap (λ (c : TaskCall). c.step.call) (only made.0 made.1) ∙ made.4)))

  there : get (one_file path) path ≡ Some (record { bytes = []; micros = 0 })
  there = get-insert_same nat_list_cmp_total text_exact empty path (record { bytes = []; micros = 0 })

  apart : AreFilesApart (one_file path) (task ∷ [])
  apart = still_apart (one_file path) task refl (λ p removal is_dest. subst (λ (q : List ℕ). IsSome (get (one_file path) q)) (same_path path p is_dest) (some_is_there (get (one_file path) path) (record { bytes = []; micros = 0 }) there))

  failed : HasFailedAct calls 0
  failed = (removal, (0, omega arith, refl), refl, tt)

  cause_is : (n : ℕ) (of_task : Task) (how : Outcome) → slice_get (task ∷ []) n ≡ Some of_task → slice_get (outcome.Failed (cause.Files call.Remove) ∷ []) n ≡ Some how
      → (P : ℕ → Task → Outcome → Type 0) → P 0 task (outcome.Failed (cause.Files call.Remove)) → P n of_task how
  cause_is zero of_task how is_task at_how P here = subst (λ (h : Outcome). P 0 of_task h) (some_outcome at_how) (subst (λ (t : Task). P 0 t (outcome.Failed (cause.Files call.Remove))) (sym (one_task task 0 of_task is_task).1) here)
    where
      some_outcome : Some (outcome.Failed (cause.Files call.Remove)) ≡ Some how → outcome.Failed (cause.Files call.Remove) ≡ how
      some_outcome e = cc
  cause_is (suc n) of_task how is_task at_how P here = absurd (none_there is_task)
    where
      none_there : None ≡ Some of_task → ⊥
      none_there e = cc

  caused : HasOutcome Told ToldStatus (HasFailedCall calls) setting [] [] 0 task (outcome.Failed (cause.Files call.Remove))
  caused = (λ decided. no_dispatched decided.0 decided.1, λ left_open. no_dispatched left_open.0.0 left_open.0.1, (tt, (removal, (0, omega arith, refl), refl, tt)), λ fresh. absurd (true_false (sym fresh)))

  shows : IsShownByCalls (outcome.Failed (cause.Files call.Remove)) (IsRemoved calls 0) (HasFailedAct calls 0)
  shows = (λ removed. failed_or_fine path removed.3 (ap (λ (c : TaskCall). c.step.call) (only removed.0 removed.1) ∙ removed.4), tt)

  over_wires : IsCarriedOut Told ToldStatus AreNone (HasFailedCall calls) no_text [] 80 (removal_shown true path) [] []
  over_wires = record {
    schedule = schedule;
    carried = carried;
    outcomes = inl refl;
    causes = λ n of_task how is_task at_how. cause_is n of_task how is_task at_how (λ m t h. HasOutcome Told ToldStatus (HasFailedCall calls) setting [] [] m t h) caused;
    questions = λ c known none. absurd (no_dispatched c known);
    apart = record {
      destinations = λ m n a b bucket key is_a is_b here there. (one_task task m a is_a).0 ∙ sym (one_task task n b is_b).0;
      sources = λ m n a b bucket key is_a is_b moves is_source is_dest. true_false (sym moves ∙ ap (λ (t : Task). t.moves) (one_task task m a is_a).1);
    };
    one_class = λ n of_task is_task fresh. absurd (true_false (sym fresh ∙ ap (λ (t : Task). t.fresh) (one_task task n of_task is_task).1));
    threshold = omega arith;
    limits = limits_are_valid;
  }

  by_files : IsByFiles task
  by_files = record { path = path; is_dest = refl; decided = inr refl; from = λ load. absurd (removal_downloads load); keeps = λ removal. refl }

  met : IsRemovalCarriedOut true path [] []
  met = record {
    over_wires = over_wires;
    over_files = record {
      told = refl;
      keep = record { keep = keep; runs = (refl, tt); apart = apart };
      held_after = refl;
      decided = λ n of_task how is_task at_how by. cause_is n of_task how is_task at_how (λ m t h. IsShownByCalls h (IsDestChanged t.kind calls m) (HasFailedAct calls m)) shows;
      moved = λ n of_task how p move at_how. absurd (true_false (sym move.1 ∙ ap (λ (t : Task). t.moves) (one_task task n of_task move.0).1));
    };
    tasks = λ n of_task is_task. inr (subst IsByFiles (sym (one_task task n of_task is_task).1) by_files);
    counted = λ n of_task is_task by. subst (λ (m : ℕ). IsCountedByCalls setting calls m) (sym (one_task task n of_task is_task).0) ((λ any. refl), (λ is. inl failed));
    sources = λ run same of_shown n of_task how is_task at_how may. absurd (cause_is n of_task how is_task at_how (λ m t h. MayBeNew h → ⊥) (λ never. never) may);
  }

pub plan_is_met : PlanIsMet
plan_is_met path = met path

pub uncounted_is_refused : UncountedIsRefused
uncounted_is_refused path dispatched coming o = not_both ((o.counted 0 (file_removal path) refl (by_files path)).0 (failed path))
