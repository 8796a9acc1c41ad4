-- Outcomes of a moved upload that its file does not bear out.
use Rattle.std.proofs.Common.{◌≡◌, ◌∙◌, ℕ, true, List, [], ◌∷◌, Some, refl, sym, ap, subst, inl, slice_get}
use Rattle.std.specs.Cmp.Lexicographic.{nat_list_cmp_total}
use Rattle.std.specs.FinMap.{empty, get}
use Rattle.s3_model.specs.declared.answers.Class.{Class}
use Rattle.s3_model.specs.declared.outcomes.Outcome.{Outcome}
use Rattle.s3_model.specs.declared.outcomes.Outcome.TheVariants as outcome
use Rattle.s3_model.specs.declared.places.Place.TheVariants as place
use Rattle.s3_model.specs.declared.requests.Ask.{Ask}
use Rattle.s3_model.specs.declared.tasks.Kind.TheVariants as kind
use Rattle.s3_model.specs.declared.tasks.Task.{Task}
use Rattle.s3_model.specs.Files.{HeldFile}
use Rattle.s3_model.specs.Maps.{MapOf}
use Rattle.s3_model.specs.Talks.{Talk}
use Rattle.job_terms.specs.Dispatches.{Dispatched}
use Rattle.local_files.specs.Calls.{Call, Remove}
use Rattle.run_promise.specs.FileCalls.{AreFilesApart, IsRemoved, TaskCall}
use Rattle.run_promise.specs.FileOutcomes.{HasFailedAct, IsMoveShown}
use Rattle.run_promise.specs.Schedule.{Setting}
use Rattle.run_promise.specs.Truthful.{AreToldByCalls, Shown}
use Rattle.shared_lemmas.proofs.Clashes.{some_is, some_is_none}
use Rattle.shared_lemmas.proofs.Maps.{get-insert_same, get-remove_same, text_exact}
use Rattle.world_laws.proofs.ScheduleWitness.{one_task}
use Rattle.file_laws.proofs.Keeping.{upload_downloads}
use Rattle.promise_examples.specs.GivenAgain.{bytes}
use Rattle.promise_examples.specs.Reading.{Reads}
use Rattle.promise_examples.specs.Refused.{path}
use Rattle.promise_examples.proofs.BothPlan.{object_is_no_file}
use Rattle.promise_examples.proofs.Concrete.{at}
use Rattle.rare_runs.specs.MovedUpload.{moved, removes_at, setting}
use Rattle.rare_runs.proofs.MovedSource.{moved_upload_is_met}
use Rattle.refused_outcomes.specs.MovedFiles.{EachMovedFileIsRefused, MovedFileIsTold, MovedFilesAreRefused, came_to, gone, removing}
use Rattle.refused_outcomes.proofs.CallEnds.{called, ends_with, made_as, none_is}
use Rattle.refused_outcomes.proofs.OneTask.{only}

no_file : (n : ℕ) (task : Task) (p : List ℕ) → slice_get (moved ∷ []) n ≡ Some task → task.dest ≡ place.File p → ⊥
no_file n task p = only moved (λ k t. t.dest ≡ place.File p → ⊥) (object_is_no_file (98 ∷ []) (117 ∷ []) p) n task

apart : AreFilesApart setting.held (moved ∷ [])
apart = record {
  destinations = λ m n a b p to_a to_b. absurd (no_file m a p to_a.0 to_a.1);
  sources = λ m n a b p move to_b. no_file n b p to_b.0 to_b.1;
  moved_once = λ m n a b p move too. (one_task moved m a move.0).0 ∙ sym (one_task moved n b too.0).0;
  uploads = λ n task p move. only moved (λ k t. t.kind ≡ kind.Upload) refl n task move.0;
  one_way = λ m n a b p move is_b loads. only moved (λ k t. t.kind ≡ kind.Download → ⊥) upload_downloads n b is_b loads;
  names = λ m n a b p to_a is_b loads loads_too named. absurd (no_file m a p to_a.0 to_a.1);
  there = λ n task p to_x removal. absurd (no_file n task p to_x.0 to_x.1);
}

pub moved_file_is_told : MovedFileIsTold
moved_file_is_told page_of =
    let run = moved_upload_is_met page_of in
    let calls = removes_at 2 ∷ [] in
    record {
      dispatched = run.jobs;
      coming = run.jobs;
      are_jobs = run.are_jobs;
      files = record {
        told = refl;
        keep = record { keep = run.keep; runs = (refl, tt); apart = apart };
        held_after = refl;
        decided = λ n task how is at_how by. absurd (no_file n task by.path is by.is_dest);
        moved = λ n task how p move at_how. only moved (λ k t. slice_get (outcome.Done ∷ []) k ≡ Some how → IsMoveShown how (IsRemoved calls k) (HasFailedAct calls k))
            (λ e. subst (λ (o : Outcome). IsMoveShown o (IsRemoved calls 0) (HasFailedAct calls 0)) (some_is outcome.Done how e) ((removes_at 2, at calls 0 (removes_at 2) refl, refl, path, refl), tt))
            n task move.0 at_how;
      };
    }

module _ (Shows : Ask → ℕ → Talk → Class → List ℕ → Type 0) where
  -- its file was removed, where the files tell so
  was_removed : (shown : Shown) (dispatched coming : List Dispatched) (calls : List TaskCall) → shown.setting ≡ setting → AreToldByCalls Shows shown dispatched coming calls → called calls ≡ removing → IsRemoved calls 0
  was_removed shown dispatched coming calls same t told =
      let made = made_as removing calls told (Remove path true) (inl refl) in
      let of = t.keep.keep.named made.0 made.1 in
      (made.0, made.1, (one_task moved made.0.task of.0 (subst (λ (s : Setting). slice_get s.tasks made.0.task ≡ Some of.0) same of.1)).0, path, made.2)

  refused : MovedFilesAreRefused Shows
  refused = record {
    stays = λ dispatched coming calls t.
        let removed = (t.moved 0 moved outcome.Done path (refl, refl, refl) refl).0 in
        none_is (λ (k : Call). k ≡ Remove removed.3 true) [] calls t.told tt removed.0 removed.1 removed.4;
    copied = λ reason dispatched coming calls t. (t.moved 0 moved (outcome.Copied reason) path (refl, refl, refl) refl).0 (was_removed (came_to removing gone (outcome.Copied reason)) dispatched coming calls refl t t.told);
    failed = λ reason dispatched coming calls t. (t.moved 0 moved (outcome.Failed reason) path (refl, refl, refl) refl).0 (was_removed (came_to removing gone (outcome.Failed reason)) dispatched coming calls refl t t.told);
    stands = λ dispatched coming calls t.
        let last = ends_with setting.held calls [] (Remove path true) t.told t.keep.runs in
        some_is_none _ (sym (get-insert_same nat_list_cmp_total text_exact empty path (record { bytes = bytes; micros = 0 })) ∙ ap (λ (m : MapOf HeldFile). get m path) (t.held_after ∙ last.leads) ∙ get-remove_same nat_list_cmp_total text_exact _ path);
  }

pub each_moved_file_is_refused : EachMovedFileIsRefused
each_moved_file_is_refused page_of = refused (Reads page_of)
