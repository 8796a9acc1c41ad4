-- Runs that make no calls on files: their files are told by none.
use Rattle.std.proofs.Common.{◌≡◌, ◌≢◌, ◌∙◌, ℕ, true, List, [], Option, Some, refl, sym, ap, subst, Contains, slice_get, ◌++◌, ◌∷◌, arith}
use Rattle.s3_model.specs.declared.answers.Class.{Class}
use Rattle.s3_model.specs.declared.outcomes.JobId.{JobId}
use Rattle.s3_model.specs.declared.places.Place.{Place}
use Rattle.s3_model.specs.declared.places.Place.TheVariants as place
use Rattle.s3_model.specs.declared.requests.Ask.{Ask}
use Rattle.s3_model.specs.declared.requests.Op.TheVariants as op
use Rattle.s3_model.specs.declared.tasks.Task.{Task}
use Rattle.s3_model.specs.Talks.{Talk}
use Rattle.shared_lemmas.proofs.Members.{has}
use Rattle.job_terms.specs.Dispatches.{Dispatched}
use Rattle.run_promise.specs.FileCalls.{AreFileCalls, AreFilesApart, TaskCall}
use Rattle.run_promise.specs.Truthful.{AreToldByCalls, Shown}
use Rattle.world_laws.specs.Promises.{IsByRequests}

module _ (Shows : Ask → ℕ → Talk → Class → List ℕ → Type 0) (shown : Shown) (dispatched coming : List Dispatched) where
  -- what makes the files be told by no call: none changed them, no warning names one, each task is one of requests that moves
  -- nothing, and no job brings or deletes a source
  pub record IsWithoutCalls : Type 0 where
    pub quiet : shown.file_calls ≡ []
    pub untouched : shown.held_after ≡ shown.setting.held
    pub none_left : shown.excused.left ≡ []
    pub none_untimed : shown.excused.untimed ≡ []
    pub tasks : (n : ℕ) (task : Task) → slice_get shown.setting.tasks n ≡ Some task → IsByRequests task
    pub keeps : (n : ℕ) (task : Task) → slice_get shown.setting.tasks n ≡ Some task → task.moves ≡ true → ⊥
    pub sends : (c : Dispatched) (n : ℕ) → Contains dispatched c → c.dispatch.job.task ≡ Some n → (c.dispatch.job.op ≢ op.Get) × (c.dispatch.job.op ≢ op.Delete)

  module _ (w : IsWithoutCalls) where
    in_none : {X : Type 0} (x : X) → Contains [] x → ⊥
    in_none x known = has [] x known

    object_or_file : (at : Place) (bucket key path : List ℕ) → at ≡ place.Object bucket key → at ≡ place.File path → ⊥
    object_or_file at bucket key path object file = apart (sym object ∙ file)
      where
        apart : place.Object bucket key ≡ place.File path → ⊥
        apart e = cc

    no_file : (n : ℕ) (task : Task) (path : List ℕ) → slice_get shown.setting.tasks n ≡ Some task → task.dest ≡ place.File path → ⊥
    no_file n task path is_task is_file = let by = w.tasks n task is_task in object_or_file task.dest by.bucket by.key path by.is_dest is_file

    keep : AreFileCalls Shows shown.setting shown.excused dispatched coming []
    keep = record {
      named = λ c known. absurd (in_none c known);
      in_order = λ i j d less inside. absurd (omega arith);
      dry = λ dry. refl;
      order = λ front earlier later comes among same. absurd (nothing_comes front later comes);
      stops = λ c known why. absurd (in_none c known);
      made = λ front c temp comes uses. absurd (nothing_comes front c comes);
      made_first = λ get n number known is_get. absurd ((w.sends get n known (ap (λ (j : JobId). j.task) is_get)).0 (ap (λ (j : JobId). j.op) is_get));
      writes = λ c task temp at bytes fine known is_task is. absurd (in_none c known);
      renames = λ front c task temp dest fault comes is_task is. absurd (nothing_comes front c comes);
      stamps = λ n renamed. absurd (in_none renamed.0 renamed.1);
      stamps_last = λ front c path micros fine comes is. absurd (nothing_comes front c comes);
      untimed = λ c path micros known is. absurd (in_none c known);
      untimed_only = λ path known. absurd (in_none path (subst (λ (all : List (List ℕ)). Contains all path) w.none_untimed known));
      drops = λ n temp made. absurd (in_none made.0 made.1);
      left = λ c temp known is. absurd (in_none c known);
      left_only = λ temp known. absurd (in_none temp (subst (λ (all : List (List ℕ)). Contains all temp) w.none_left known));
      moves_last = λ c task path fine known is_task uploads is. absurd (in_none c known);
      deletes_last = λ delete n task known of_task deletes is_task loads. absurd ((w.sends delete n known of_task).1 deletes);
    }
      where
        nothing_comes : (front : List TaskCall) (c : TaskCall) → (back : List TaskCall) × ([] ≡ front ++ c ∷ back) → ⊥
        nothing_comes [] c comes = no_item comes.1
          where
            no_item : {xs : List TaskCall} → ◌≡◌ {A = List TaskCall} [] (c ∷ xs) → ⊥
            no_item e = cc
        nothing_comes (x ∷ front) c comes = no_item comes.1
          where
            no_item : {xs : List TaskCall} → ◌≡◌ {A = List TaskCall} [] (x ∷ xs) → ⊥
            no_item e = cc

    apart : AreFilesApart shown.setting.held shown.setting.tasks
    apart = record {
      destinations = λ m n a b path to_a to_b. absurd (no_file m a path to_a.0 to_a.1);
      sources = λ m n a b path move to. no_file n b path to.0 to.1;
      moved_once = λ m n a b path move other. absurd (w.keeps m a move.0 move.1);
      uploads = λ n task path move. absurd (w.keeps n task move.0 move.1);
      one_way = λ m n a b path move is_b loads. w.keeps m a move.0 move.1;
      names = λ m n a b path to is_b load loads named. absurd (no_file m a path to.0 to.1);
      there = λ n task path to removal. absurd (no_file n task path to.0 to.1);
    }

    pub told_by_none : AreToldByCalls Shows shown dispatched coming []
    told_by_none = record {
      told = sym w.quiet;
      keep = record { keep = keep; runs = tt; apart = apart };
      held_after = w.untouched;
      decided = λ n task how is_task is_how by. absurd (no_file n task by.path is_task by.is_dest);
      moved = λ n task how path move is_how. absurd (w.keeps n task move.0 move.1);
    }
