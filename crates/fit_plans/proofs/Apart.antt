-- What a plan that can be carried out makes sure of: requests or calls on files decide each task, and they are apart.
use Rattle.std.proofs.Common.{◌≡◌, ◌∙◌, ◌⊎◌, Bool, true, false, ℕ, List, Option, Some, None, refl, sym, subst, inl, inr, slice_get, IsSome}
use Rattle.std.specs.FinMap.{get}
use Rattle.std.specs.List.{AllByRecursion}
use Rattle.run_promise.specs.FileCalls.{AreFilesApart, IsTaskTo}
use Rattle.run_promise.specs.FileOutcomes.{IsByFiles}
use Rattle.run_promise.specs.Outcomes.{IsDecidedByRequest}
use Rattle.s3_model.specs.Files.{HeldFile}
use Rattle.s3_model.specs.Maps.{MapOf}
use Rattle.s3_model.specs.TempNames.{is_temp_name}
use Rattle.s3_model.specs.declared.places.Place.{Place}
use Rattle.s3_model.specs.declared.places.Place.TheVariants as place
use Rattle.s3_model.specs.declared.tasks.Kind.{Kind}
use Rattle.s3_model.specs.declared.tasks.Kind.TheVariants as kind
use Rattle.s3_model.specs.declared.tasks.Task.{Task}
use Rattle.shared_lemmas.proofs.Clashes.{false_true}
use Rattle.sync_plan.proofs.PlanLemmas.{all_at}
use Rattle.sync_plan.specs.Fit.{IsFit, IsOfKind}
use Rattle.sync_plan.specs.declared.errand.Errand.{Errand}
use Rattle.world_laws.proofs.Rows.{place_is, source_is}
use Rattle.world_laws.specs.Promises.{IsByRequests}
use Rattle.world_laws.specs.Tasks.{AreApart}
use Rattle.fit_plans.proofs.OfErrand.{IsOf, IsRemoval}

-- ---- one task

upload_removes : kind.Upload ≡ kind.RemoveObject → ⊥
upload_removes e = cc

copy_removes : kind.Copy ≡ kind.RemoveObject → ⊥
copy_removes e = cc

download_removes : kind.Download ≡ kind.RemoveFile → ⊥
download_removes e = cc

removal_loads : kind.RemoveFile ≡ kind.Download → ⊥
removal_loads e = cc

up_or_down : (k : Kind) → k ≡ kind.Upload → k ≡ kind.Download → ⊥
up_or_down k up down = clash (sym up ∙ down)
  where
    clash : kind.Upload ≡ kind.Download → ⊥
    clash e = cc

module _ (task : Task) where
  decided_by : (k : Kind) (source : Option Place) (dest : Place) (moves : Bool) → IsOfKind k source dest moves → task.kind ≡ k → task.source ≡ source → task.dest ≡ dest → task.moves ≡ moves → IsByRequests task ⊎ IsByFiles task
  decided_by kind.Upload (Some (place.File path)) (place.Object bucket key) moves is k s d m =
      inl (record { bucket = bucket; key = key; is_dest = d; decided = subst IsDecidedByRequest (sym k) tt; keeps = λ removes. absurd (upload_removes (sym k ∙ removes)) })
  decided_by kind.Copy (Some (place.Object b c)) (place.Object bucket key) moves is k s d m =
      inl (record { bucket = bucket; key = key; is_dest = d; decided = subst IsDecidedByRequest (sym k) tt; keeps = λ removes. absurd (copy_removes (sym k ∙ removes)) })
  decided_by kind.RemoveObject None (place.Object bucket key) false is k s d m =
      inl (record { bucket = bucket; key = key; is_dest = d; decided = subst IsDecidedByRequest (sym k) tt; keeps = λ removes. m })
  decided_by kind.Download (Some (place.Object bucket key)) (place.File path) moves is k s d m =
      inr (record { path = path; is_dest = d; decided = inl k; from = λ loads. (bucket, key, s); keeps = λ removes. absurd (download_removes (sym k ∙ removes)) })
  decided_by kind.RemoveFile None (place.File path) false is k s d m =
      inr (record { path = path; is_dest = d; decided = inr k; from = λ loads. absurd (removal_loads (sym k ∙ loads)); keeps = λ removes. m })
  decided_by k source dest moves is of_kind s d m = absurd is

  pub is_decided : IsOfKind task.kind task.source task.dest task.moves → IsByRequests task ⊎ IsByFiles task
  is_decided is = decided_by task.kind task.source task.dest task.moves is refl refl refl refl

object_file : (bucket key path : List ℕ) → Some (place.Object bucket key) ≡ Some (place.File path) → ⊥
object_file bucket key path e = cc

-- only an upload moves a file
moves_up : (k : Kind) (source : Option Place) (dest : Place) (moves : Bool) (path : List ℕ) → IsOfKind k source dest moves → moves ≡ true → source ≡ Some (place.File path) → k ≡ kind.Upload
moves_up kind.Upload source dest moves path is move from = refl
moves_up kind.Download (Some (place.Object bucket key)) (place.File to) moves path is move from = absurd (object_file bucket key path from)
moves_up kind.Copy (Some (place.Object bucket key)) (place.Object b c) moves path is move from = absurd (object_file bucket key path from)
moves_up kind.RemoveObject None (place.Object bucket key) false path is move from = absurd (false_true move)
moves_up kind.RemoveFile None (place.File to) false path is move from = absurd (false_true move)
moves_up k source dest moves path is move from = absurd is

-- ---- a plan

module _ (errand : Errand) (most : ℕ) (tasks : List Task) (fit : IsFit most tasks) (each : AllByRecursion (IsOf errand) tasks) where
  pub are_decided : (n : ℕ) (task : Task) → slice_get tasks n ≡ Some task → IsByRequests task ⊎ IsByFiles task
  are_decided n task at_n = is_decided task (fit.kinds n task at_n)

  pub are_apart : AreApart tasks
  are_apart = record {
    destinations = λ m n a b bucket key at_m at_n of_a of_b. fit.destinations m n a b at_m at_n (place_is a.dest bucket key of_a ∙ sym (place_is b.dest bucket key of_b));
    sources = λ m n a b bucket key at_m at_n moves of_a of_b. fit.apart m n a b (place.Object bucket key) at_m at_n (source_is a.source bucket key of_a) (place_is b.dest bucket key of_b);
  }

  of_errand : (k : Kind) (n : ℕ) (task : Task) → slice_get tasks n ≡ Some task → task.kind ≡ k → ¬ (IsRemoval k) → errand.kind ≡ k
  of_errand k n task at_n is other = elim (all_at (IsOf errand) tasks n task each at_n) [
    | inl same ↦ sym same ∙ is
    | inr removal ↦ absurd (other (subst IsRemoval is removal))
  ]

  -- a plan that uploads downloads nothing
  one_way : (m n : ℕ) (a b : Task) → slice_get tasks m ≡ Some a → slice_get tasks n ≡ Some b → a.kind ≡ kind.Upload → b.kind ≡ kind.Download → ⊥
  one_way m n a b at_m at_n up down = up_or_down errand.kind (of_errand kind.Upload m a at_m up (λ h. h)) (of_errand kind.Download n b at_n down (λ h. h))

  -- Where no two downloads go to a path with the name of a temporary file, and the files that are to be removed are there.
  pub files_apart : (held : MapOf HeldFile)
      → ((m n : ℕ) (a b : Task) (path : List ℕ) → IsTaskTo tasks m a path → slice_get tasks n ≡ Some b → a.kind ≡ kind.Download → b.kind ≡ kind.Download → is_temp_name path ≡ true → m ≡ n)
      → ((n : ℕ) (task : Task) (path : List ℕ) → IsTaskTo tasks n task path → task.kind ≡ kind.RemoveFile → IsSome (get held path)) → AreFilesApart held tasks
  files_apart held names there = record {
    destinations = λ m n a b path to_a to_b. fit.destinations m n a b to_a.0 to_b.0 (to_a.1 ∙ sym to_b.1);
    sources = λ m n a b path move to. fit.apart m n a b (place.File path) move.0 to.0 move.2 to.1;
    moved_once = λ m n a b path move other. fit.sources m n a b (place.File path) move.0 other.0 move.2 other.2;
    uploads = λ n task path move. moves_up task.kind task.source task.dest task.moves path (fit.kinds n task move.0) move.1 move.2;
    one_way = λ m n a b path move is_b loads. one_way m n a b move.0 is_b (moves_up a.kind a.source a.dest a.moves path (fit.kinds m a move.0) move.1 move.2) loads;
    names = names;
    there = there;
  }
