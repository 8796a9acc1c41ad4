-- The files that a plan of `sync` removes are there, where its entries are files of the tree below its folder.
use Rattle.std.proofs.Common.{append_assoc, ◌≡◌, ◌∙◌, ◌&&◌, ◌++◌, Bool, true, false, ℕ, List, [], ◌∷◌, Option, Some, None, refl, sym, ap, subst, filter, map, IsSome, if◌then◌else◌}
use Rattle.std.specs.Prelude.{codes, not}
use Rattle.std.specs.FinMap.{get}
use Rattle.std.specs.List.{AllByRecursion}
use Rattle.std.specs.Map.{values_of}
use Rattle.merged_names.proofs.Merges.{all_merged}
use Rattle.merged_names.specs.Merging.{merged}
use Rattle.run_promise.specs.FileCalls.{IsTaskTo}
use Rattle.s3_model.proofs.SlashLemmas.{last_slash}
use Rattle.s3_model.specs.Files.{FileStore, HeldFile, ends_in_slash}
use Rattle.s3_model.specs.Maps.{MapOf}
use Rattle.s3_model.specs.declared.places.Entry.{Entry}
use Rattle.s3_model.specs.declared.places.Place.{Place}
use Rattle.s3_model.specs.declared.places.Place.TheVariants as place
use Rattle.s3_model.specs.declared.tasks.Kind.{Kind}
use Rattle.s3_model.specs.declared.tasks.Kind.TheVariants as kind
use Rattle.s3_model.specs.declared.tasks.Task.{Task}
use Rattle.s3_paths.specs.Names.{local_path}
use Rattle.shared_lemmas.proofs.Clashes.{none_is_some}
use Rattle.sync_plan.proofs.PlanLemmas.{all_at}
use Rattle.sync_plan.specs.declared.errand.Errand.{Errand}
use Rattle.sync_plan.specs.Errands.{TransfersBetween, dest_at, is_marker, named, names_of, source_at}
use Rattle.sync_plan.specs.Plans.{is_kept_by, is_transferred, planned, removal_of, removal_task, transfer_of, transfer_task}
use Rattle.tree_walk.proofs.PathLemmas.{at_none, at_slash}
use Rattle.tree_walk.specs.Trees.{Describes, path_at}
use Rattle.fit_plans.proofs.OfErrand.{chosen_is}

-- a path below a folder, in both words
same_path : (root below : List ℕ) → local_path root below ≡ path_at root below
same_path root below = by (ends_in_slash root) refl
  where
    by : (slash : Bool) → ends_in_slash root ≡ slash → local_path root below ≡ path_at root below
    by true e =
        let chosen : local_path root below ≡ root ++ below = ap (λ (slash : Bool). if slash then (root ++ below) else (root ++ codes "/" ++ below)) (last_slash root ∙ e) in
        chosen ∙ at_slash root below e
    by false e =
        let chosen : local_path root below ≡ (root ++ 47 ∷ []) ++ below = ap (λ (slash : Bool). if slash then (root ++ below) else (root ++ codes "/" ++ below)) (last_slash root ∙ e) in
        chosen ∙ append_assoc root (47 ∷ []) below ∙ at_none root below e

file_is : (a b : List ℕ) → place.File a ≡ place.File b → a ≡ b
file_is a b e = cc

-- the file that it removes, if it removes one, is there
abbrev pub RemovesHeld : MapOf HeldFile → Task → Type 0
RemovesHeld held task = (path : List ℕ) → task.kind ≡ kind.RemoveFile → task.dest ≡ place.File path → IsSome (get held path)

module _ (errand : Errand) (store : FileStore) (root : List ℕ) (between : TransfersBetween errand.kind errand.from errand.to) where
  abbrev Holds : List ℕ × Task → Type 0
  Holds item = RemovesHeld store.held item.1

  transferred : (to : Place) (many : Bool) (names : List (List ℕ × Entry)) → AllByRecursion (λ name. (other : Option Entry) (task : Task) → transfer_of errand to many name other ≡ Some task → Holds (name.0, task)) names
  transferred to many [] = tt
  transferred to many (name ∷ names) = (
    λ other task e. subst (RemovesHeld store.held) (chosen_is (is_transferred errand to many name other) (transfer_task errand (source_at errand.from many name.0) (dest_at to many name.0) name.1) task e)
        (λ path removes at. absurd (subst (λ (k : Kind). TransfersBetween k errand.from errand.to) removes between)),
    transferred to many names,
  )

  one_there : (entry : Entry) → Describes store root entry → (other : Option Entry) (task : Task) → removal_of errand (place.File root) (entry.key, entry) other ≡ Some task → RemovesHeld store.held task
  one_there entry d (Some other) task e = absurd (none_is_some task e)
  one_there entry d None task e =
      subst (RemovesHeld store.held) (chosen_is (errand.remove_extra && is_kept_by errand entry.key) (removal_task (place.File (local_path root entry.key)) entry) task e)
      (λ path removes at. subst (λ (p : List ℕ). IsSome (get store.held p)) (sym (same_path root entry.key) ∙ file_is (local_path root entry.key) path at) (subst (λ (o : Option HeldFile). IsSome o) (sym d.held) refl))

  abbrev IsThere : List ℕ × Entry → Type 0
  IsThere name = (other : Option Entry) (task : Task) → removal_of errand (place.File root) name other ≡ Some task → Holds (name.0, task)

  named_there : (entries : List Entry) → AllByRecursion (Describes store root) entries → AllByRecursion IsThere (map (named (place.File root) true) (filter (λ entry. not (is_marker entry)) entries))
  named_there [] h = tt
  named_there (entry ∷ entries) h = by (not (is_marker entry)) (named_there entries h.1)
    where
      by : (kept : Bool) → AllByRecursion IsThere (map (named (place.File root) true) (filter (λ entry. not (is_marker entry)) entries))
          → AllByRecursion IsThere (map (named (place.File root) true) (if kept then entry ∷ filter (λ entry. not (is_marker entry)) entries else filter (λ entry. not (is_marker entry)) entries))
      by true rest = (one_there entry h.0, rest)
      by false rest = rest

  names_there : (dest : List Entry) → AllByRecursion (Describes store root) dest → AllByRecursion IsThere (names_of (place.File root) true dest)
  unfolding names_of
  names_there dest h = named_there dest h

  -- each task of a plan between a place and a folder
  pub planned_held : (source dest : List Entry) → AllByRecursion (Describes store root) dest → AllByRecursion (RemovesHeld store.held) (planned errand (place.File root) true source dest)
  unfolding planned
  planned_held source dest h =
      values_held (merged (transfer_of errand (place.File root) true) (removal_of errand (place.File root)) (names_of errand.from true source) (names_of (place.File root) true dest))
      (all_merged (transfer_of errand (place.File root) true) (removal_of errand (place.File root)) Holds (names_of errand.from true source) (names_of (place.File root) true dest)
      (transferred (place.File root) true (names_of errand.from true source)) (names_there dest h))
    where
      values_held : (items : List (List ℕ × Task)) → AllByRecursion Holds items → AllByRecursion (RemovesHeld store.held) (values_of items)
      values_held [] all = tt
      values_held (item ∷ items) all = (all.0, values_held items all.1)

-- so each file that a task removes is there
pub removed_there : (held : MapOf HeldFile) (tasks : List Task) → AllByRecursion (RemovesHeld held) tasks → (n : ℕ) (task : Task) (path : List ℕ) → IsTaskTo tasks n task path → task.kind ≡ kind.RemoveFile → IsSome (get held path)
removed_there held tasks each n task path to removes = all_at (RemovesHeld held) tasks n task each to.0 path removes to.1
