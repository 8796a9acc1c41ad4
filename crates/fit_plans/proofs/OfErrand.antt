-- The tasks of one errand: transfers of its kind, and removals.
use Rattle.std.proofs.Common.{◌≡◌, ◌&&◌, ◌⊎◌, Bool, true, false, ℕ, List, [], ◌∷◌, Option, Some, None, refl, subst, inl, inr, if◌then◌else◌}
use Rattle.std.specs.List.{AllByRecursion}
use Rattle.std.specs.Map.{values_of}
use Rattle.merged_names.proofs.Merges.{all_merged}
use Rattle.merged_names.specs.Merging.{merged}
use Rattle.s3_model.specs.declared.places.Entry.{Entry}
use Rattle.s3_model.specs.declared.places.Place.{Place}
use Rattle.s3_model.specs.declared.places.Place.TheVariants as place
use Rattle.s3_model.specs.declared.tasks.Kind.{Kind}
use Rattle.s3_model.specs.declared.tasks.Kind.TheVariants as kind
use Rattle.s3_model.specs.declared.tasks.Task.{Task}
use Rattle.shared_lemmas.proofs.Clashes.{none_is_some, some_is}
use Rattle.sync_plan.specs.declared.errand.Errand.{Errand}
use Rattle.sync_plan.specs.Errands.{dest_at, names_of, place_at, source_at}
use Rattle.sync_plan.specs.Plans.{is_kept_by, is_transferred, planned, removal_of, removal_task, tasks_for, transfer_of, transfer_task}

abbrev pub IsRemoval : Kind → Type 0
IsRemoval kind.RemoveObject = Unit {0}
IsRemoval kind.RemoveFile = Unit {0}
IsRemoval other = ⊥

-- of the errand's kind, or a removal
abbrev pub IsOf : Errand → Task → Type 0
IsOf errand task = (task.kind ≡ errand.kind) ⊎ IsRemoval task.kind

pub chosen_is : {X : Type 0} (b : Bool) (x y : X) → (if b then Some x else None) ≡ Some y → x ≡ y
chosen_is true x y e = some_is x y e
chosen_is false x y e = absurd (none_is_some y e)

module _ (errand : Errand) where
  abbrev IsOneOf : List ℕ × Task → Type 0
  IsOneOf item = IsOf errand item.1

  values_are : (items : List (List ℕ × Task)) → AllByRecursion IsOneOf items → AllByRecursion (IsOf errand) (values_of items)
  values_are [] h = tt
  values_are (item ∷ items) h = (h.0, values_are items h.1)

  transferred : (to : Place) (many : Bool) (names : List (List ℕ × Entry)) → AllByRecursion (λ name. (other : Option Entry) (task : Task) → transfer_of errand to many name other ≡ Some task → IsOneOf (name.0, task)) names
  transferred to many [] = tt
  transferred to many (name ∷ names) = (
    λ other task e. subst (IsOf errand) (chosen_is (is_transferred errand to many name other) (transfer_task errand (source_at errand.from many name.0) (dest_at to many name.0) name.1) task e) (inl refl),
    transferred to many names,
  )

  removal_is : (at : Place) (entry : Entry) → IsOf errand (removal_task at entry)
  removal_is (place.Object bucket key) entry = inr tt
  removal_is (place.File path) entry = inr tt

  one_removed : (to : Place) (name : List ℕ × Entry) (other : Option Entry) (task : Task) → removal_of errand to name other ≡ Some task → IsOf errand task
  one_removed to name (Some other) task e = absurd (none_is_some task e)
  one_removed to name None task e =
      subst (IsOf errand) (chosen_is (errand.remove_extra && is_kept_by errand name.0) (removal_task (place_at to name.0) name.1) task e) (removal_is (place_at to name.0) name.1)

  removed : (to : Place) (names : List (List ℕ × Entry)) → AllByRecursion (λ name. (other : Option Entry) (task : Task) → removal_of errand to name other ≡ Some task → IsOneOf (name.0, task)) names
  removed to [] = tt
  removed to (name ∷ names) = (λ other task e. one_removed to name other task e, removed to names)

  planned_are : (to : Place) (many : Bool) (source dest : List Entry) → AllByRecursion (IsOf errand) (planned errand to many source dest)
  unfolding planned
  planned_are to many source dest =
      values_are (merged (transfer_of errand to many) (removal_of errand to) (names_of errand.from many source) (names_of to many dest))
      (all_merged (transfer_of errand to many) (removal_of errand to) IsOneOf (names_of errand.from many source) (names_of to many dest) (transferred to many (names_of errand.from many source)) (removed to (names_of to many dest)))

  -- each task of a plan of transfers
  pub tasks_are : (to : Option Place) (many : Bool) (source dest : List Entry) → AllByRecursion (IsOf errand) (tasks_for errand to many source dest)
  tasks_are None many source dest = tt
  tasks_are (Some to) many source dest = planned_are to many source dest
