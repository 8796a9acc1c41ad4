-- The plan of a removal is fit.
use Rattle.std.proofs.Common.{◌≡◌, ◌∙◌, ◌≤◌, ℕ, Bool, true, false, cond, List, [], ◌∷◌, Some, None, IsTrue, refl, sym, ap, subst, inl, inr, length, filter, map, slice_get}
use Rattle.std.specs.List.{AllByRecursion}
use Rattle.std.specs.Map.{values_of}
use Rattle.s3_model.specs.ContentTypes.{last_name}
use Rattle.s3_model.specs.declared.faults.PlanFault.{PlanFault}
use Rattle.s3_model.specs.declared.faults.PlanFault.TheVariants as fault
use Rattle.s3_model.specs.declared.places.Entry.{Entry}
use Rattle.s3_model.specs.declared.places.Place.{Place}
use Rattle.s3_model.specs.declared.places.Place.TheVariants as place
use Rattle.s3_model.specs.declared.tasks.Task.{Task}
use Rattle.shared_lemmas.proofs.Clashes.{none_is_some}
use Rattle.shared_lemmas.proofs.Members.{Has, has}
use Rattle.merged_names.specs.Merging.{AllAbove, Ascend}
use Rattle.sync_plan.specs.declared.errand.Errand.{Errand}
use Rattle.sync_plan.specs.Errands.{AreEntries, named, source_at, text_of}
use Rattle.sync_plan.specs.Fit.{IsFit, IsJudged, IsOfKind, IsRefused, size_fault}
use Rattle.sync_plan.specs.Plans.{is_kept_by, planned_removals, removed}
use Rattle.sync_plan.proofs.FitLemmas.{removal_is, same_path}
use Rattle.sync_plan.proofs.PlanLemmas.{all_at, distinct, value_at}
use Rattle.sync_plan.proofs.SideLemmas.{all_names_ascend}

module _ (errand : Errand) where
  abbrev pair : List ℕ × Entry → List ℕ × Task
  pair name = (name.0, removed errand name)

  values : (names : List (List ℕ × Entry)) → values_of (map pair names) ≡ map (removed errand) names
  values [] = refl
  values (name ∷ names) = ap (λ (tasks : List Task). removed errand name ∷ tasks) (values names)

  -- ---- in order

  paired_above : (path : List ℕ) (names : List (List ℕ × Entry)) → AllAbove path names → AllAbove path (map pair names)
  paired_above path [] above = tt
  paired_above path (name ∷ names) above = (above.0, paired_above path names above.1)

  paired_ascend : (names : List (List ℕ × Entry)) → Ascend names → Ascend (map pair names)
  paired_ascend [] ascend = tt
  paired_ascend (name ∷ names) ascend = (paired_above name.0 names ascend.0, paired_ascend names ascend.1)

  kept_above : (path : List ℕ) (names : List (List ℕ × Entry)) → AllAbove path names → AllAbove path (filter (λ name. is_kept_by errand name.0) names)
  kept_above path [] above = tt
  kept_above path (name ∷ names) above =
      elim (is_kept_by errand name.0) as (λ (b : Bool). AllAbove path (cond b (name ∷ filter (λ n. is_kept_by errand n.0) names) (filter (λ n. is_kept_by errand n.0) names))) [
        | true ↦ (above.0, kept_above path names above.1)
        | false ↦ kept_above path names above.1
      ]

  kept_ascend : (names : List (List ℕ × Entry)) → Ascend names → Ascend (filter (λ name. is_kept_by errand name.0) names)
  kept_ascend [] ascend = tt
  kept_ascend (name ∷ names) ascend =
      elim (is_kept_by errand name.0) as (λ (b : Bool). Ascend (cond b (name ∷ filter (λ n. is_kept_by errand n.0) names) (filter (λ n. is_kept_by errand n.0) names))) [
        | true ↦ (kept_above name.0 names ascend.0, kept_ascend names ascend.1)
        | false ↦ kept_ascend names ascend.1
      ]

  -- ---- each of them

  record IsRemoval (item : List ℕ × Task) : Type 0 where
    pub source : item.1.source ≡ None
    pub dest : item.1.dest ≡ source_at errand.from errand.many item.0
    pub of_kind : IsOfKind item.1.kind item.1.source item.1.dest item.1.moves
    pub base : errand.many ≡ false → item.0 ≡ last_name (text_of errand.from)

  abbrev IsBased : List ℕ × Entry → Type 0
  IsBased name = errand.many ≡ false → name.0 ≡ last_name (text_of errand.from)

  all_based : (entries : List Entry) → AllByRecursion IsBased (map (named errand.from errand.many) entries)
  all_based [] = tt
  all_based (entry ∷ entries) = (base errand.many entry, all_based entries)
    where
      base : (many : Bool) (entry : Entry) → many ≡ false → (named errand.from many entry).0 ≡ last_name (text_of errand.from)
      base false entry e = refl
      base true entry e = absurd cc

  kept_based : (names : List (List ℕ × Entry)) → AllByRecursion IsBased names → AllByRecursion IsBased (filter (λ name. is_kept_by errand name.0) names)
  kept_based [] all = tt
  kept_based (name ∷ names) all =
      elim (is_kept_by errand name.0) as (λ (b : Bool). AllByRecursion IsBased (cond b (name ∷ filter (λ n. is_kept_by errand n.0) names) (filter (λ n. is_kept_by errand n.0) names))) [
        | true ↦ (all.0, kept_based names all.1)
        | false ↦ kept_based names all.1
      ]

  all_removals : (names : List (List ℕ × Entry)) → AllByRecursion IsBased names → AllByRecursion IsRemoval (map pair names)
  all_removals [] all = tt
  all_removals (name ∷ names) all =
      (record { source = refl; dest = refl; of_kind = removal_is (source_at errand.from errand.many name.0) name.1; base = all.0 }, all_removals names all.1)

  same_dest : (many : Bool) (p q : List ℕ) → source_at errand.from many p ≡ source_at errand.from many q → (many ≡ false → p ≡ q) → p ≡ q
  same_dest true p q e single = same_path errand.from p q e
  same_dest false p q e single = single refl

  -- ---- fit

  module _ (items : List (List ℕ × Task)) (ascend : Ascend items) (are : AllByRecursion IsRemoval items) where
    removal_at : (n : ℕ) (task : Task) → slice_get (values_of items) n ≡ Some task → (path : List ℕ) × (slice_get items n ≡ Some (path, task)) × IsRemoval (path, task)
    removal_at n task e = let at = value_at items n task e in (at.0, at.1, all_at IsRemoval items n (at.0, task) are at.1)

    no_source : (n : ℕ) (task : Task) (source : Place) → slice_get (values_of items) n ≡ Some task → task.source ≡ Some source → ⊥
    no_source n task source e from = let at = removal_at n task e in none_is_some source (sym at.2.source ∙ from)

    removals_fit : (most : ℕ) → size_fault most (values_of items) ≡ None → length (values_of items) ≤ 1000000 → IsFit most (values_of items)
    removals_fit most small few = record {
      destinations = λ m n a b is_a is_b e.
          let at = removal_at m a is_a in let by = removal_at n b is_b in
          distinct items m n (at.0, a) (by.0, b) ascend at.1 by.1
          (same_dest errand.many at.0 by.0 (sym at.2.dest ∙ e ∙ by.2.dest) (λ single. at.2.base single ∙ sym (by.2.base single)));
      sources = λ m n a b source is_a is_b from_a from_b. absurd (no_source m a source is_a from_a);
      apart = λ m n a b source is_a is_b e d. no_source m a source is_a e;
      kinds = λ n task e. let at = removal_at n task e in at.2.of_kind;
      sizes = small;
      few = few;
    }

    no_member : (task : Task) (source : Place) → Has (values_of items) task → task.source ≡ Some source → ⊥
    no_member task source h e = missing items are h e
      where
        missing : (items : List (List ℕ × Task)) → AllByRecursion IsRemoval items → Has (values_of items) task → task.source ≡ Some source → ⊥
        missing [] are h e = h
        missing (item ∷ items) are (inl same) e = none_is_some source (sym are.0.source ∙ ap (λ (t : Task). t.source) same ∙ e)
        missing (item ∷ items) are (inr h) e = missing items are.1 h e

    removals_refused : (most : ℕ) (why : PlanFault) → IsJudged most false (values_of items) why → IsRefused most (values_of items) why
    removals_refused most (fault.TooLarge path size) judged = judged
    removals_refused most (fault.Overlap key) judged = absurd (no_truth judged.1)
      where
        no_truth : IsTrue false → ⊥
        no_truth e = absurd cc
    removals_refused most fault.TooMany judged = (judged.0, (λ key o. no_member o.reads (place.Object o.bucket key) (has (values_of items) o.reads o.is_read) o.source), judged.2)
    removals_refused most fault.Memory judged = absurd judged
    removals_refused most (fault.NoSource path) judged = absurd judged
    removals_refused most (fault.IsFolder path) judged = absurd judged
    removals_refused most (fault.NotFolder path) judged = absurd judged

  -- ---- the plan

  module _ (entries : List Entry) (listed : AreEntries errand.from errand.many entries) where
    abbrev in_pairs : List (List ℕ × Task)
    in_pairs = map pair (filter (λ name. is_kept_by errand name.0) (map (named errand.from errand.many) entries))

    pairs_ascend : Ascend in_pairs
    pairs_ascend = paired_ascend _ (kept_ascend _ (all_names_ascend errand.from errand.many entries listed))

    pairs_are : AllByRecursion IsRemoval in_pairs
    pairs_are = all_removals _ (kept_based _ (all_based entries))

    is_plan : values_of in_pairs ≡ planned_removals errand entries
    unfolding planned_removals
    is_plan = values (filter (λ name. is_kept_by errand name.0) (map (named errand.from errand.many) entries))

    pub plan_fits : (most : ℕ) → size_fault most (planned_removals errand entries) ≡ None → length (planned_removals errand entries) ≤ 1000000 → IsFit most (planned_removals errand entries)
    plan_fits most = subst (λ (tasks : List Task). size_fault most tasks ≡ None → length tasks ≤ 1000000 → IsFit most tasks) is_plan (removals_fit in_pairs pairs_ascend pairs_are most)

    pub plan_refused : (most : ℕ) (why : PlanFault) → IsJudged most false (planned_removals errand entries) why → IsRefused most (planned_removals errand entries) why
    plan_refused most why = subst (λ (tasks : List Task). IsJudged most false tasks why → IsRefused most tasks why) is_plan (removals_refused in_pairs pairs_ascend pairs_are most why)
