-- The plan of an errand by its destination, as the code has it.
use Rattle.std.proofs.Common.{◌≡◌, ◌≤◌, ℕ, Bool, false, List, [], Option, Some, None, IsTrue, sym, subst, length, arith}
use Rattle.std.specs.List.Sorted.{IsStrictlySortedBy}
use Rattle.s3_model.specs.declared.faults.PlanFault.{PlanFault}
use Rattle.s3_model.specs.declared.places.Entry.{Entry}
use Rattle.s3_model.specs.declared.places.Place.{Place}
use Rattle.s3_model.specs.declared.places.Place.TheVariants as place
use Rattle.s3_model.specs.declared.tasks.Task.{Task}
use Rattle.s3_model.specs.Entries.{IsAscending}
use Rattle.sync_plan.specs.declared.errand.Errand.{Errand}
use Rattle.sync_plan.specs.Errands.{AreBelow, AreEntries, AreEntriesAt, TransfersBetween, is_one_bucket}
use Rattle.sync_plan.specs.Fit.{IsCommon, IsFit, IsJudged, IsRefused, read_keys, size_fault, written_keys}
use Rattle.sync_plan.specs.Plans.{planned, tasks_for}
use Rattle.sync_plan.proofs.PlanLemmas.{planned_fit, planned_reads, planned_refused, planned_writes}

none_below : (of_place : Place) → AreBelow of_place []
none_below (place.Object bucket key) = λ k d inside. absurd (omega arith)
none_below (place.File path) = tt

none_listed : (of_place : Place) (many : Bool) → AreEntries of_place many []
unfolding IsStrictlySortedBy
none_listed of_place many = record { ascending = tt; below = none_below of_place; single = λ one. omega arith }

pub no_entries_at : (to : Option Place) (many : Bool) → AreEntriesAt to many []
no_entries_at None many = tt
no_entries_at (Some to) many = none_listed to many

module _ (errand : Errand) (to : Place) (many : Bool) (source dest : List Entry) (goes : errand.to ≡ Some to) (between : TransfersBetween errand.kind errand.from errand.to)
    (ours : AreEntries errand.from many source) (theirs : AreEntriesAt errand.to many dest) (none : many ≡ false → dest ≡ []) where
  between_at : TransfersBetween errand.kind errand.from (Some to)
  between_at = subst (λ (o : Option Place). TransfersBetween errand.kind errand.from o) goes between

  theirs_at : AreEntries to many dest
  theirs_at = subst (λ (o : Option Place). AreEntriesAt o many dest) goes theirs

  module _ (tasks : List Task) (are : tasks ≡ planned errand to many source dest) where
    pub reads_in_order : IsAscending (read_keys tasks)
    reads_in_order = subst (λ (ts : List Task). IsAscending (read_keys ts)) (sym are) (planned_reads errand to many source dest between_at ours theirs_at none)

    pub writes_in_order : IsAscending (written_keys tasks)
    writes_in_order = subst (λ (ts : List Task). IsAscending (written_keys ts)) (sym are) (planned_writes errand to many source dest between_at ours theirs_at none)

    module _ (one_bucket : Bool) (one : one_bucket ≡ is_one_bucket errand.from to) (most : ℕ) where
      pub judged_fit : size_fault most tasks ≡ None → (IsTrue one_bucket → (key : List ℕ) → ¬ (IsCommon tasks key)) → length tasks ≤ 1000000 → IsFit most tasks
      judged_fit =
          subst (λ (ts : List Task). size_fault most ts ≡ None → (IsTrue one_bucket → (key : List ℕ) → ¬ (IsCommon ts key)) → length ts ≤ 1000000 → IsFit most ts) (sym are)
          (λ small common few. planned_fit errand to many source dest between_at ours theirs_at none most small (λ is. common (one_is is)) few)
        where
          one_is : IsTrue (is_one_bucket errand.from to) → IsTrue one_bucket
          one_is is = subst (λ (b : Bool). IsTrue b) (sym one) is

      pub judged_refused : (why : PlanFault) → IsJudged most one_bucket tasks why → IsRefused most (tasks_for errand errand.to many source dest) why
      judged_refused why judged =
          subst (λ (o : Option Place). IsRefused most (tasks_for errand o many source dest) why) (sym goes)
          (planned_refused errand to many source dest between_at ours theirs_at none most why
          (subst (λ (b : Bool). IsJudged most b (planned errand to many source dest) why) one (subst (λ (ts : List Task). IsJudged most one_bucket ts why) are judged)))
