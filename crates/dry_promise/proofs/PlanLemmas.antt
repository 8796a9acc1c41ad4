-- The plan of a dry run that asks nothing: its tasks, and what its warnings name.
use Rattle.std.proofs.Common.{◌≡◌, ◌∙◌, ◌++◌, Bool, true, false, ℕ, List, [], ◌∷◌, Option, Some, None, refl, sym, ap, subst, arith, filter_map, map, option_map, if◌then◌else◌}
use Rattle.std.specs.List.{AllByRecursion, cons_option}
use Rattle.std.specs.Map.{values_of}
use Rattle.s3_model.specs.declared.faults.KeySkip.{KeySkip}
use Rattle.s3_model.specs.declared.places.Entry.{Entry}
use Rattle.s3_model.specs.declared.places.Place.{Place}
use Rattle.s3_model.specs.declared.settings.Limits.{Limits}
use Rattle.s3_model.specs.declared.tasks.Plan.{Plan}
use Rattle.s3_model.specs.declared.tasks.Task.{Task}
use Rattle.s3_model.specs.declared.tasks.Warning.{Warning}
use Rattle.s3_model.specs.declared.tasks.Warning.TheVariants as warning
use Rattle.s3_words.specs.declared.commands.Command.{Command}
use Rattle.shared_lemmas.proofs.Clashes.{none_is_some, some_is}
use Rattle.merged_names.specs.Merging.{merged}
use Rattle.merged_names.proofs.Merges.{all_merged}
use Rattle.sync_plan.specs.declared.errand.Errand.{Errand}
use Rattle.sync_plan.specs.Errands.{dest_at, names_of, skip_of, source_at}
use Rattle.sync_plan.specs.Fit.{IsFit}
use Rattle.sync_plan.specs.Plans.{is_kept_by, is_transferred, planned, planned_removals, removal_of, removed, skipped, transfer_of, transfer_task, warning_of}
use Rattle.sync_plan.proofs.PlanLemmas.{all_at}
use Rattle.upload_plans.specs.Commands.{is_removal}
use Rattle.run_promise.specs.Settled.{left_by, untimed_by}
use Rattle.run_report.specs.Texts.{IsOfLooking}
use Rattle.dry_runs.specs.Errands.{removal_errand, upload_errand}
use Rattle.dry_runs.specs.Found.{FilesSeen}
use Rattle.dry_runs.specs.Plans.{IsDryPlan, IsDryPlanBy}
use Rattle.dry_runs.proofs.RunLemmas.{are_looking}
use Rattle.dry_promise.specs.Tasks.{AreUploadsOrRemovals, IsUploadOrRemoval}

-- no task
pub no_tasks : AreUploadsOrRemovals 0 []
no_tasks = record {
  fit = record {
    destinations = λ m n a b at_m at_n same. absurd (none_is_some a at_m);
    sources = λ m n a b source at_m at_n of_a of_b. absurd (none_is_some a at_m);
    apart = λ m n a b source at_m at_n of_a of_b. none_is_some a at_m;
    kinds = λ n task at_n. absurd (none_is_some task at_n);
    sizes = refl;
    few = omega arith;
  };
  kinds = λ n task at_n. absurd (none_is_some task at_n);
  replace = λ n task at_n. absurd (none_is_some task at_n);
}

-- ---- tasks

abbrev IsOne : Task → Type 0
IsOne task = IsUploadOrRemoval task.kind × (task.fresh ≡ false)

abbrev IsOneOf : List ℕ × Task → Type 0
IsOneOf item = IsOne item.1

chosen_is : {X : Type 0} (b : Bool) (x y : X) → (if b then Some x else None) ≡ Some y → x ≡ y
chosen_is true x y e = some_is x y e
chosen_is false x y e = absurd (none_is_some y e)

values_are : (items : List (List ℕ × Task)) → AllByRecursion IsOneOf items → AllByRecursion IsOne (values_of items)
values_are [] h = tt
values_are (item ∷ items) h = (h.0, values_are items h.1)

module _ (command : Command) (limits : Limits) where
  abbrev errand : Errand
  errand = upload_errand command limits

  transferred : (to : Place) (many : Bool) (names : List (List ℕ × Entry)) → AllByRecursion (λ name. (other : Option Entry) (task : Task) → transfer_of errand to many name other ≡ Some task → IsOneOf (name.0, task)) names
  transferred to many [] = tt
  transferred to many (name ∷ names) = (
    λ other task e. subst IsOne (chosen_is (is_transferred errand to many name other) (transfer_task errand (source_at errand.from many name.0) (dest_at to many name.0) name.1) task e) (tt, refl),
    transferred to many names,
  )

  nothing_removed : (to : Place) (many : Bool) → AllByRecursion (λ name. (other : Option Entry) (task : Task) → removal_of errand to name other ≡ Some task → IsOneOf (name.0, task)) (names_of to many [])
  unfolding names_of
  nothing_removed to many = tt

  uploads_are : (to : Place) (many : Bool) (source : List Entry) → AllByRecursion IsOne (planned errand to many source [])
  unfolding planned
  uploads_are to many source =
      values_are (merged (transfer_of errand to many) (removal_of errand to) (names_of errand.from many source) (names_of to many []))
      (all_merged (transfer_of errand to many) (removal_of errand to) IsOneOf (names_of errand.from many source) (names_of to many []) (transferred to many (names_of errand.from many source)) (nothing_removed to many))

  removals_are : (names : List (List ℕ × Entry)) → AllByRecursion IsOne (map (removed (removal_errand command limits)) names)
  removals_are [] = tt
  removals_are (name ∷ names) = ((tt, refl), removals_are names)

  all_removals : (entries : List Entry) → AllByRecursion IsOne (planned_removals (removal_errand command limits) entries)
  unfolding planned_removals
  all_removals entries = removals_are _

are_by : (most : ℕ) (tasks : List Task) → IsFit most tasks → AllByRecursion IsOne tasks → AreUploadsOrRemovals most tasks
are_by most tasks fit each = record {
  fit = fit;
  kinds = λ n task at_n. (all_at IsOne tasks n task each at_n).0;
  replace = λ n task at_n. (all_at IsOne tasks n task each at_n).1;
}

tasks_by : (removes : Bool) (command : Command) (limits : Limits) (files : FilesSeen) (looked : List Warning) (plan : Plan) → IsDryPlanBy removes command limits files looked plan → AreUploadsOrRemovals limits.max_object plan.tasks.items
tasks_by true command limits files looked plan h =
    are_by limits.max_object plan.tasks.items h.1.fit (subst (λ (all : List Task). AllByRecursion IsOne all) (sym h.1.tasks) (all_removals command limits _))
tasks_by false command limits files looked plan h =
    are_by limits.max_object plan.tasks.items h.transfers.fit (subst (λ (all : List Task). AllByRecursion IsOne all) (sym h.transfers.tasks) (uploads_are command limits _ command.recursive h.entries))

-- ---- warnings

-- it names no temporary file, and no time that could not be set
abbrev IsPlain : Warning → Type 0
IsPlain w = (left_by w ≡ None) × (untimed_by w ≡ None)

both : (xs ys : List Warning) → AllByRecursion IsPlain xs → AllByRecursion IsPlain ys → AllByRecursion IsPlain (xs ++ ys)
both [] ys h g = g
both (x ∷ xs) ys h g = (h.0, both xs ys h.1 g)

looked_plain : (looked : List Warning) → AllByRecursion IsOfLooking looked → AllByRecursion IsPlain looked
looked_plain [] h = tt
looked_plain (warning.Unnamed count ∷ looked) h = ((refl, refl), looked_plain looked h.1)
looked_plain (warning.NotAFile path ∷ looked) h = ((refl, refl), looked_plain looked h.1)
looked_plain (warning.Skipped at why ∷ looked) h = absurd h.0
looked_plain (warning.TimeNotSet path ∷ looked) h = absurd h.0
looked_plain (warning.TempLeft path ∷ looked) h = absurd h.0

one_plain : (at : Place) (kept : Bool) (why : Option KeySkip) (rest : List Warning) → AllByRecursion IsPlain rest
    → AllByRecursion IsPlain (cons_option (if kept then option_map (λ (w : KeySkip). warning.Skipped at w) why else None) rest)
one_plain at false why rest h = h
one_plain at true None rest h = h
one_plain at true (Some why) rest h = ((refl, refl), h)

names_plain : (errand : Errand) (to : Place) (many : Bool) (names : List (List ℕ × Entry)) → AllByRecursion IsPlain (filter_map (warning_of errand to many) names)
names_plain errand to many [] = tt
names_plain errand to many (name ∷ names) =
    one_plain (source_at errand.from many name.0) (is_kept_by errand name.0) (skip_of to many name.0) (filter_map (warning_of errand to many) names) (names_plain errand to many names)

skips_plain : (errand : Errand) (to : Place) (many : Bool) (source : List Entry) → AllByRecursion IsPlain (skipped errand to many source)
unfolding skipped
skips_plain errand to many source = names_plain errand to many _

plan_plain : (removes : Bool) (command : Command) (limits : Limits) (files : FilesSeen) (looked : List Warning) (plan : Plan) → IsDryPlanBy removes command limits files looked plan → AllByRecursion IsPlain plan.warnings.items
plan_plain true command limits files looked plan h = subst (λ (all : List Warning). AllByRecursion IsPlain all) (sym h.1.no_skip) tt
plan_plain false command limits files looked plan h =
    subst (λ (all : List Warning). AllByRecursion IsPlain all) (sym h.transfers.skips) (skips_plain (upload_errand command limits) _ command.recursive h.entries)

left_of : (ws : List Warning) → AllByRecursion IsPlain ws → filter_map left_by ws ≡ []
left_of [] h = refl
left_of (w ∷ ws) h = ap (λ (found : Option (List ℕ)). cons_option found (filter_map left_by ws)) h.0.0 ∙ left_of ws h.1

untimed_of : (ws : List Warning) → AllByRecursion IsPlain ws → filter_map untimed_by ws ≡ []
untimed_of [] h = refl
untimed_of (w ∷ ws) h = ap (λ (found : Option (List ℕ)). cons_option found (filter_map untimed_by ws)) h.0.1 ∙ untimed_of ws h.1

-- ---- the plan of a dry run

module _ (command : Command) (limits : Limits) (files : FilesSeen) (looked : List Warning) (plan : Plan) (planned : IsDryPlan command limits files looked plan) where
  pub unasked_tasks : AreUploadsOrRemovals limits.max_object plan.tasks.items
  unasked_tasks = tasks_by (is_removal command.verb) command limits files looked plan planned

  plain : AllByRecursion IsPlain (looked ++ plan.warnings.items)
  plain = both looked plan.warnings.items (looked_plain looked (are_looking command limits files looked plan planned)) (plan_plain (is_removal command.verb) command limits files looked plan planned)

  pub none_left : filter_map left_by (looked ++ plan.warnings.items) ≡ []
  none_left = left_of (looked ++ plan.warnings.items) plain

  pub none_untimed : filter_map untimed_by (looked ++ plan.warnings.items) ≡ []
  none_untimed = untimed_of (looked ++ plan.warnings.items) plain
