-- What a plan gives a dry run to print.
use Rattle.std.proofs.Common.{◌==◌, ◌++◌, Bool, true, false, ℕ, List, [], ◌∷◌, refl, sym, subst, map, if◌then◌else◌}
use Rattle.std.specs.List.{All, AllByRecursion}
use Rattle.std.proofs.lemmas.List.Elements.{All-nil}
use Rattle.result_lines.specs.Tasks.{HasSource}
use Rattle.result_lines.specs.Warnings.{IsShown}
use Rattle.run_report.specs.Texts.{IsOfLooking}
use Rattle.s3_model.specs.declared.places.Entry.{Entry}
use Rattle.s3_model.specs.declared.settings.Limits.{Limits}
use Rattle.s3_model.specs.declared.tasks.Plan.{Plan}
use Rattle.s3_model.specs.declared.tasks.Warning.{Warning}
use Rattle.s3_model.specs.declared.tasks.Warning.TheVariants as warning
use Rattle.s3_outside.specs.declared.files.Shape.{Shape}
use Rattle.s3_outside.specs.declared.files.Shape.TheVariants as shape
use Rattle.s3_words.specs.declared.commands.Command.{Command}
use Rattle.upload_plans.specs.Commands.{is_removal}
use Rattle.dry_runs.specs.Errands.{upload_errand}
use Rattle.dry_runs.specs.Found.{FilesSeen, HoldsOne, HoldsSource}
use Rattle.dry_runs.specs.Looked.{looked_in, not_a_file, unnamed_warnings}
use Rattle.dry_runs.specs.Plans.{IsDryPlan, IsDryPlanBy}
use Rattle.dry_runs.proofs.ShownLemmas.{have_sources, skips_shown}

-- ---- warnings of looking

both : {X : Type 0} (P : X → Type 0) (xs ys : List X) → AllByRecursion P xs → AllByRecursion P ys → AllByRecursion P (xs ++ ys)
both P [] ys h g = g
both P (x ∷ xs) ys h g = (h.0, both P xs ys h.1 g)

others_looking : (root : List ℕ) (others : List (List ℕ)) → AllByRecursion IsOfLooking (map (not_a_file root) others)
others_looking root [] = tt
others_looking root (path ∷ others) = (tt, others_looking root others)

unnamed_looking : (unnamed : ℕ) → AllByRecursion IsOfLooking (unnamed_warnings unnamed)
unnamed_looking unnamed = by (unnamed == 0)
  where
    by : (none : Bool) → AllByRecursion IsOfLooking (if none then [] else warning.Unnamed unnamed ∷ [])
    by true = tt
    by false = (tt, tt)

tree_looking : (root : List ℕ) (others : List (List ℕ)) (unnamed : ℕ) → AllByRecursion IsOfLooking (looked_in root others unnamed)
tree_looking root others unnamed = both IsOfLooking (unnamed_warnings unnamed) (map (not_a_file root) others) (unnamed_looking unnamed) (others_looking root others)

one_looking : (path : List ℕ) (stands : Shape) (entries : List Entry) (looked : List Warning) → HoldsOne path stands entries looked → AllByRecursion IsOfLooking looked
one_looking path (shape.File size micros) entries looked h = subst (λ (all : List Warning). AllByRecursion IsOfLooking all) (sym h.1) tt
one_looking path shape.Other entries looked h = subst (λ (all : List Warning). AllByRecursion IsOfLooking all) (sym h.1) (tt, tt)
one_looking path shape.Absent entries looked h = absurd h
one_looking path shape.Folder entries looked h = absurd h

source_looking : (files : FilesSeen) (many : Bool) (path : List ℕ) (entries : List Entry) (looked : List Warning) → HoldsSource files many path entries looked → AllByRecursion IsOfLooking looked
source_looking files true path entries looked h =
    let tree = h.tree refl in subst (λ (all : List Warning). AllByRecursion IsOfLooking all) (sym tree.warned) (tree_looking path tree.others tree.unnamed)
source_looking files false path entries looked h = one_looking path h.stands entries looked (h.one refl)

-- ---- plans

looking_by : (removes : Bool) (command : Command) (limits : Limits) (files : FilesSeen) (looked : List Warning) (plan : Plan) → IsDryPlanBy removes command limits files looked plan → AllByRecursion IsOfLooking looked
looking_by true command limits files looked plan h = subst (λ (all : List Warning). AllByRecursion IsOfLooking all) (sym h.0) tt
looking_by false command limits files looked plan h = source_looking files command.recursive _ h.entries looked h.found

shown_by : (removes : Bool) (command : Command) (limits : Limits) (files : FilesSeen) (looked : List Warning) (plan : Plan) → IsDryPlanBy removes command limits files looked plan → All IsShown plan.warnings.items
shown_by true command limits files looked plan h = subst (λ (all : List Warning). All IsShown all) (sym h.1.no_skip) (All-nil IsShown)
shown_by false command limits files looked plan h =
    let errand = upload_errand command limits in
    subst (λ (all : List Warning). All IsShown all) (sym h.transfers.skips) (skips_shown errand errand.to errand.many h.entries)

places_by : (removes : Bool) (command : Command) (limits : Limits) (files : FilesSeen) (looked : List Warning) (plan : Plan) → IsDryPlanBy removes command limits files looked plan → All HasSource plan.tasks.items
places_by true command limits files looked plan h = have_sources limits.max_object plan.tasks.items h.1.fit
places_by false command limits files looked plan h = have_sources limits.max_object plan.tasks.items h.transfers.fit

module _ (command : Command) (limits : Limits) (files : FilesSeen) (looked : List Warning) (plan : Plan) (planned : IsDryPlan command limits files looked plan) where
  pub are_looking : AllByRecursion IsOfLooking looked
  are_looking = looking_by (is_removal command.verb) command limits files looked plan planned

  pub are_shown : All IsShown plan.warnings.items
  are_shown = shown_by (is_removal command.verb) command limits files looked plan planned

  pub have_places : All HasSource plan.tasks.items
  have_places = places_by (is_removal command.verb) command limits files looked plan planned
