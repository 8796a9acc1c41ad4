-- The plan of a dry run.
use Rattle.std.specs.Prelude.{◌≡◌, ◌⊎◌, Bool, true, false, List, [], ◌∷◌, Some}
use Rattle.s3_model.specs.declared.faults.PlanFault.{PlanFault}
use Rattle.s3_model.specs.declared.faults.PlanFault.TheVariants as refused
use Rattle.s3_model.specs.declared.places.Entry.{Entry}
use Rattle.s3_model.specs.declared.tasks.Plan.{Plan}
use Rattle.s3_model.specs.declared.tasks.Task.{Task}
use Rattle.s3_model.specs.declared.settings.Limits.{Limits}
use Rattle.s3_model.specs.declared.tasks.Warning.{Warning}
use Rattle.s3_model.specs.Places.{IsFile, path_at}
use Rattle.s3_words.specs.declared.commands.Command.{Command}
use Rattle.sync_plan.specs.declared.errand.Errand.{Errand}
use Rattle.sync_plan.specs.Errands.{TransfersBetween}
use Rattle.upload_plans.specs.Commands.{is_removal}
use Rattle.dry_runs.specs.Errands.{removal_entry, removal_errand, upload_errand}
use Rattle.dry_runs.specs.Found.{FilesSeen, HoldsSource, IsSourceFault}
use Rattle.sync_plan.specs.Fit.{IsFit, IsRefused}
use Rattle.sync_plan.specs.Plans.{copies, planned_removals, warnings_for}
use Rattle.run_report.specs.declared.run.Fatal.{Fatal}
use Rattle.run_report.specs.declared.run.Fatal.TheVariants as fatal

-- each entry that the filters keep is transferred, or is skipped with a warning
pub record TransfersAll (errand : Errand) (entries : List Entry) (plan : Plan) : Type 0 where
  pub tasks : plan.tasks.items ≡ copies errand entries
  pub skips : plan.warnings.items ≡ warnings_for errand errand.to errand.many entries
  pub fit : IsFit errand.limits.max_object plan.tasks.items

-- each entry that the filters keep is removed
pub record RemovesAll (errand : Errand) (entries : List Entry) (plan : Plan) : Type 0 where
  pub tasks : plan.tasks.items ≡ planned_removals errand entries
  pub no_skip : plan.warnings.items ≡ []
  pub fit : IsFit errand.limits.max_object plan.tasks.items

-- how a refused plan ends a run
abbrev pub plan_fatal : PlanFault → Fatal
plan_fatal refused.Memory = fatal.Memory
plan_fatal fault = fatal.Plan fault

-- a plan of these tasks is refused
abbrev pub IsPlanFatal : Errand → List Task → Fatal → Type 0
IsPlanFatal errand tasks fatal.Memory = Unit {0}
IsPlanFatal errand tasks (fatal.Plan fault) = IsRefused errand.limits.max_object tasks fault
IsPlanFatal errand tasks why = ⊥

-- ---- an upload

-- a transfer from local files
pub record ReadsFile (errand : Errand) : Type 0 where
  pub from : IsFile (Some errand.from)
  pub between : TransfersBetween errand.kind errand.from errand.to

-- the plan of what stands at the local source
pub record PlansUpload (errand : Errand) (files : FilesSeen) (looked : List Warning) (plan : Plan) : Type 0 where
  pub entries : List Entry
  pub found : HoldsSource files errand.many (path_at (Some errand.from)) entries looked
  pub transfers : TransfersAll errand entries plan

-- there is no such source, or its plan is refused
abbrev pub FailsToPlan : Errand → FilesSeen → Fatal → Type 0
FailsToPlan errand files why = IsSourceFault files errand.many (path_at (Some errand.from)) why
    ⊎ ((entries : List Entry) × (looked : List Warning)
    × HoldsSource files errand.many (path_at (Some errand.from)) entries looked
    × IsPlanFatal errand (copies errand entries) why)

abbrev pub StopsUpload : Command → Limits → FilesSeen → Fatal → Type 0
StopsUpload command limits files why = FailsToPlan (upload_errand command limits) files why

-- ---- a removal

-- the plan of the one object, whether or not it is there
abbrev pub PlansRemoval : Command → Limits → (looked : List Warning) → Plan → Type 0
PlansRemoval command limits looked plan =
    (looked ≡ []) × RemovesAll (removal_errand command limits) (removal_entry command ∷ []) plan

abbrev pub StopsRemoval : Command → Limits → Fatal → Type 0
StopsRemoval command limits why = IsPlanFatal (removal_errand command limits)
    (planned_removals (removal_errand command limits) (removal_entry command ∷ [])) why

-- ---- a dry run

abbrev pub IsDryPlanBy : (removes : Bool) → Command → Limits → FilesSeen → (looked : List Warning) → Plan → Type 0
IsDryPlanBy true command limits files looked plan = PlansRemoval command limits looked plan
IsDryPlanBy false command limits files looked plan = PlansUpload (upload_errand command limits) files looked plan

-- its plan, and what looking at its source warns of
abbrev pub IsDryPlan : Command → Limits → FilesSeen → (looked : List Warning) → Plan → Type 0
IsDryPlan command limits files looked plan = IsDryPlanBy (is_removal command.verb) command limits files looked plan

abbrev pub StopsBy : (removes : Bool) → Command → Limits → FilesSeen → Fatal → Type 0
StopsBy true command limits files why = StopsRemoval command limits why
StopsBy false command limits files why = StopsUpload command limits files why

-- why it has no plan
abbrev pub StopsDry : Command → Limits → FilesSeen → Fatal → Type 0
StopsDry command limits files why = StopsBy (is_removal command.verb) command limits files why
