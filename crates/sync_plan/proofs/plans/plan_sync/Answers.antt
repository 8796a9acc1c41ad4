use Rattle.std.proofs.Common.{◌≢◌, List, IfErr, true, subst}
use Rattle.s3_model.specs.declared.faults.PlanFault.{PlanFault}
use Rattle.s3_model.specs.declared.faults.PlanFault.TheVariants as fault
use Rattle.s3_model.specs.declared.places.Entry.{Entry}
use Rattle.sync_plan.specs.Fit.{IsRefused}
use Rattle.sync_plan.specs.Plans.{tasks_for}
use Rattle.sync_plan.proofs.plans.plan_sync.Goals as goal

pub returns-clause-refused : goal.returns-clause-refused
returns-clause-refused c =
    let errand = c.args.errand.now in
    subst (λ (entries : List Entry). IfErr c.plan_transfers.result (λ (why : PlanFault). why ≢ fault.Memory → IsRefused errand.limits.max_object (tasks_for errand errand.to true c.args.source.now.items entries) why)) c.as_slice-2.ensures
    (subst (λ (entries : List Entry). IfErr c.plan_transfers.result (λ (why : PlanFault). why ≢ fault.Memory → IsRefused errand.limits.max_object (tasks_for errand errand.to true entries c.as_slice-2.result.now) why)) c.as_slice.ensures
    c.plan_transfers.ensures.refused)
