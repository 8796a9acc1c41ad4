use Rattle.std.proofs.Common.{◌≢◌, List, [], IfErr, subst}
use Rattle.s3_model.specs.declared.faults.PlanFault.{PlanFault}
use Rattle.s3_model.specs.declared.faults.PlanFault.TheVariants as fault
use Rattle.s3_model.specs.declared.places.Entry.{Entry}
use Rattle.sync_plan.specs.Fit.{IsRefused}
use Rattle.sync_plan.specs.Plans.{tasks_for}
use Rattle.sync_plan.proofs.TransferLemmas.{no_entries_at}
use Rattle.sync_plan.proofs.plans.plan_copy.Goals as goal

pub plan_transfers-requires-clause-dest : goal.plan_transfers-requires-clause-dest
plan_transfers-requires-clause-dest c = no_entries_at c.args.errand.now.to c.args.errand.now.many

pub returns-clause-refused : goal.returns-clause-refused
returns-clause-refused c =
    let errand = c.args.errand.now in
    subst (λ (entries : List Entry). IfErr c.plan_transfers.result (λ (why : PlanFault). why ≢ fault.Memory → IsRefused errand.limits.max_object (tasks_for errand errand.to errand.many entries []) why))
    c.as_slice.ensures c.plan_transfers.ensures.refused
