use Rattle.std.proofs.Common.{sym, subst}
use Rattle.std.specs.Prelude.{◌≢◌, IfErr}
use Rattle.s3_model.specs.declared.faults.PlanFault.{PlanFault}
use Rattle.s3_model.specs.declared.faults.PlanFault.TheVariants as fault
use Rattle.s3_words.specs.declared.commands.Verb.{Verb}
use Rattle.sync_plan.specs.Fit.{IsRefused}
use Rattle.service_plans.specs.Plans.{tasks_by}
use Rattle.service_plans.proofs.PlanLemmas.{copied, copies_refused}
use Rattle.service_plans.proofs.tasks.plan_by.Goals as goal

pub returns-in-Sync-clause-refused : goal.returns-in-Sync-clause-refused
returns-in-Sync-clause-refused c =
    subst (λ (v : Verb). IfErr c.plan_sync.result (λ (why : PlanFault). why ≢ fault.Memory → IsRefused c.args.errand.now.limits.max_object (tasks_by v c.args.errand.now c.args.source.now.items c.args.dest.now.items) why))
    (sym c.in-Sync.is) c.plan_sync.ensures.refused

pub returns-in-Rm-clause-refused : goal.returns-in-Rm-clause-refused
returns-in-Rm-clause-refused c =
    subst (λ (v : Verb). IfErr c.plan_remove.result (λ (why : PlanFault). why ≢ fault.Memory → IsRefused c.args.errand.now.limits.max_object (tasks_by v c.args.errand.now c.args.source.now.items c.args.dest.now.items) why))
    (sym c.in-Rm.is) c.plan_remove.ensures.refused

pub returns-in_default : goal.returns-in_default
returns-in_default c = record {
  plan = copied c.args.verb c.args.errand.now c.args.source.now.items c.args.dest.now.items c.in_default.not-Sync c.in_default.not-Rm c.plan_copy.result c.plan_copy.ensures.tasks c.plan_copy.ensures.warnings c.plan_copy.ensures.fit;
  refused = copies_refused c.args.verb c.args.errand.now c.args.source.now.items c.args.dest.now.items c.in_default.not-Sync c.in_default.not-Rm c.plan_copy.result c.plan_copy.ensures.refused;
}
