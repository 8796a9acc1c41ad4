use Rattle.std.proofs.Common.{◌≡◌, ◌≢◌, ◌∙◌, List, false, ap, sym, subst, None, length, ◌≤◌}
use Rattle.s3_model.specs.declared.faults.PlanFault.{PlanFault}
use Rattle.s3_model.specs.declared.faults.PlanFault.TheVariants as fault
use Rattle.s3_model.specs.declared.tasks.Task.{Task}
use Rattle.sync_plan.specs.Fit.{IsFit, IsJudged, IsRefused, size_fault}
use Rattle.sync_plan.specs.Plans.{planned_removals}
use Rattle.sync_plan.proofs.JudgeLemmas.{handed_on}
use Rattle.sync_plan.proofs.RemovalLemmas.{plan_fits, plan_refused}
use Rattle.sync_plan.proofs.plans.plan_remove.Goals as goal

pub returns-in_err-judge-clause-refused : goal.returns-in_err-judge-clause-refused
returns-in_err-judge-clause-refused c =
    let errand = c.args.errand.now in let most = c.args.errand.now.limits.max_object in let entries = c.args.source.now.items in
    let same : c.as_slice-2.result.now ≡ planned_removals errand entries = c.as_slice-2.ensures ∙ c.in-Ok.ensures ∙ ap (planned_removals errand) c.as_slice.ensures in
    handed_on (λ (why : PlanFault). why ≢ fault.Memory → IsRefused most (planned_removals errand entries) why) c.from_residual.result c.in_err-judge.field-0.0 c.from_residual.ensures.1
    (λ other. plan_refused errand entries c.requires.source most c.in_err-judge.field-0.0
    (subst (λ (tasks : List Task). IsJudged most false tasks c.in_err-judge.field-0.0) same (c.in_err-judge.ensures.refused other)))

pub returns-clause-fit : goal.returns-clause-fit
returns-clause-fit c =
    let errand = c.args.errand.now in let most = c.args.errand.now.limits.max_object in let entries = c.args.source.now.items in
    let same : c.as_slice-2.result.now ≡ planned_removals errand entries = c.as_slice-2.ensures ∙ c.in-Ok.ensures ∙ ap (planned_removals errand) c.as_slice.ensures in
    subst (IsFit most) c.as_slice-2.ensures
    (subst (λ (tasks : List Task). size_fault most tasks ≡ None → length tasks ≤ 1000000 → IsFit most tasks) (sym same) (plan_fits errand entries c.requires.source most)
    c.in_ok-judge.ensures.sizes c.in_ok-judge.ensures.few)
