use Rattle.std.proofs.Common.{◌≢◌, ◌∙◌, Option, subst}
use Rattle.s3_model.specs.declared.faults.PlanFault.{PlanFault}
use Rattle.s3_model.specs.declared.faults.PlanFault.TheVariants as fault
use Rattle.s3_model.specs.declared.places.Place.{Place}
use Rattle.sync_plan.specs.Errands.{AreEntriesAt}
use Rattle.sync_plan.specs.Fit.{IsFit, IsRefused}
use Rattle.sync_plan.specs.Plans.{tasks_for}
use Rattle.sync_plan.proofs.JudgeLemmas.{handed_on}
use Rattle.sync_plan.proofs.SideLemmas.{names_ascend}
use Rattle.sync_plan.proofs.TransferLemmas.{judged_fit, judged_refused, reads_in_order, writes_in_order}
use Rattle.sync_plan.proofs.plans.plan_transfers.Goals as goal

pub draft-requires-clause-source : goal.draft-requires-clause-source
draft-requires-clause-source c = names_ascend c.args.errand.now.from c.args.many c.args.source.now c.requires.source

pub draft-requires-clause-dest : goal.draft-requires-clause-dest
draft-requires-clause-dest c =
    names_ascend c.in-Some.to c.args.many c.args.dest.now (subst (λ (o : Option Place). AreEntriesAt o c.args.many c.args.dest.now) c.in-Some.is c.requires.dest)

pub judge-requires-clause-read : goal.judge-requires-clause-read
judge-requires-clause-read c one =
    reads_in_order c.args.errand.now c.in-Some.to c.args.many c.args.source.now c.args.dest.now c.in-Some.is c.requires.places c.requires.source c.requires.dest c.requires.single
    c.as_slice.result.now (c.as_slice.ensures ∙ c.in-Ok.ensures.tasks)

pub judge-requires-clause-written : goal.judge-requires-clause-written
judge-requires-clause-written c one =
    writes_in_order c.args.errand.now c.in-Some.to c.args.many c.args.source.now c.args.dest.now c.in-Some.is c.requires.places c.requires.source c.requires.dest c.requires.single
    c.as_slice.result.now (c.as_slice.ensures ∙ c.in-Ok.ensures.tasks)

pub returns-in_err-judge-clause-refused : goal.returns-in_err-judge-clause-refused
returns-in_err-judge-clause-refused c =
    let errand = c.args.errand.now in let most = c.args.errand.now.limits.max_object in
    handed_on (λ (why : PlanFault). why ≢ fault.Memory → IsRefused most (tasks_for errand errand.to c.args.many c.args.source.now c.args.dest.now) why) c.from_residual.result c.in_err-judge.field-0.0 c.from_residual.ensures.1
    (λ other. judged_refused errand c.in-Some.to c.args.many c.args.source.now c.args.dest.now c.in-Some.is c.requires.places c.requires.source c.requires.dest c.requires.single
    c.as_slice.result.now (c.as_slice.ensures ∙ c.in-Ok.ensures.tasks) c.is_one_bucket-one_bucket.result c.is_one_bucket-one_bucket.ensures most c.in_err-judge.field-0.0 (c.in_err-judge.ensures.refused other))

pub returns-clause-fit : goal.returns-clause-fit
returns-clause-fit c =
    let errand = c.args.errand.now in let most = c.args.errand.now.limits.max_object in
    subst (IsFit most) c.as_slice.ensures
    (judged_fit errand c.in-Some.to c.args.many c.args.source.now c.args.dest.now c.in-Some.is c.requires.places c.requires.source c.requires.dest c.requires.single
    c.as_slice.result.now (c.as_slice.ensures ∙ c.in-Ok.ensures.tasks) c.is_one_bucket-one_bucket.result c.is_one_bucket-one_bucket.ensures most
    c.in_ok-judge.ensures.sizes c.in_ok-judge.ensures.common c.in_ok-judge.ensures.few)
