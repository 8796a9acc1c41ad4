use Rattle.std.proofs.Common.{◌≢◌, ◌∙◌, sym, arith}
use Rattle.s3_model.specs.declared.faults.PlanFault.{PlanFault}
use Rattle.s3_model.specs.declared.faults.PlanFault.TheVariants as fault
use Rattle.shared_lemmas.proofs.Clashes.{true_is_false}
use Rattle.sync_plan.specs.Fit.{IsJudged}
use Rattle.sync_plan.proofs.JudgeLemmas.{handed_on, size_judged}
use Rattle.sync_plan.proofs.judge.judge.Goals as goal
use Rattle.sync_plan.proofs.judge.judge.Goals.{then-one_bucket+in_ok-check_common, else-one_bucket}

pub returns-in_err-check_sizes-clause-refused : goal.returns-in_err-check_sizes-clause-refused
returns-in_err-check_sizes-clause-refused c =
    handed_on (λ (why : PlanFault). why ≢ fault.Memory → IsJudged c.args.most c.args.one_bucket c.args.tasks.now why) c.from_residual.result c.in_err-check_sizes.field-0.0 c.from_residual.ensures.1
    (λ other. size_judged c.args.most c.args.one_bucket c.args.tasks.now c.in_err-check_sizes.field-0.0 (c.in_err-check_sizes.ensures.err other))

pub returns-then-tasks-gt-MOST_TASKS-clause-refused : goal.returns-then-tasks-gt-MOST_TASKS-clause-refused
returns-then-tasks-gt-MOST_TASKS-clause-refused c other = (
  c.in_ok-check_sizes.ensures.ok,
  elim c.if-one_bucket.branch [
    | then-one_bucket+in_ok-check_common w ↦ λ is. w.in_ok-check_common.ensures.ok
    | else-one_bucket w ↦ λ is. absurd (true_is_false (sym is ∙ w.if-one_bucket.false))
  ],
  omega (arith, c.if-tasks-gt-MOST_TASKS.true),
)

pub returns-clause-common : goal.returns-clause-common
returns-clause-common c =
    elim c.if-one_bucket.branch [
      | then-one_bucket+in_ok-check_common w ↦ λ is. w.in_ok-check_common.ensures.ok
      | else-one_bucket w ↦ λ is. absurd (true_is_false (sym is ∙ w.if-one_bucket.false))
    ]
