use Rattle.std.proofs.Common.{◌∙◌, ◌+◌, ◌*◌, ℕ, ap, arith, max}
use Rattle.run_needs.proofs.NeedLemmas.{needs_more}
use Rattle.run_needs.proofs.needs.needs_of.Goals as goal

pub loop-task-preserved : goal.loop-task-preserved
loop-task-preserved c =
    let few_jobs = c.job_count.ensures.few in
    let few_pieces = c.work_of-work.ensures.few in
    let so_few = c.loop-task.invariant.few in record {
      so_far = needs_more c.args.config.now c.args.limits.now c.args.tasks.now c.loop-task.task-index c.task-item.result
          c.task-item.result c.work_of-work.result c.loop-task.needs
          (record { entries = c.loop-task.needs.entries + 4 * c.job_count.result; bytes = c.max.result })
          c.loop-task-test.true c.task-item.is c.loop-task.invariant.so_far c.work_of-work.ensures.work
          (ap (λ (n : ℕ). c.loop-task.needs.entries + 4 * n) c.job_count.ensures.count)
          (c.max.ensures ∙ ap (λ (n : ℕ). max c.loop-task.needs.bytes n) c.part_bytes.ensures);
      few = omega (arith, few_jobs, few_pieces, so_few);
    }
