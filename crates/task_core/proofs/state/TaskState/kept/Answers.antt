use Rattle.std.proofs.Common.{◌∙◌, ap}
use Rattle.kept_jobs.specs.Slots.{SeenKept, job_at}
use Rattle.task_core.proofs.Standing.{taken}
use Rattle.task_core.proofs.state.TaskState.kept.Goals as goal

pub returns-in-Some-clause-others : goal.returns-in-Some-clause-others
returns-in-Some-clause-others c other at =
    ap (λ (kept : SeenKept). job_at kept other at) c.settle.ensures.kept ∙ c.mark_taken.ensures.taken.kept other at

pub returns-in-Some-clause-job : goal.returns-in-Some-clause-job
returns-in-Some-clause-job c w history s = c.in-Some.ensures.job ∙ s.kept_are c.args.op c.args.number

pub returns-in-Some-clause-taken : goal.returns-in-Some-clause-taken
returns-in-Some-clause-taken c told w history s =
    taken w history c.args.self.now s c.args.op c.args.number c.mark_taken.new.self c.settle.new.self c.mark_taken.ensures.taken c.settle.ensures

pub returns-in-Some-clause-stages : goal.returns-in-Some-clause-stages
returns-in-Some-clause-stages c = c.settle.ensures.stages ∙ c.mark_taken.ensures.taken.stages

pub returns-in-Some-clause-tags : goal.returns-in-Some-clause-tags
returns-in-Some-clause-tags c = c.settle.ensures.tags ∙ c.mark_taken.ensures.taken.tags
