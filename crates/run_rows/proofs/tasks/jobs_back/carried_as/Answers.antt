use Rattle.run_rows.proofs.JobLemmas.{ended_is}
use Rattle.run_rows.proofs.tasks.jobs_back.carried_as.Goals as goal

pub invariant_of-result : goal.invariant_of-result
invariant_of-result c =
    ended_is c.args.ended.ending c.args.job.id.op c.args.job.part c.args.job.cell c.args.ended.tries c.requires.ended c.requires.body c.requires.can
