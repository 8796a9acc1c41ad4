use Rattle.step_jobs.proofs.Shares.{all_places, all_shares}
use Rattle.step_jobs.proofs.step_jobs.StepJobs.make.Goals as goal

pub invariant_of-result : goal.invariant_of-result
invariant_of-result c =
    all_places _ c.args.work _ _ _ c.in_ok-shares.ensures.same c.in_ok-shares.ensures.many c.requires

pub returns-clause-whole : goal.returns-clause-whole
returns-clause-whole c =
    all_shares _ c.args.work _ _ _ c.in_ok-shares.ensures.same c.in_ok-shares.ensures.many
