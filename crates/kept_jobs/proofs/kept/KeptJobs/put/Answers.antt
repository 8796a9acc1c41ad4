use Rattle.std.proofs.Common.{◌∙◌, ℕ, ap, set}
use Rattle.kept_jobs.proofs.SlotLemmas.{after_put}
use Rattle.kept_jobs.proofs.kept.KeptJobs.put.Goals as goal

pub returns-clause-jobs : goal.returns-clause-jobs
returns-clause-jobs c other at =
    let k = c.args.self.now in
    after_put k c.args.op c.args.number c.args.job c.len-len.ensures.slots c.requires c.replace-before.new.self c.replace-before.ensures.work
    (c.replace-before.ensures.jobs ∙ ap (λ (i : ℕ). set k.jobs i c.args.job) c.slot-slot.ensures) other at
