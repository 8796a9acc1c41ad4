use Rattle.std.proofs.Common.{◌∙◌, ℕ, None, ap, set, arith}
use Rattle.kept_jobs.proofs.SlotLemmas.{after_none, after_put}
use Rattle.kept_jobs.proofs.kept.KeptJobs.take.Goals as goal

pub returns-then-slot-len-clause-jobs : goal.returns-then-slot-len-clause-jobs
returns-then-slot-len-clause-jobs c other at =
    let k = c.args.self.now in
    after_put k c.args.op c.args.number None c.len.ensures.slots (omega (arith, c.if-slot-len.true, c.len.ensures.len, c.len.ensures.slots, c.slot-slot.ensures)) c.replace.new.self c.replace.ensures.work
    (c.replace.ensures.jobs ∙ ap (λ (i : ℕ). set k.jobs i None) c.slot-slot.ensures) other at

pub returns-else-slot-len-clause-jobs : goal.returns-else-slot-len-clause-jobs
returns-else-slot-len-clause-jobs c other at =
    after_none c.args.self.now c.args.op c.args.number (omega (arith, c.if-slot-len.false, c.len.ensures.len, c.slot-slot.ensures)) other at
