use Rattle.std.proofs.Common.{ℕ, subst}
use Rattle.manager_core.specs.Running.{IsSharedOf}
use Rattle.run_transfers.proofs.BeginLemmas.{begins}
use Rattle.run_transfers.proofs.conductor.Conductor.make.Goals as goal

pub returns-in-Ok-make-clause-begins : goal.returns-in-Ok-make-clause-begins
returns-in-Ok-make-clause-begins g c =
    let made = c.in-Ok-make.ensures.running in (
      made.0,
      subst (λ (n : ℕ). IsSharedOf c.args.config.now c.args.limits.now n c.args.plan.tasks.items made.0) c.lanes-lanes.ensures made.1,
      begins made.1 c.lanes-lanes.ensures c.requires.depth c.requires.idle c.depth_of.ensures c.in-Ok.ensures made.2,
    )
