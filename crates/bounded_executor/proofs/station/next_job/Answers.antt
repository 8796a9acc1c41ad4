use Rattle.std.proofs.Common.{◌++◌, ◌∷◌, [], ap, ◌∙◌}
use Rattle.bounded_executor.proofs.RingLemmas.{same_consumers}
use Rattle.bounded_executor.proofs.station.next_job.Goals as goal

pub returns-in-Ok-clause-ring : goal.returns-in-Ok-clause-ring
returns-in-Ok-clause-ring g c = same_consumers c.args.jobs.now c.loop.jobs c.pop.new.self c.loop.invariant.0 c.in-Ok.ensures.ring

pub returns-in-Ok-clause-some : goal.returns-in-Ok-clause-some
returns-in-Ok-clause-some g c = c.in-Ok.ensures.ok.0 ∙ ap (λ jobs. jobs ++ c.in-Ok.job ∷ []) c.loop.invariant.1

pub returns-then-closed-clause-ring : goal.returns-then-closed-clause-ring
returns-then-closed-clause-ring g c = same_consumers c.args.jobs.now c.loop.jobs c.pop.new.self c.loop.invariant.0 c.in_default.ensures.ring

pub returns-then-closed-clause-none : goal.returns-then-closed-clause-none
returns-then-closed-clause-none g c = c.in_default.ensures.empty.0 ∙ c.loop.invariant.1

pub loop-preserved : goal.loop-preserved
loop-preserved g c =
    (same_consumers c.args.jobs.now c.loop.jobs c.pop.new.self c.loop.invariant.0 c.in_default.ensures.ring, c.in_default.ensures.empty.0 ∙ c.loop.invariant.1)
