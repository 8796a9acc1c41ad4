use Rattle.std.proofs.Common.{◌++◌, ◌∷◌, [], ap, ◌∙◌}
use Rattle.rtrb.specs.Ring.{sent}
use Rattle.bounded_executor.proofs.RingLemmas.{same_producers}
use Rattle.bounded_executor.proofs.station.push_outcome.Goals as goal

pub returns-in-Ok-clause-ring : goal.returns-in-Ok-clause-ring
returns-in-Ok-clause-ring g c =
    same_producers c.args.outcomes.now c.loop.outcomes c.push.new.self c.loop.invariant.0 c.in-Ok.ensures.ring

pub returns-in-Ok-clause-sent : goal.returns-in-Ok-clause-sent
returns-in-Ok-clause-sent g c =
    c.in-Ok.ensures.ok.0 ∙ (ap (λ before. before ++ c.loop.outcome ∷ []) c.loop.invariant.1 ∙ ap (λ last. sent c.args.outcomes.now ++ last ∷ []) c.loop.invariant.2)
