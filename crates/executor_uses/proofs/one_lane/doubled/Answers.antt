use Rattle.executor_uses.proofs.OneLaneLemmas.{exact}
use Rattle.executor_uses.proofs.one_lane.doubled.Goals as goal

pub returns : goal.returns
returns g c =
    let ran = c.in_ok-with_workers.ensures.ok in
    exact _ ran.0 _ _ _ ran.1 ran.2
