use Rattle.std.proofs.Common.{subst}
use Rattle.lane_queues.specs.Lanes.{IsFreest, SeenLanes}
use Rattle.lane_queues.proofs.LaneLemmas.{freest}
use Rattle.lane_queues.proofs.lane_queues.LaneQueues.freest.Goals as goal

pub returns : goal.returns
returns c =
    let l = c.self.inside in
    subst (λ (seen : SeenLanes). IsFreest seen c.least.result) c.self.view_is
    (freest l.depth l.queues.items l.outs l.out c.self.invariant c.least.result c.least.ensures)
