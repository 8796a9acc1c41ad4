use Rattle.lane_workers.proofs.Carrying.{lanes_come_back}
use Rattle.lane_workers.proofs.lanes.lanes_come_back.Goals as goal

pub returns : goal.returns
returns g c = lanes_come_back _ _
