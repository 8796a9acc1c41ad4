use Rattle.std.proofs.Common.{arith}
use Rattle.lane_workers.proofs.Carrying.{lanes_back}
use Rattle.planning_desks.proofs.planning_desk.PlanningDesk.close.Goals as goal

pub give_back-requires : goal.give_back-requires
give_back-requires g c =
    let back = lanes_back _ _ _ _ c.close_desk.ensures in
    record { room = grind (arith, back, c.requires.room) }
