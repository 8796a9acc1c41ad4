use Rattle.lane_givings.proofs.InLanes.{jobs_in_lanes_are_out, jobs_stand_once}
use Rattle.lane_givings.proofs.Kept.{first_has_none}
use Rattle.lane_givings.proofs.laws.jobs_are_out.Goals as goal

pub returns : goal.returns
returns c = record { out = jobs_in_lanes_are_out; once = jobs_stand_once; first = first_has_none }
