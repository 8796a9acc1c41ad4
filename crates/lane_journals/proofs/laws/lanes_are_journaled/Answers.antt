use Rattle.lane_journals.proofs.Journaled.{lanes_are_journaled}
use Rattle.lane_journals.proofs.Ranges.{ranges_runs_are_of_lanes}
use Rattle.lane_journals.proofs.Witness.{upload_is_of_lanes}
use Rattle.lane_journals.proofs.laws.lanes_are_journaled.Goals as goal

pub returns : goal.returns
returns c = record {
  journaled = lanes_are_journaled;
  met = upload_is_of_lanes;
  met_again = ranges_runs_are_of_lanes;
}
