use Rattle.lane_journals.proofs.Journaled.{lanes_end_as_shown, lanes_tell_statuses}
use Rattle.lane_journals.proofs.laws.lanes_end_as_shown.Goals as goal

pub returns : goal.returns
returns g c = record { endings = lanes_end_as_shown; statuses = lanes_tell_statuses g.C.Command.call_failed }
