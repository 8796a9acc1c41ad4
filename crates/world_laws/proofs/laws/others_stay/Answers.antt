use Rattle.world_laws.proofs.Frame as frame
use Rattle.world_laws.proofs.Witnesses.{frame_is_met}
use Rattle.world_laws.proofs.laws.others_stay.Goals as goal

pub returns-clause-stay : goal.returns-clause-stay
returns-clause-stay g c limits run part bucket key of begins =
    frame.others_stay g.R.Reading.shows limits run.start run.trace run.dispatched run.journal of.runs of.fits bucket key part begins.0 begins.1

pub returns-clause-met : goal.returns-clause-met
returns-clause-met g c = frame_is_met
