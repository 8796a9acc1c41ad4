use Rattle.run_schedule.proofs.Sent.{journals_show_sent}
use Rattle.run_schedule.proofs.laws.journals_show_sent.Goals as goal

pub returns : goal.returns
returns g c = journals_show_sent g.R.Reading.shows
