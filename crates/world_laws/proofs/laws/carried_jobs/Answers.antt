use Rattle.world_laws.proofs.Promises.{carried_is_given}
use Rattle.world_laws.proofs.laws.carried_jobs.Goals as goal

pub returns : goal.returns
returns g c = record { given = carried_is_given g.R.Reading.shows }
