use Rattle.lane_laws.proofs.RunLaw as law
use Rattle.lane_laws.proofs.law.jobs_are_carried.Goals as goal

pub returns : goal.returns
returns c = law.jobs_are_carried
