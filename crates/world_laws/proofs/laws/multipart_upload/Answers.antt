use Rattle.world_laws.proofs.InParts as in_parts
use Rattle.world_laws.proofs.PartsWitness.{parts_are_met}
use Rattle.world_laws.proofs.laws.multipart_upload.Goals as goal

pub returns-clause-stores : goal.returns-clause-stores
returns-clause-stores g c = in_parts.parts_are_stored g.R.Reading.shows

pub returns-clause-whole : goal.returns-clause-whole
returns-clause-whole g c = in_parts.parts_are_whole g.R.Reading.shows

pub returns-clause-met : goal.returns-clause-met
returns-clause-met g c = parts_are_met
